use Rattle.std.proofs.Common.{◌≡◌, ◌+◌, ℕ, Some, ap, sym, ◌∙◌}
use Rattle.std.specs.List.{slice_get}
use Rattle.std.specs.Option.{option_copied}
use Rattle.vep_manager.specs.declared.reply.Entry.{Entry}
use Rattle.vep_manager.specs.History.{commands_of, count_of}
use Rattle.vep_manager.specs.Manager.{ManagerState}
use Rattle.vep_manager.proofs.Nexts.{next_is}
use Rattle.vep_manager.proofs.manager.Manager.next.Goals as goal

pub returns-clause-entry : goal.returns-clause-entry
returns-clause-entry c =
    let setup = c.args.self.now.setup in
    let history = c.args.self.now.history in
    let there = λ (k : ManagerState). slice_get (commands_of k.setup c.args.session)
    (count_of history c.args.session) in
    let at : there c.args.self.now ≡ Some c.in-Some.command.now =
    sym (ap there c.self.view_is)
    ∙ sym (ap (slice_get (commands_of c.self.inside.setup.now c.args.session)) c.done-done.ensures.count)
    ∙ sym c.command_after.ensures ∙ ap option_copied c.in-Some.is in
    let entry = λ (n : ℕ). let e : Entry =
    record { session = c.args.session; index = n + 1; reply = c.in-Some-reply.reply } in Some e in
    ap entry c.done-done.ensures.count
    ∙ sym (next_is c.args.self.now c.args.session c.in-Some.command.now c.in-Some-reply.reply at
    (sym c.reply.ensures ∙ c.in-Some-reply.is))
