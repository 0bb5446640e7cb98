use Rattle.std.proofs.Common.{◌≤◌, length, ap, arith}
use Rattle.std.proofs.lemmas.List.Sums.{count_by-le-length}
use Rattle.std.specs.Prelude.{◌==◌}
use Rattle.vep_manager.specs.declared.reply.Entry.{Entry}
use Rattle.vep_manager.specs.History.{commands_of, count_of}
use Rattle.vep_manager.specs.Manager.{ManagerState}
use Rattle.vep_manager.proofs.Keeping.{kept_count, kept_entries}
use Rattle.vep_manager.proofs.manager.Manager.done.Goals as goal

pub returns-clause-within : goal.returns-clause-within
returns-clause-within c =
    let low = kept_count c.args.session c.self.invariant.0 in
    let P = λ (k : ManagerState). count_of k.history c.args.session ≤ length (commands_of k.setup c.args.session) in
    rw (c.count.ensures, c.as_slice.ensures.value) (rw (← c.self.view_is) low)

pub returns-clause-few : goal.returns-clause-few
returns-clause-few c =
    let few = kept_entries c.self.invariant.0 in
    let count = count_by-le-length (λ (e : Entry). e.session == c.args.session) c.as_slice.result.now in
    omega (arith, few, count, c.count.ensures, ap length c.as_slice.ensures.value)
