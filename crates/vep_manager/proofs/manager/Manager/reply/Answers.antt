use Rattle.std.proofs.Common.{◌∙◌, ap, ap₂}
use Rattle.std.specs.Option.{option_map}
use Rattle.vep_manager.specs.History.{granted_slot}
use Rattle.vep_manager.specs.Manager.{ManagerState}
use Rattle.vep_manager.specs.Replies.{load_reply, judged_of}
use Rattle.vep_manager.proofs.manager.Manager.reply.Goals as goal

pub returns-in-Load : goal.returns-in-Load
returns-in-Load c =
    let setup = c.args.self.now.setup in
    let history = c.args.self.now.history in
    rw c.in-Load.is (c.load_reply.ensures
    ∙ ap₂ (λ label start. option_map (load_reply setup history label start) (judged_of setup label))
    c.next_label.ensures (c.slot_for.ensures
    ∙ ap (λ (k : ManagerState). granted_slot k.setup c.in-Load.cycle) c.self.view_is))
