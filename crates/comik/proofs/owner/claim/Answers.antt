use Rattle.std.proofs.Common.{sym, ap, ◌∙◌}
use Rattle.comik.specs.Parts.{claimed_slot}
use Rattle.comik.proofs.Owners.{claimed_more}
use Rattle.comik.proofs.owner.claim.Goals as goal

pub loop-slot-preserved : goal.loop-slot-preserved
loop-slot-preserved c =
    c.claim_slot.ensures
    ∙ ap (claimed_slot c.args.slots c.args.part c.loop-slot.slot) c.loop-slot.invariant
    ∙ sym (claimed_more c.args.slots c.args.part c.loop-slot.slot c.args.owners.now)
