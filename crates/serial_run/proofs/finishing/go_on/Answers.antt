use Rattle.std.proofs.Common.{List, subst, arith}
use Rattle.bundle_model.specs.declared.world.Grant.{Grant}
use Rattle.grant_tables.specs.Turns.{AreQuiet}
use Rattle.serial_run.proofs.finishing.go_on.Goals as goal

pub loop-slot-preserved : goal.loop-slot-preserved
loop-slot-preserved c =
    let (going, within, run, quiet, low) = c.loop-slot.invariant in
    let Quiet = λ (items : List Grant). AreQuiet items c.loop-slot.slot c.turn_from-turn.result in (
      c.round.ensures.going,
      c.round.ensures.within c.args.until (omega arith) within,
      λ loads before. c.round.ensures.run loads (run loads before),
      λ slot from below. subst Quiet c.as_slice-grants.ensures.value c.turn_from-turn.ensures slot
          (omega (arith, from)) below,
      omega arith,
    )
