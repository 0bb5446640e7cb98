use Rattle.std.proofs.Common.{◌∙◌, length, ap, arith}
use Rattle.std.proofs.lemmas.Bool.{or_parts}
use Rattle.vep_manager.specs.declared.setup.Setup.{Setup}
use Rattle.serial_run.proofs.Turns.{round_over}
use Rattle.serial_run.proofs.serial.round.Goals as goal

pub loop-session-preserved : goal.loop-session-preserved
loop-session-preserved c = (
  c.turn-busy.ensures.setup ∙ c.loop-session.invariant.0,
  λ rounds at. c.turn-busy.ensures.turn rounds (c.loop-session.invariant.1 rounds at),
  λ quiet. let (before, now) =
      or_parts c.loop-session.busy c.turn-busy.result quiet in c.turn-busy.ensures.idle now
      ∙ c.loop-session.invariant.2 before,
)

pub returns-clause-round : goal.returns-clause-round
returns-clause-round c = λ rounds at.
    let same = ap (λ (setup : Setup). length setup.scripts) c.loop-session.invariant.0 in
    round_over c.loop-session.manager.setup rounds c.loop-session.session c.loop-session.manager.history
    (omega (arith, same)) (c.loop-session.invariant.1 rounds at)
