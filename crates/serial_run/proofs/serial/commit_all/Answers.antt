use Rattle.std.proofs.Common.{refl, ◌∙◌, sym, subst, arith}
use Rattle.vep_manager.specs.declared.setup.Setup.{Setup}
use Rattle.vep_manager.specs.Setup.{IsSound}
use Rattle.serial_run.proofs.Turns.{at_first, in_full, in_full_idle}
use Rattle.serial_run.proofs.serial.commit_all.Goals as goal

pub loop-round-init : goal.loop-round-init
loop-round-init c = (refl, at_first c.args.manager.now.setup c.args.manager.now.history c.requires.empty)

pub loop-round-preserved : goal.loop-round-preserved
loop-round-preserved c = (
  c.round.ensures.setup
      ∙ c.loop-round.invariant.0,
  c.round.ensures.round c.loop-round._round c.loop-round.invariant.1,
)

pub returns-then-not-round-clause-rounds : goal.returns-then-not-round-clause-rounds
returns-then-not-round-clause-rounds c =
    in_full_idle c.loop-round.manager.setup c.round.new.manager.setup c.loop-round._round c.loop-round.manager.history
    c.round.new.manager.history c.round.ensures.setup (c.round.ensures.idle c.if-not-round.true)
    c.loop-round.invariant.1 (c.round.ensures.round c.loop-round._round c.loop-round.invariant.1)

pub returns-clause-rounds : goal.returns-clause-rounds
returns-clause-rounds c =
    let Sound = λ (setup : Setup). IsSound setup in
    in_full c.loop-round.manager.setup c.loop-round._round c.loop-round.manager.history
    (subst Sound (sym c.loop-round.invariant.0) c.requires.sound) (omega arith) c.loop-round.invariant.1
