use Rattle.std.proofs.Common.{◌-◌, sym, arith}
use Rattle.soc_base.proofs.Laws.{steps_none}
use Rattle.alone_model.specs.App.{part_step}
use Rattle.alone_model.proofs.Ended.{ended_stays}
use Rattle.alone_model.proofs.Stretches.{steps_join}
use Rattle.alone_model.proofs.part.RunningPart.run.Goals as goal

pub loop-at-init : goal.loop-at-init
loop-at-init c =
    let step = part_step c.args.platform.now c.args.start in
    record {
      cycles = sym (steps_none step c.args.from (c.args.from - c.args.from) c.args.self.now (omega arith));
      later = omega arith;
      within = omega arith;
    }

-- a part that has ended stays in the cycles that are left
pub returns-then-has_ended : goal.returns-then-has_ended
returns-then-has_ended c =
    let platform = c.args.platform.now in
    let at = c.loop-at.at in
    let now = c.loop-at.self in
    let so_far = c.loop-at.invariant in
    let stays = ended_stays platform c.args.start at (c.args.to - at) now (sym c.if-has_ended.ensures) in
    steps_join (part_step platform c.args.start) c.args.from at c.args.to c.args.self.now now now so_far.later so_far.within so_far.cycles (sym stays)

pub loop-at-preserved : goal.loop-at-preserved
loop-at-preserved c =
    let step = part_step c.args.platform.now c.args.start in
    let so_far = c.loop-at.invariant in
    let next = c.run_instance-at in
    record {
      cycles = steps_join step c.args.from c.loop-at.at next.result c.args.self.now c.loop-at.self next.new.self so_far.later (omega arith) so_far.cycles next.ensures.cycles;
      later = omega arith;
      within = omega arith;
    }
