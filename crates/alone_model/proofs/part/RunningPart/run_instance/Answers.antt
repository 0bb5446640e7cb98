use Rattle.std.proofs.Common.{◌≡◌, false, true, sym, ◌∙◌, arith}
use Rattle.platform_model.specs.Platform.{frame_of}
use Rattle.alone_model.proofs.Stretches.{InInstance, runs_at, idle_instance, run_instance}
use Rattle.alone_model.proofs.part.RunningPart.run_instance.Goals as goal
use Rattle.alone_model.proofs.part.RunningPart.run_instance.Goals.{else-first-end-via-then-first-end+else-runs, else-first-end-via-else-first-end}

-- the part runs in the instance
pub returns-then-runs-clause-cycles : goal.returns-then-runs-clause-cycles
returns-then-runs-clause-cycles c =
    let platform = c.args.platform.now in
    let start = c.args.start in
    let first = c.max-first.result in
    let end = c.min-end.result in
    let here : InInstance (frame_of platform) c.args.from first end =
    record { ordered = omega arith; within = omega arith; is = omega arith } in
    let run : runs_at platform start c.args.self.now first ≡ true = grind arith in
    c.run_all.ensures ∙ sym (run_instance platform start c.args.from first end c.args.self.now here c.if-first-end.true run)

-- it doesn't, or the cycles end before its partition's
pub returns-else-first-end-clause-cycles : goal.returns-else-first-end-clause-cycles
returns-else-first-end-clause-cycles c =
    let platform = c.args.platform.now in
    let start = c.args.start in
    let first = c.max-first.result in
    let end = c.min-end.result in
    let here : InInstance (frame_of platform) c.args.from first end =
    record { ordered = omega arith; within = omega arith; is = omega arith } in
    let stays = idle_instance platform start c.args.from first end c.args.self.now here in
    elim c.else-first-end.branch [
      | else-first-end-via-then-first-end+else-runs w ↦
          let idle : runs_at platform start c.args.self.now first ≡ false = grind arith in
          sym (stays (λ some. idle))
      | else-first-end-via-else-first-end w ↦ sym (stays (λ some. absurd (omega (arith, some, w.if-first-end.false))))
    ]
