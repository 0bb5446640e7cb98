use Rattle.std.proofs.Common.{◌≡◌, suc, ◌+◌, ◌-◌, map, sym, ap, ◌∙◌, vec_len, arith}
use Rattle.live_run.specs.inner.Hands.{gathered}
use Rattle.live_run.specs.inner.Workers.{hand}
use Rattle.live_run.proofs.Hands.{gathered_more, gathered_none}
use Rattle.live_run.proofs.crew.gather.Goals as goal

pub loop-number-preserved : goal.loop-number-preserved
loop-number-preserved c =
    let (low, crew, few, capacity, whole) = c.loop-number.invariant in
    let step = c.gather_one.ensures in
    let more = step.more in
    let below = c.loop-number-test.true in
    let workers = vec_len c.args.crew.now in
    let number = c.loop-number.number in
    let left = c.args.count - (number + 1) in
    let items = c.loop-number.stations.items in
    let hands = map hand c.loop-number.crew.items in
    let one : c.args.count - number ≡ suc left = omega arith in
    let count : c.len.result ≡ workers = c.len.ensures ∙ crew in
    let next = sym (gathered_more workers left number items hands)
    ∙ ap (λ n. gathered workers n number items hands) (sym one) ∙ whole in (
      omega arith,
      step.count ∙ crew,
      omega arith,
      step.room ∙ capacity,
      rw (step.taken, step.left, count) next,
    )

pub returns : goal.returns
returns c =
    let (low, crew, few, capacity, whole) = c.loop-number.invariant in
    let high = c.loop-number-test.false in
    let none : c.args.count - c.loop-number.number ≡ 0 = omega arith in
    sym (gathered_none _ _ _ _ _ none) ∙ whole
