use Rattle.std.proofs.Common.{rules, ◌≡◌, ◌+◌, ◌%◌, ◌<◌, length, map, sym, ap, ◌∙◌, vec_len, mod-lt, arith}
use Rattle.std.proofs.lemmas.List.{length-map}
use Rattle.live_run.specs.inner.Hands.{gathered}
use Rattle.live_run.specs.inner.Workers.{IsFirst, hand}
use Rattle.live_run.proofs.Hands.{dealt_step, dealt_all}
use Rattle.live_run.proofs.crew.deal.Goals as goal

pub loop-init : goal.loop-init
unfolding gathered
loop-init c = search rules

pub loop-preserved : goal.loop-preserved
loop-preserved c =
    let (counts, end, crew, capacity, schedules, whole, first) = c.loop.invariant in
    let step = c.in_ok-deal_one.ensures in
    let fewer = step.fewer in
    let count = step.count in
    let old = map hand c.loop.crew.items in
    let place = vec_len c.deal_one.new.stations % vec_len c.loop.crew in
    let some = c.requires in
    let inside : place < vec_len c.loop.crew = mod-lt (vec_len c.deal_one.new.stations) (omega arith) in
    let below : place < length old = omega (arith, length-map c.loop.crew.items hand, inside) in
    let next : vec_len c.loop.stations ≡ vec_len c.deal_one.new.stations + 1 = omega arith in
    let before = ap (λ n. gathered (vec_len c.args.crew.now) c.loop.counter n c.loop.stations.items old) (sym next)
    ∙ whole in (
      omega arith,
      end,
      count ∙ crew,
      step.room ∙ capacity,
      step.schedules ∙ schedules,
      dealt_step (vec_len c.args.crew.now) c.loop.counter (vec_len c.deal_one.new.stations) place _ _ _ _ _ step.dealt
          (ap (λ n. vec_len c.deal_one.new.stations % n) crew) below before,
      λ world loads its all. let both = first world loads its all in
          dealt_all (IsFirst world loads) place _ _ _ _ step.dealt both.0 both.1,
    )

pub returns-clause-first : goal.returns-clause-first
returns-clause-first c = λ world loads its all.
    let (counts, end, crew, capacity, schedules, whole, first) = c.loop.invariant in
    (first world loads its all).1
