use Rattle.std.proofs.Common.{◌≡◌, ◌-◌, ◌≤◌, [], map, vec_len, vec_capacity}
use Rattle.live_run.specs.inner.Hands.{gathered}
use Rattle.live_run.specs.inner.Workers.{hand}
use Rattle.live_run.proofs.crew.gather.Given as goal

abbrev pub invariant-loop-number : goal.invariant-loop-number
invariant-loop-number l =
    (l.number ≤ l.fn.count) × (vec_len l.crew ≡ vec_len l.fn.crew) × (vec_len l.stations ≤ l.number)
    × (vec_capacity l.stations ≡ vec_capacity l.fn.stations)
    × (gathered (vec_len l.fn.crew) (l.fn.count - l.number) l.number l.stations.items (map hand l.crew.items)
    ≡ gathered (vec_len l.fn.crew) l.fn.count 0 [] (map hand l.fn.crew.items))
