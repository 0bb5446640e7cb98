use Rattle.std.proofs.Common.{◌≡◌, ◌+◌, List, map, vec_len, vec_capacity}
use Rattle.std.specs.List.{All}
use Rattle.bundle_model.specs.declared.world.World.{World}
use Rattle.bundle_model.specs.declared.world.LoadName.{LoadName}
use Rattle.live_run.specs.inner.Hands.{gathered}
use Rattle.live_run.specs.inner.Workers.{IsFirst, hand, schedule_of}
use Rattle.live_run.proofs.crew.deal.Given as goal

abbrev pub invariant-loop : goal.invariant-loop
invariant-loop l =
    (l.counter + vec_len l.stations ≡ l.end) × (l.end ≡ vec_len l.fn.stations)
    × (vec_len l.crew ≡ vec_len l.fn.crew) × (vec_capacity l.stations ≡ vec_capacity l.fn.stations)
    × (map schedule_of l.crew.items ≡ map schedule_of l.fn.crew.items)
    × (gathered (vec_len l.fn.crew) l.counter (vec_len l.stations) l.stations.items (map hand l.crew.items)
    ≡ l.fn.stations.items)
    × ((world : World) (loads : List LoadName) → All (IsFirst world loads) l.fn.stations.items
    → All (All (IsFirst world loads)) (map hand l.fn.crew.items)
    → All (IsFirst world loads) l.stations.items × All (All (IsFirst world loads)) (map hand l.crew.items))
