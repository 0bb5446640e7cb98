use Rattle.std.proofs.Common.{◌≡◌, List, map, take}
use Rattle.tile_core.specs.inner.Joined.{MadeLink, AreJoined}
use Rattle.tile_core.proofs.making.join_all.Given as goal

abbrev pub invariant-loop-number : goal.invariant-loop-number
invariant-loop-number l =
    (made : List MadeLink) × (map (λ one. one.link) made ≡ take l.number l.fn.links)
    × AreJoined (map (λ station. station.tile) l.fn.stations) made l.stations
