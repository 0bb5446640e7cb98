use Rattle.std.proofs.Common.{◌≡◌, ◌+◌, ◌%◌, ◌++◌, map}
use Rattle.std.specs.List.{range_with_len}
use Rattle.toml.specs.Data.{table}
use Rattle.toml.specs.View.{view}
use Rattle.workload.specs.Documents.{link_table}
use Rattle.workload.proofs.platform.push_onward.Given as goal

abbrev pub invariant-loop-tile : goal.invariant-loop-tile
invariant-loop-tile l = map view l.links.items ≡ map view l.fn.links.items ++ map (λ tile. table (link_table tile ((tile + 1) % 16) 0)) (range_with_len 0 l.tile)
