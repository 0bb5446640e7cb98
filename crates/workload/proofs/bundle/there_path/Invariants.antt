use Rattle.std.proofs.Common.{◌≡◌, ◌+◌, ◌%◌, map}
use Rattle.std.specs.List.{range_with_len}
use Rattle.workload.proofs.bundle.there_path.Given as goal

abbrev pub invariant-loop-hop : goal.invariant-loop-hop
invariant-loop-hop l = l.path.items ≡ map (λ n. (l.fn.drawn.tile + n) % 16) (range_with_len 0 l.hop)
