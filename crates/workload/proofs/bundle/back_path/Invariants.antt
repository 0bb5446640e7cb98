use Rattle.std.proofs.Common.{◌≡◌, ◌+◌, ◌-◌, ◌%◌, map}
use Rattle.std.specs.List.{range_with_len}
use Rattle.workload.proofs.bundle.back_path.Given as goal

abbrev pub invariant-loop-hop : goal.invariant-loop-hop
invariant-loop-hop l = l.path.items ≡ map (λ n. 16 + (l.fn.drawn.tile + l.fn.drawn.hops - 1 - n) % 16) (range_with_len 0 l.hop)
