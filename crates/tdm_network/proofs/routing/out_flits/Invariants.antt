use Rattle.std.proofs.Common.{◌≡◌, map, take, length}
use Rattle.tdm_network.specs.Routing.{out_flit}
use Rattle.tdm_network.proofs.routing.out_flits.Given as goal

abbrev pub invariant-loop-out : goal.invariant-loop-out
invariant-loop-out l = (length l.links ≡ 7) × (take l.out l.links ≡ map (out_flit l.inputs l.injected) (take l.out l.outs))
