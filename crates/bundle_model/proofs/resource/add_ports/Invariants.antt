use Rattle.std.proofs.Common.{◌≡◌, ◌++◌, map, take}
use Rattle.bundle_model.specs.declared.resource.Resource.TheVariants.{Port}
use Rattle.bundle_model.proofs.resource.add_ports.Given as goal

abbrev pub invariant-loop-port : goal.invariant-loop-port
invariant-loop-port l = l.list.items ≡ l.fn.list.items ++ map (Port l.tile) (take l.port-index l.ports)
