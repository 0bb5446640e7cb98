use Rattle.std.proofs.Common.{refl}
use Rattle.vep_manager.specs.Loads.{loads_of}
use Rattle.event_core.proofs.core_tests.two_tiles.Goals as goal

pub invariant_of-result : goal.invariant_of-result
unfolding loads_of
invariant_of-result c = record {
  loads_named = rw (c.new-2.ensures, c.new.ensures, c.in_ok-scripts.ensures) refl;
  loads_known = rw c.new-2.ensures refl;
}
