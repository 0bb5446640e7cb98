use Rattle.std.proofs.Common.{◌∙◌, refl}
use Rattle.vep_manager.specs.Loads.{loads_of}
use Rattle.event_core.proofs.core_tests.one_tile.Goals as goal

pub invariant_of-result : goal.invariant_of-result
unfolding loads_of
invariant_of-result c =
    let (judged, catalog) = c.in_ok-world.ensures.one in
    let loads = c.from_vec-loads.ensures ∙ c.in_ok-vec.ensures.items in
    record {
      loads_named = rw (loads, catalog, c.in_ok-scripts.ensures) refl;
      loads_known = rw (loads, catalog) refl;
    }
