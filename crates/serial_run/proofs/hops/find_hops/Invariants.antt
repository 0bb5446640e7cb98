use Rattle.std.proofs.Common.{◌≡◌, ℕ, ◌<◌, length, map, slice_get, Some}
use Rattle.soc_base.specs.declared.limits.TheConstants.{MOST_LINKS}
use Rattle.platform_model.specs.declared.link.Link.{Link}
use Rattle.tile_core.specs.Station.{station_state}
use Rattle.serial_run.specs.declared.hops.Hop.{Hop}
use Rattle.serial_run.specs.inner.Hops.{all_ends, IsHop}
use Rattle.serial_run.proofs.hops.find_hops.Given as goal

abbrev pub invariant-loop-number : goal.invariant-loop-number
invariant-loop-number l =
    (length l.hops ≡ MOST_LINKS)
    × ((number : ℕ) (link : Link) → number < l.number → slice_get l.links number ≡ Some link
    → (hop : Hop) × (slice_get l.hops number ≡ Some hop)
    × IsHop (all_ends (map station_state l.stations)) number link hop)
