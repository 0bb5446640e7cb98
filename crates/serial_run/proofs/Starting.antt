-- Stations before their first round.
use Rattle.std.proofs.Common.{◌≡◌, ℕ, ◌<◌, ◌≤◌, List, [], ◌∷◌, zero, suc, map, take, get_or, slice_get, length, All, sym, subst, refl, ◌∙◌, arith}
use Rattle.std.proofs.lemmas.Option.{slice_get_within}
use Rattle.bundle_model.specs.declared.world.World.{World}
use Rattle.bundle_model.specs.declared.world.Schedule.{Schedule}
use Rattle.platform_model.specs.declared.link.Link.{Link}
use Rattle.tile_core.specs.declared.station.Station.{Station}
use Rattle.tile_core.specs.Fit.{IsUnderway}
use Rattle.tile_core.specs.Station.{StationState, Ends, station_state, HasRun, HaveRun}
use Rattle.tile_core.proofs.Laws.{run_underway}
use Rattle.serial_run.specs.Run.{CanFinish}
use Rattle.serial_run.specs.declared.hops.Hop.{Hop}
use Rattle.serial_run.specs.inner.Hops.{AreHops, AllAtEnds, all_ends}
use Rattle.serial_run.specs.inner.Carrying.{IsCarried}
use Rattle.serial_run.specs.inner.Going.{AreGoing, AreWithin}
use Rattle.serial_run.proofs.Stepped.{all_unmap, seen_all}

front_at : {X : Type 0} (xs : List X) (n k : ℕ) → k < n → slice_get (take n xs) k ≡ slice_get xs k
front_at [] zero k low = refl
front_at [] (suc n) k low = refl
front_at (x ∷ xs) zero k low = absurd (omega arith)
front_at (x ∷ xs) (suc n) zero low = refl
front_at (x ∷ xs) (suc n) (suc k) low = front_at xs n k (omega arith)

-- of more places the first are enough
pub front_places : (stations : List Ends) (links : List Link) (hops : List Hop) → AreHops stations links hops
    → AreHops stations links (take (length links) hops)
front_places stations links hops places number link at =
    let (hop, hop_at, is) = places number link at in
    (hop, front_at hops (length links) number (slice_get_within links number link at) ∙ hop_at, is)

module _ (world : World) (schedule : Schedule) (until : ℕ) (old new : List Station)
    (can : CanFinish world schedule until old)
    (seen : map station_state new ≡ map station_state old) where
  all_underway : All (λ station. IsUnderway world schedule station.tile) old
  all_underway k d inside =
      run_underway world can.loads schedule (station_state (get_or old k d)) can.sound can.apart can.of_loads
      can.bounded
      (all_unmap (HasRun world can.loads schedule.grants.items) station_state old can.run.each k d inside)

  pub going_first : (hops : List Hop) → AreHops (all_ends (map station_state old)) world.platform.links hops
      → length hops ≡ length world.platform.links → AllAtEnds IsCarried new hops → AreGoing world schedule hops 0 new
  going_first hops places as_many carried =
      let Have = HaveRun world can.loads schedule.grants.items in
      let Hops = λ (states : List StationState). AreHops (all_ends states) world.platform.links hops in
      record {
        loads = can.loads;
        run = subst Have (sym seen) can.run;
        underway = seen_all (IsUnderway world schedule) old new seen all_underway;
        least = λ k d inside. omega arith;
        places = subst Hops (sym seen) places;
        as_many = as_many;
        carried = carried;
      }

  pub within_first : AreWithin until new
  within_first = seen_all (λ tile. tile.at ≤ until) old new seen can.low
