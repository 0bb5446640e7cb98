-- Stations of which one tried a slot can still go on.
use Rattle.std.proofs.Common.{◌≡◌, ℕ, ◌<◌, ◌≤◌, List, [], ◌∷◌, map, set, get_or, length, refl, sym, ap, ◌∙◌, arith}
use Rattle.std.proofs.Math.Seq.{map-set_same}
use Rattle.std.proofs.lemmas.List.Elements.{All-map, All-set}
use Rattle.bundle_model.specs.declared.world.World.{World}
use Rattle.bundle_model.specs.declared.world.Schedule.{Schedule}
use Rattle.bundle_model.specs.declared.world.LoadName.{LoadName}
use Rattle.tile_core.specs.declared.station.Station.{Station}
use Rattle.tile_core.specs.declared.turn.Turn.{Turn}
use Rattle.tile_core.specs.declared.turn.Turn.TheVariants.{Moved, NotYet}
use Rattle.tile_core.specs.Fit.{IsUnderway}
use Rattle.tile_core.specs.Tile.{TileState}
use Rattle.tile_core.specs.Station.{StationState, Ends, station_state, ends_of, KeepsEnds, HasRun}
use Rattle.tile_core.specs.Turns.{TriesSlot}
use Rattle.tile_core.proofs.Laws.{run_underway, slot_at}
use Rattle.serial_run.specs.Run.{CanFinish}
use Rattle.serial_run.specs.inner.Hops.{all_ends}
use Rattle.serial_run.proofs.Stepped.{all_unmap, linked_same, numbers_by_ends}

-- what each station is underway with
pub one_underway : (world : World) (schedule : Schedule) (until : ℕ) (stations : List Station)
    → CanFinish world schedule until stations → (k : ℕ) (d : Station) → k < length stations
    → IsUnderway world schedule (get_or stations k d).tile
one_underway world schedule until stations can k d inside =
    run_underway world can.loads schedule (station_state (get_or stations k d)) can.sound can.apart can.of_loads
    can.bounded (all_unmap (HasRun world can.loads schedule.grants.items) station_state stations can.run.each k
    d inside)

ends_once : (stations : List Station)
    → all_ends (map station_state stations) ≡ map (λ station. ends_of (station_state station)) stations
ends_once [] = refl
ends_once (station ∷ stations) = ap (λ (ends : List Ends). ends_of (station_state station) ∷ ends) (ends_once stations)

-- a try doesn't come past the horizon
tried_low : (world : World) (schedule : Schedule) (old new : Station) (turn : Turn)
    → TriesSlot world schedule old new turn → old.tile.at ≤ schedule.horizon → new.tile.at ≤ schedule.horizon
tried_low world schedule old new Moved tries low =
    let moves = tries.0 in
    let at = ap (λ (tile : TileState). tile.at) moves.advances.tile ∙ slot_at world schedule.grants.items _ old.tile in
    omega (arith, at, moves.below)
tried_low world schedule old new (NotYet lack) tries low =
    let same = ap (λ (state : StationState). state.tile.at) tries.same in omega (arith, same)

module _ (world : World) (schedule : Schedule) (stations : List Station) (k : ℕ) (d new : Station) (turn : Turn)
    (inside : k < length stations) (can : CanFinish world schedule schedule.horizon stations)
    (ends : KeepsEnds (station_state (get_or stations k d)) (station_state new))
    (run : (loads : List LoadName) → HasRun world loads schedule.grants.items (station_state (get_or stations k d))
    → HasRun world loads schedule.grants.items (station_state new))
    (tries : TriesSlot world schedule (get_or stations k d) new turn) where
  same_ends : all_ends (map station_state (set stations k new)) ≡ all_ends (map station_state stations)
  same_ends =
      ends_once (set stations k new)
      ∙ map-set_same (λ (s : Station). ends_of (station_state s)) stations k new d ends ∙ sym (ends_once stations)

  pub still_can : CanFinish world schedule schedule.horizon (set stations k new)
  still_can =
      let Run = λ (s : Station). HasRun world can.loads schedule.grants.items (station_state s) in
      let Low = λ (s : Station). s.tile.at ≤ schedule.horizon in
      let was = all_unmap (HasRun world can.loads schedule.grants.items) station_state stations can.run.each in
      let old = map station_state stations in
      let now = map station_state (set stations k new) in
      record {
        loads = can.loads;
        sound = can.sound;
        run = record {
          in_order = numbers_by_ends now ∙ ap (map (λ (e : Ends). e.number)) same_ends ∙ sym (numbers_by_ends old)
              ∙ can.run.in_order;
          each = All-map (HasRun world can.loads schedule.grants.items) station_state (set stations k new)
              (All-set Run stations k new (run can.loads (was k d inside)) was);
          linked = linked_same world.platform.links old now same_ends can.run.linked;
        };
        low = All-set Low stations k new (tried_low world schedule (get_or stations k d) new turn tries
            (can.low k d inside)) can.low;
        apart = can.apart;
        of_loads = can.of_loads;
        reached = can.reached;
        bounded = can.bounded;
      }

at_most : (until horizon at : ℕ) → until ≤ horizon → at ≤ until → at ≤ horizon
at_most until horizon at reached low = omega arith

-- stations that can go on up to a slot can up to the horizon
pub up_to_horizon : (world : World) (schedule : Schedule) (until : ℕ) (stations : List Station)
    → CanFinish world schedule until stations → CanFinish world schedule schedule.horizon stations
up_to_horizon world schedule until stations can = record {
  loads = can.loads;
  sound = can.sound;
  run = can.run;
  low = λ k d inside. at_most until schedule.horizon (get_or stations k d).tile.at can.reached (can.low k d inside);
  apart = can.apart;
  of_loads = can.of_loads;
  reached = omega arith;
  bounded = can.bounded;
}
