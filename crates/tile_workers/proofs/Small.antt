-- Setups and stations of the tests.
use Rattle.std.proofs.Common.{◌≡◌, ℕ, ◌≤◌, List, [], ◌∷◌, length, map, take, ap, ◌∙◌, arith}
use Rattle.std.specs.List.{All}
use Rattle.std.proofs.lemmas.List.Elements.{All-nil, All-cons, All-map, All-take}
use Rattle.std.proofs.lemmas.List.Sums.{sum_by-le}
use Rattle.std.proofs.lemmas.Nat.{mul-le}
use Rattle.bundle_model.specs.declared.world.World.{World}
use Rattle.bundle_model.specs.declared.world.LoadName.{LoadName}
use Rattle.bundle_model.specs.World.{IsSoundCatalog}
use Rattle.script_file.specs.declared.command.Script.{Script}
use Rattle.vep_manager.specs.declared.setup.Setup.{Setup}
use Rattle.vep_manager.specs.Setup.{IsSound, stated_cycle}
use Rattle.tile_core.specs.declared.station.Station.{Station}
use Rattle.tile_core.specs.Tile.{TileState, fresh_tile}
use Rattle.tile_core.specs.Station.{StationState, station_state}
use Rattle.tile_core.proofs.Laws.{fresh_at}
use Rattle.tile_workers.proofs.Zips.{all_unmap}

-- one short script makes a sound setup
pub one_script : (setup : Setup) → IsSoundCatalog setup.world → length setup.scripts ≡ 1
    → All (λ script. length script.commands ≡ 1) setup.scripts
    → All (λ script. All (λ command. stated_cycle command ≤ 8) script.commands) setup.scripts → setup.budget ≤ 100
    → IsSound setup
one_script setup catalog one short low budget =
    let few : All (λ script. length script.commands ≤ 1) setup.scripts =
    λ place d inside. let here = short place d inside in omega arith in
    let total = sum_by-le (λ (script : Script). length script.commands) 1 setup.scripts few in
    let cycles = mul-le setup.budget setup.world.platform.slot_cycles 100 64 budget
    setup.world.platform.slot_cycles_in_range.1 in
    record {
      catalog = catalog;
      some_script = omega arith;
      few_scripts = omega arith;
      few_commands = omega arith;
      cycles = λ place d inside i e below. let here = low place d inside i e below in omega arith;
      budget = omega arith;
    }

-- tiles that are fresh are at slot 0
pub fresh_low : (world : World) (loads : List LoadName) (stations : List Station) (numbers : List ℕ)
    → map (λ (station : Station). station.tile) stations ≡ map (fresh_tile world loads) numbers
    → All (λ station. station.tile.at ≡ 0) stations
fresh_low world loads [] numbers same = All-nil (λ (station : Station). station.tile.at ≡ 0)
fresh_low world loads (station ∷ stations) [] same = cc
fresh_low world loads (station ∷ stations) (number ∷ numbers) same =
    let first : station.tile ≡ fresh_tile world loads number = cc in
    let rest : map (λ (other : Station). other.tile) stations ≡ map (fresh_tile world loads) numbers = cc in
    All-cons (λ (other : Station). other.tile.at ≡ 0) station stations
    (ap (λ (tile : TileState). tile.at) first ∙ fresh_at world loads number)
    (fresh_low world loads stations numbers rest)

-- what holds of all stations holds of the first ones
pub some_of : (P : StationState → Type 0) (count : ℕ) (stations : List Station) → All P (map station_state stations)
    → All P (map station_state (take count stations))
some_of P count stations all =
    All-map P station_state (take count stations)
    (All-take (λ (station : Station). P (station_state station)) count stations
    (all_unmap P station_state stations all))
