-- What a tile was made for stays: in a part that leaves or comes, and in a cycle.
use Rattle.std.proofs.Common.{◌≡◌, ℕ, zero, suc, ◌+◌, ◌*◌, ◌≤◌, Bool, true, false, cond, nat_lt, List, [], ◌∷◌, filter, fold, length, map, slice_get, Option, Some, None, option_and_then, refl, sym, subst, ap, ap₂, ◌∙◌, All, arith}
use Rattle.std.proofs.lemmas.List.{length-map, length-set}
use Rattle.soc_base.specs.Frame.{IsFrame}
use Rattle.soc_base.specs.Steps.{after_steps}
use Rattle.soc_base.specs.Time.{offset_at, served_at}
use Rattle.platform_model.specs.declared.costs.Costs.{Costs}
use Rattle.platform_model.specs.Platform.{frame_of}
use Rattle.bundle_model.specs.declared.bundle.Part.{Part}
use Rattle.bundle_model.specs.declared.world.World.{World}
use Rattle.bundle_model.specs.declared.world.LoadName.{LoadName}
use Rattle.bundle_model.specs.declared.world.Grant.{Grant}
use Rattle.bundle_model.specs.World.{part_on, IsSoundCatalog}
use Rattle.bundle_model.specs.WellFormed.{IsWellFormedPart}
use Rattle.bundle_model.proofs.Laws.{is_part_on}
use Rattle.tile_memory.specs.Bytes.{IsInside, filled_bytes}
use Rattle.tile_memory.proofs.Laws.{length-with_region, length-filled_bytes, length-region_bytes}
use Rattle.part_model.specs.Part.{PartState, part_cycle}
use Rattle.comik.specs.Kernel.{without}
use Rattle.comik.specs.Table.{kernel_cycle}
use Rattle.comik.proofs.Laws.{row_parts, length_claimed}
use Rattle.std.proofs.lemmas.Option.{option_and_then_some}
use Rattle.tile_core.specs.Tile.{TileState, number_of, place_at, load_part, load_place, loads_on, free_sized}
use Rattle.tile_core.specs.Cycle.{core_place, held_state, with_state, run_part, run_place, run_held, tile_cycle}
use Rattle.tile_core.specs.Slot.{ends_in, begins_in, with_each, removed_if, after_end, with_ends, installed, installed_if, installed_at, after_start, with_starts}
use Rattle.tile_core.specs.Fit.{IsMadeFor}
use Rattle.ni_port.specs.SizedPort.{SizedPort, granted_sized}
use Rattle.tile_mmio.specs.Ports.{own_ports, put_ports, AreOwn}
use Rattle.tile_mmio.proofs.Laws.{length-put_ports}
use Rattle.part_model.proofs.Laws.{AreSamePorts, cycle_ports, cycle_size as bytes_kept}
use Rattle.tile_core.proofs.Queues.{queues_of, AreSized, same_queues, sized_as, same_count, sized_put, sized_each, sized_own, sized_ran, part_own}

-- the frame of a platform
pub frame_is : (world : World) → IsFrame (frame_of world.platform)
frame_is world = record {
  kernel_least = world.platform.kernel_cycles_in_range.0;
  kernel_most = world.platform.kernel_cycles_in_range.1;
  partition_least = world.platform.partition_cycles_in_range.0;
  partition_most = world.platform.partition_cycles_in_range.1;
  slots_least = world.platform.partition_slots_in_range.0;
  slots_most = world.platform.partition_slots_in_range.1;
}

-- the part of a load on a tile is sound
pub load_part_sound : (world : World) (t : TileState) (place : ℕ) (part : Part) → IsSoundCatalog world → load_part world t place ≡ Some part → IsWellFormedPart world.platform part
load_part_sound world t place part sound is =
    option_and_then_some (λ (load : LoadName). part_on world t.number load.bundle) (slice_get t.loads place) part is (λ load there on.
    (is_part_on world t.number load.bundle part sound on).sound)

-- its region lies in the tile's memory
pub load_part_inside : (world : World) (loads : List LoadName) (t : TileState) (place : ℕ) (part : Part) → IsSoundCatalog world → IsMadeFor world loads t → load_part world t place ≡ Some part → IsInside t.memory part.region
load_part_inside world loads t place part sound made is =
    let s = load_part_sound world t place part sound is in
    let size = made.size in
    let within = s.in_memory in
    omega arith

-- a tile of the same number, loads, frame, owners, sizes and counts
pub record IsAlike (t after : TileState) : Type 0 where
  pub number : after.number ≡ t.number
  pub at : after.at ≡ t.at
  pub frame : after.kernel.times ≡ t.kernel.times
  pub owners : length after.kernel.owners ≡ length t.kernel.owners
  pub size : length after.memory ≡ length t.memory
  pub places : length after.places ≡ length t.places
  pub loads : after.loads ≡ t.loads
  pub logs : length after.logs ≡ length t.logs
  pub ports : queues_of after.ports ≡ queues_of t.ports
  pub carried : after.carried ≡ t.carried

pub alike_same : (t : TileState) → IsAlike t t
alike_same t = record { number = refl; at = refl; frame = refl; owners = refl; size = refl; places = refl; loads = refl; logs = refl; ports = refl; carried = refl }

pub alike_more : (a b c : TileState) → IsAlike a b → IsAlike b c → IsAlike a c
alike_more a b c p q = record {
  number = q.number ∙ p.number;
  at = q.at ∙ p.at;
  frame = q.frame ∙ p.frame;
  owners = q.owners ∙ p.owners;
  size = q.size ∙ p.size;
  places = q.places ∙ p.places;
  loads = q.loads ∙ p.loads;
  logs = q.logs ∙ p.logs;
  ports = q.ports ∙ p.ports;
  carried = q.carried ∙ p.carried;
}

counts_as : (at later : ℕ) (counts after : List ℕ) → at ≡ later → counts ≡ after → All (λ count. count ≤ at) counts → All (λ count. count ≤ later) after
counts_as at later counts after same are within =
    let P : ℕ → Type 0 = λ n. All (λ count. count ≤ n) counts in
    let Q : List ℕ → Type 0 = λ xs. All (λ count. count ≤ later) xs in
    subst Q are (subst P same within)

-- it was made for what the other was
pub made_alike : (world : World) (loads : List LoadName) (t after : TileState) → IsAlike t after → IsMadeFor world loads t → IsMadeFor world loads after
made_alike world loads t after same made = record {
  number = let n = same.number in let low = made.number in omega arith;
  frame = same.frame ∙ made.frame;
  owners = same.owners ∙ made.owners;
  size = same.size ∙ made.size;
  places = same.places ∙ made.places;
  its_loads = same.loads ∙ made.its_loads ∙ ap (λ (n : ℕ). loads_on world n loads) (sym same.number);
  logs = same.logs ∙ made.logs ∙ ap (λ (xs : List LoadName). length xs) (sym same.loads);
  ports = same_count t.ports after.ports same.ports ∙ made.ports;
  queues = sized_as world.platform.queue t.ports after.ports same.ports made.queues;
  outputs = ap (λ (counts : List ℕ). length counts) same.carried ∙ made.outputs;
  counts = counts_as t.at after.at t.carried after.carried (sym same.at) (sym same.carried) made.counts;
}

-- and its loads have the same parts
pub parts_alike : (world : World) (t after : TileState) → IsAlike t after → load_part world after ≡ load_part world t
parts_alike world t after same =
    let parts : ℕ → List LoadName → ℕ → Option Part = λ n xs place. option_and_then (λ (load : LoadName). part_on world n load.bundle) (slice_get xs place) in
    ap₂ parts same.number same.loads

-- ports that are put in the places of a part's, all of the platform's size
each_queues : (world : World) (loads : List LoadName) (t : TileState) (port : SizedPort) (numbers : List ℕ) → IsMadeFor world loads t → port.queue ≡ world.platform.queue → queues_of (with_each port numbers t.ports) ≡ queues_of t.ports
each_queues world loads t port numbers made size =
    let own = map (λ number. port) numbers in
    let P : ℕ → Type 0 = λ queue. AreSized queue own in
    same_queues world.platform.queue t.ports (put_ports t.ports numbers own) (length-put_ports t.ports numbers own) made.queues
    (sized_put world.platform.queue t.ports numbers own made.queues (subst P size (sized_each port numbers)))

removed_alike : (world : World) (loads : List LoadName) (t : TileState) (part : Option Part) → IsMadeFor world loads t → IsAlike t (removed_if world t part)
removed_alike world loads t None made = alike_same t
removed_alike world loads t (Some part) made = record {
  number = refl;
  at = refl;
  frame = refl;
  owners = length-map t.kernel.owners (without (number_of part));
  size = refl;
  places = length-set t.places (number_of part) None;
  loads = refl;
  logs = refl;
  ports = each_queues world loads t (free_sized world.platform.queue) part.ports made refl;
  carried = refl;
}

pub end_alike : (world : World) (loads : List LoadName) (t : TileState) (grant : Grant) → IsMadeFor world loads t → IsAlike t (after_end world t grant)
end_alike world loads t grant made = removed_alike world loads t (option_and_then (load_part world t) (load_place t grant.label)) made

pub ends_alike : (world : World) (loads : List LoadName) (grants : List Grant) (t : TileState) → IsMadeFor world loads t → IsAlike t (fold (after_end world) t grants)
ends_alike world loads [] t made = alike_same t
ends_alike world loads (grant ∷ grants) t made =
    let one = end_alike world loads t grant made in
    alike_more t (after_end world t grant) (fold (after_end world) (after_end world t grant) grants) one
    (ends_alike world loads grants (after_end world t grant) (made_alike world loads t (after_end world t grant) one made))

pub installed_alike : (world : World) (loads : List LoadName) (t : TileState) (place : ℕ) (part : Part) → IsMadeFor world loads t → IsInside t.memory part.region → 4 * length part.image ≤ part.region.len → IsAlike t (installed world t place part)
installed_alike world loads t place part made inside fits = record {
  number = refl;
  at = refl;
  frame = refl;
  owners = length_claimed part.slots (number_of part) t.kernel.owners;
  size = length-with_region t.memory part.region (filled_bytes part.region.len part.image) inside (length-filled_bytes part.region.len part.image fits);
  places = length-set t.places (number_of part) (Some place);
  loads = refl;
  logs = refl;
  ports = each_queues world loads t (granted_sized world.platform.queue) part.ports made refl;
  carried = refl;
}

come_alike : (world : World) (loads : List LoadName) (t : TileState) (place : ℕ) (part : Option Part) → IsSoundCatalog world → IsMadeFor world loads t → load_part world t place ≡ part → IsAlike t (installed_if world t place part)
come_alike world loads t place None sound made is = alike_same t
come_alike world loads t place (Some part) sound made is =
    installed_alike world loads t place part made (load_part_inside world loads t place part sound made is) (load_part_sound world t place part sound is).image_fits

come_at : (world : World) (loads : List LoadName) (t : TileState) (place : Option ℕ) → IsSoundCatalog world → IsMadeFor world loads t → IsAlike t (installed_at world t place)
come_at world loads t None sound made = alike_same t
come_at world loads t (Some place) sound made = come_alike world loads t place (load_part world t place) sound made refl

pub start_alike : (world : World) (loads : List LoadName) (t : TileState) (grant : Grant) → IsSoundCatalog world → IsMadeFor world loads t → IsAlike t (after_start world t grant)
start_alike world loads t grant sound made = come_at world loads t (load_place t grant.label) sound made

pub starts_alike : (world : World) (loads : List LoadName) (grants : List Grant) (t : TileState) → IsSoundCatalog world → IsMadeFor world loads t → IsAlike t (fold (after_start world) t grants)
starts_alike world loads [] t sound made = alike_same t
starts_alike world loads (grant ∷ grants) t sound made =
    let one = start_alike world loads t grant sound made in
    alike_more t (after_start world t grant) (fold (after_start world) (after_start world t grant) grants) one
    (starts_alike world loads grants (after_start world t grant) sound (made_alike world loads t (after_start world t grant) one made))

-- a tile with the same places, owners and slot tables besides
pub record IsKept (t after : TileState) : Type 0 where
  pub alike : IsAlike t after
  pub places : after.places ≡ t.places
  pub owners : after.kernel.owners ≡ t.kernel.owners
  pub tables : after.tables ≡ t.tables

pub kept_same : (t : TileState) → IsKept t t
kept_same t = record { alike = alike_same t; places = refl; owners = refl; tables = refl }

pub kept_more : (a b c : TileState) → IsKept a b → IsKept b c → IsKept a c
kept_more a b c p q = record { alike = alike_more a b c p.alike q.alike; places = q.places ∙ p.places; owners = q.owners ∙ p.owners; tables = q.tables ∙ p.tables }

-- the part that is held came to a state
pub state_kept : (t : TileState) (place : ℕ) (part : Part) (state : PartState) → IsInside t.memory part.region → length state.bytes ≡ part.region.len → queues_of (put_ports t.ports part.ports state.ports) ≡ queues_of t.ports → IsKept t (with_state t place part state)
state_kept t place part state inside fits queues = record {
  alike = record {
    number = refl;
    at = refl;
    frame = refl;
    owners = refl;
    size = length-with_region t.memory part.region state.bytes inside fits;
    places = refl;
    loads = refl;
    logs = length-set t.logs place state.log;
    ports = queues;
    carried = refl;
  };
  places = refl;
  owners = refl;
  tables = refl;
}

-- the ports of a part on a tile are its own
pub load_part_own : (world : World) (loads : List LoadName) (t : TileState) (place : ℕ) (part : Part) → IsSoundCatalog world → IsMadeFor world loads t → load_part world t place ≡ Some part → AreOwn t.ports part.ports
load_part_own world loads t place part sound made is = part_own world.platform part t.ports (load_part_sound world t place part sound is) made.ports

-- a part's ports after its cycles have the sizes that they had
cycle_queues : (world : World) (loads : List LoadName) (t : TileState) (numbers : List ℕ) (after : List SizedPort) → IsMadeFor world loads t → AreOwn t.ports numbers → AreSamePorts (own_ports t.ports numbers) after → queues_of (put_ports t.ports numbers after) ≡ queues_of t.ports
cycle_queues world loads t numbers after made own same =
    let queue = world.platform.queue in
    same_queues queue t.ports (put_ports t.ports numbers after) (length-put_ports t.ports numbers after) made.queues
    (sized_put queue t.ports numbers after made.queues (sized_ran queue (own_ports t.ports numbers) after same (sized_own queue t.ports numbers made.queues own.within)))

of_part : (world : World) (loads : List LoadName) (costs : Costs) (c : ℕ) (t : TileState) (place : ℕ) (part : Option Part) → IsSoundCatalog world → IsMadeFor world loads t → load_part world t place ≡ part → IsKept t (run_part costs c t place part)
of_part world loads costs c t place None sound made is = kept_same t
of_part world loads costs c t place (Some part) sound made is =
    let inside = load_part_inside world loads t place part sound made is in
    let state = held_state t place part in
    let after = part_cycle costs (core_place part) c state in
    state_kept t place part after inside (bytes_kept costs (core_place part) c state ∙ length-region_bytes t.memory part.region inside)
    (cycle_queues world loads t part.ports after.ports made (load_part_own world loads t place part sound made is) (cycle_ports costs (core_place part) c state))

of_place : (world : World) (loads : List LoadName) (costs : Costs) (c : ℕ) (t : TileState) (place : Option ℕ) → IsSoundCatalog world → IsMadeFor world loads t → IsKept t (run_place (load_part world t) costs c t place)
of_place world loads costs c t None sound made = kept_same t
of_place world loads costs c t (Some place) sound made = of_part world loads costs c t place (load_part world t place) sound made refl

of_held : (world : World) (loads : List LoadName) (costs : Costs) (c : ℕ) (t : TileState) (held : Option ℕ) → IsSoundCatalog world → IsMadeFor world loads t → IsKept t (run_held (load_part world t) costs c t held)
of_held world loads costs c t None sound made = kept_same t
of_held world loads costs c t (Some number) sound made = of_place world loads costs c t (place_at t number) sound made

of_kernel : (t : TileState) (c : ℕ) → IsKept t (record t { kernel = kernel_cycle t.kernel c })
of_kernel t c =
    let rows = row_parts t.kernel (served_at t.kernel.times c) (offset_at t.kernel.times c) in
    record {
      alike = record { number = refl; at = refl; frame = rows.times; owners = ap (λ (os : List (Option ℕ)). length os) rows.owners; size = refl; places = refl; loads = refl; logs = refl; ports = refl; carried = refl };
      places = refl;
      owners = rows.owners;
      tables = refl;
    }

pub cycle_kept : (world : World) (loads : List LoadName) (costs : Costs) (c : ℕ) (t : TileState) → IsSoundCatalog world → IsMadeFor world loads t → IsKept t (tile_cycle (load_part world t) costs c t)
unfolding tile_cycle
cycle_kept world loads costs c t sound made =
    let P : Bool → Type 0 = λ b. IsKept t (cond b (record t { kernel = kernel_cycle t.kernel c }) (run_held (load_part world t) costs c t t.kernel.held)) in
    let both : (b : Bool) → P b = λ b. elim b as P [ true ↦ of_kernel t c | false ↦ of_held world loads costs c t t.kernel.held sound made ] in
    both (nat_lt (offset_at t.kernel.times c) t.kernel.times.kernel)

-- several cycles
pub cycles_kept : (world : World) (loads : List LoadName) (costs : Costs) (c n : ℕ) (t : TileState) → IsSoundCatalog world → IsMadeFor world loads t → IsKept t (after_steps (tile_cycle (load_part world t) costs) c n t)
unfolding after_steps
cycles_kept world loads costs c zero t sound made = kept_same t
cycles_kept world loads costs c (suc n) t sound made =
    let before = after_steps (tile_cycle (load_part world t) costs) c n t in
    let so_far = cycles_kept world loads costs c n t sound made in
    let one = cycle_kept world loads costs (c + n) before sound (made_alike world loads t before so_far.alike made) in
    let P : (ℕ → Option Part) → Type 0 = λ parts. IsKept before (tile_cycle parts costs (c + n) before) in
    kept_more t before (tile_cycle (load_part world t) costs (c + n) before) so_far (subst P (parts_alike world t before so_far.alike) one)

-- the parts of a slot's grants
pub ended_alike : (world : World) (loads : List LoadName) (grants : List Grant) (t : TileState) → IsMadeFor world loads t → IsAlike t (with_ends world grants t)
ended_alike world loads grants t made = ends_alike world loads (filter (ends_in t.at) grants) t made

pub begun_alike : (world : World) (loads : List LoadName) (grants : List Grant) (t : TileState) → IsSoundCatalog world → IsMadeFor world loads t → IsAlike t (with_starts world grants t)
begun_alike world loads grants t sound made = starts_alike world loads (filter (begins_in t.at) grants) t sound made

pub settled_alike : (world : World) (loads : List LoadName) (grants : List Grant) (t : TileState) → IsSoundCatalog world → IsMadeFor world loads t → IsAlike t (with_starts world grants (with_ends world grants t))
settled_alike world loads grants t sound made =
    let one = ended_alike world loads grants t made in
    alike_more t (with_ends world grants t) (with_starts world grants (with_ends world grants t)) one (begun_alike world loads grants (with_ends world grants t) sound (made_alike world loads t (with_ends world grants t) one made))
