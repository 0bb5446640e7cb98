-- The cycles of a slot in three stretches: rows of the microkernel, cycles of the part that is held, and
-- rows again.
use Rattle.std.proofs.Common.{◌≡◌, ℕ, zero, suc, ◌+◌, ◌-◌, ◌*◌, ◌/◌, ◌%◌, ◌<◌, ◌≤◌, true, cond, nat_lt, List, ◌++◌, length, slice_get, Option, Some, None, min, refl, sym, subst, ap, ap₂, ◌∙◌, inl, inr, arith}
use Rattle.std.proofs.lemmas.Bool.{cases_lt, lt-ltb, le-ltb}
use Rattle.std.proofs.lemmas.List.{set-set, set-get_or, get_or-set_same}
use Rattle.std.proofs.lemmas.Nat.{div-add-mod', div-mul-add, mod-mul-add, mod_below}
use Rattle.std.proofs.lemmas.Option.{option_and_then_some, slice_get_within}
use Rattle.soc_base.specs.declared.region.Region.{Region}
use Rattle.soc_base.specs.Frame.{IsFrame}
use Rattle.soc_base.specs.Steps.{after_steps}
use Rattle.soc_base.specs.Time.{FrameTimes, instance_cycles, instance_at, offset_at, served_at}
use Rattle.soc_base.proofs.Laws.{steps_split}
use Rattle.platform_model.specs.declared.costs.Costs.{Costs}
use Rattle.bundle_model.specs.declared.bundle.Part.{Part}
use Rattle.bundle_model.specs.declared.world.World.{World}
use Rattle.bundle_model.specs.declared.world.LoadName.{LoadName}
use Rattle.bundle_model.specs.World.{part_on, IsSoundCatalog}
use Rattle.tile_memory.specs.Bytes.{IsInside, region_bytes, with_region}
use Rattle.tile_memory.proofs.Laws.{take-with_region, drop-with_region, region-with_region, length-region_bytes}
use Rattle.trace_log.specs.Log.{Log, new_log}
use Rattle.ni_port.specs.SizedPort.{SizedPort}
use Rattle.part_model.specs.Part.{PartState, part_cycle}
use Rattle.comik.specs.declared.place.FramePlace.{FramePlace}
use Rattle.comik.specs.Kernel.{KernelState}
use Rattle.comik.specs.Places.{frame_place, IsPlace}
use Rattle.comik.specs.Table.{kernel_row, kernel_rows, kernel_cycle}
use Rattle.comik.proofs.Laws.{row_parts}
use Rattle.tile_mmio.specs.Ports.{own_ports, put_ports, AreOwn}
use Rattle.tile_mmio.proofs.Laws.{put_lost, put_same, own_put, length-own_ports}
use Rattle.tile_core.specs.Tile.{TileState, place_at, load_part}
use Rattle.tile_core.specs.Cycle.{core_place, words_of, held_state, with_state, run_part, run_place, run_held, tile_cycle}
use Rattle.tile_core.specs.Fit.{IsMadeFor}
use Rattle.tile_core.specs.inner.Stretch.{ran, ran_part, ran_place, ran_held}
use Rattle.tile_core.proofs.Memory.{joined_region}
use Rattle.part_model.proofs.Laws.{stretch_ports, cycle_ports, cycle_size as bytes_kept}
use Rattle.tile_core.specs.inner.Ready.{IsSoundTile}
use Rattle.tile_core.proofs.Made.{frame_is, load_part_inside, load_part_own, IsAlike, made_alike, parts_alike, cycles_kept}

-- cycles within one instance
within : (f : FrameTimes) (c n : ℕ) → offset_at f c + n < instance_cycles f → (instance_at f (c + n) ≡ instance_at f c) × (offset_at f (c + n) ≡ offset_at f c + n)
within f c n low =
    let len = instance_cycles f in
    let split : c + n ≡ c / len * len + (c % len + n) = omega (arith, div-add-mod' c len) in (
      ap (λ n. n / len) split ∙ div-mul-add (c / len) len (c % len + n) low,
      ap (λ n. n % len) split ∙ mod-mul-add (c / len) len (c % len + n) low,
    )

-- the cycle at an instance's end begins the next
around : (f : FrameTimes) (c n : ℕ) → 0 < instance_cycles f → offset_at f c + n ≡ instance_cycles f → offset_at f (c + n) ≡ 0
around f c n some last =
    let len = instance_cycles f in
    let split : c + n ≡ (c / len + 1) * len + 0 = omega (arith, div-add-mod' c len) in
    ap (λ n. n % len) split ∙ mod-mul-add (c / len + 1) len 0 some

-- rows leave the frame's times
rows_times : (k : KernelState) (served offset n : ℕ) → (kernel_rows k served offset n).times ≡ k.times
unfolding after_steps
rows_times k served offset zero = refl
rows_times k served offset (suc n) = (row_parts (kernel_rows k served offset n) served (offset + n)).times ∙ rows_times k served offset n

-- cycles of the microkernel are so many rows
pub rows_cycles : (parts : ℕ → Option Part) (costs : Costs) (c n : ℕ) (t : TileState) → IsFrame t.kernel.times → offset_at t.kernel.times c + n ≤ t.kernel.times.kernel → after_steps (tile_cycle parts costs) c n t ≡ record t { kernel = kernel_rows t.kernel (served_at t.kernel.times c) (offset_at t.kernel.times c) n }
unfolding after_steps tile_cycle
rows_cycles parts costs c zero t frame early = refl
rows_cycles parts costs c (suc n) t frame early =
    let times = t.kernel.times in
    let some = frame.partition_least in
    let served = served_at times c in
    let offset = offset_at times c in
    let k = kernel_rows t.kernel served offset n in
    let before : TileState = record t { kernel = k } in
    let here = within times c n (omega arith) in
    let same = rows_times t.kernel served offset n in
    let place : offset_at k.times (c + n) ≡ offset + n = ap (λ (f : FrameTimes). offset_at f (c + n)) same ∙ here.1 in
    let serves : served_at k.times (c + n) ≡ served = ap (λ (f : FrameTimes). served_at f (c + n)) same ∙ ap (λ (i : ℕ). i % times.slots) here.0 in
    let test : nat_lt (offset_at k.times (c + n)) k.times.kernel ≡ true =
    ap₂ nat_lt place (ap (λ (f : FrameTimes). f.kernel) same) ∙ lt-ltb (offset + n) times.kernel (omega arith) in
    ap (tile_cycle parts costs (c + n)) (rows_cycles parts costs c n t frame (omega arith))
    ∙ ap (λ b. cond b (record before { kernel = kernel_cycle k (c + n) }) (run_held parts costs (c + n) before k.held)) test
    ∙ ap₂ (λ (s o : ℕ). let u : TileState = record t { kernel = kernel_row k s o } in u) serves place

-- a state that is written back changes nothing
still_state : (t : TileState) (place : ℕ) (part : Part) → with_state t place part (held_state t place part) ≡ t
still_state t place part =
    ap₂ (λ (memory : List ℕ) (logs : List Log). let u : TileState = record t { memory = memory; logs = logs; ports = put_ports t.ports part.ports (own_ports t.ports part.ports) } in u)
    (sym (joined_region t.memory t.memory (region_bytes t.memory part.region) part.region refl refl refl))
    (set-get_or t.logs place (new_log 0))
    ∙ ap (λ (ports : List SizedPort). let u : TileState = record t { ports = ports } in u) (put_same t.ports part.ports)

again_region : (memory one other : List ℕ) (region : Region) → IsInside memory region → length one ≡ region.len → with_region (with_region memory region one) region other ≡ with_region memory region other
again_region memory one other region inside fits =
    ap₂ (λ (front back : List ℕ). front ++ (other ++ back)) (take-with_region memory region one inside) (drop-with_region memory region one inside fits)

-- a state is written over an earlier one
again_state : (t : TileState) (place : ℕ) (part : Part) (one other : PartState) → IsInside t.memory part.region → length one.bytes ≡ part.region.len → length other.ports ≡ length part.ports → with_state (with_state t place part one) place part other ≡ with_state t place part other
again_state t place part one other inside fits size =
    ap₂ (λ (memory : List ℕ) (logs : List Log). let u : TileState = record t { kernel = record t.kernel { file = words_of other }; memory = memory; logs = logs; ports = put_ports (put_ports t.ports part.ports one.ports) part.ports other.ports } in u)
    (again_region t.memory one.bytes other.bytes part.region inside fits) (set-set t.logs place one.log other.log)
    ∙ ap (λ (ports : List SizedPort). let u : TileState = record (with_state t place part other) { ports = ports } in u)
    (put_lost t.ports part.ports one.ports part.ports other.ports size (λ j number found. (j, found)))

-- and is read back
read_state : (t : TileState) (place : ℕ) (part : Part) (state : PartState) → IsInside t.memory part.region → length state.bytes ≡ part.region.len → AreOwn t.ports part.ports → length state.ports ≡ length part.ports → place < length t.logs → held_state (with_state t place part state) place part ≡ state
read_state t place part state inside fits own size logged =
    ap₂ (λ (bytes : List ℕ) (log : Log). let s : PartState = record state { bytes = bytes; ports = own_ports (put_ports t.ports part.ports state.ports) part.ports; log = log } in s)
    (region-with_region t.memory part.region state.bytes inside fits) (get_or-set_same t.logs place state.log (new_log 0) logged)
    ∙ ap (λ (ports : List SizedPort). let s : PartState = record state { ports = ports } in s) (own_put t.ports part.ports state.ports own size)

ran_fits : (costs : Costs) (c n : ℕ) (part : Part) (state : PartState) → length (ran costs c n part state).bytes ≡ length state.bytes
unfolding after_steps
ran_fits costs c zero part state = refl
ran_fits costs c (suc n) part state = bytes_kept costs (core_place part) (c + n) (ran costs c n part state) ∙ ran_fits costs c n part state

late_cycle : (parts : ℕ → Option Part) (costs : Costs) (c : ℕ) (t : TileState) (held : Option ℕ) → t.kernel.times.kernel ≤ offset_at t.kernel.times c → t.kernel.held ≡ held → tile_cycle parts costs c t ≡ run_held parts costs c t held
unfolding tile_cycle
late_cycle parts costs c t held late is =
    ap (λ b. cond b (record t { kernel = kernel_cycle t.kernel c }) (run_held parts costs c t t.kernel.held)) (le-ltb (offset_at t.kernel.times c) t.kernel.times.kernel late)
    ∙ ap (run_held parts costs c t) is

-- the part of a place has its cycles one by one
part_more : (parts : ℕ → Option Part) (costs : Costs) (c n : ℕ) (t : TileState) (number place : ℕ) (part : Option Part) → t.kernel.times.kernel ≤ offset_at t.kernel.times (c + n) → t.kernel.held ≡ Some number → place_at t number ≡ Some place → parts place ≡ part → ((p : Part) → parts place ≡ Some p → IsInside t.memory p.region × (place < length t.logs) × AreOwn t.ports p.ports) → tile_cycle parts costs (c + n) (ran_part costs c n t place part) ≡ ran_part costs c (suc n) t place part
unfolding after_steps
part_more parts costs c n t number place None late held at is fine =
    late_cycle parts costs (c + n) t (Some number) late held
    ∙ ap (run_place parts costs (c + n) t) at
    ∙ ap (run_part costs (c + n) t place) is
part_more parts costs c n t number place (Some part) late held at is fine =
    let state = held_state t place part in
    let now = ran costs c n part state in
    let u = with_state t place part now in
    let good = fine part is in
    let fits : length now.bytes ≡ part.region.len = ran_fits costs c n part state ∙ length-region_bytes t.memory part.region good.0 in
    let size : length now.ports ≡ length part.ports = (stretch_ports costs (core_place part) c n state).count ∙ length-own_ports t.ports part.ports in
    let next = part_cycle costs (core_place part) (c + n) now in
    let more : length next.ports ≡ length part.ports = (cycle_ports costs (core_place part) (c + n) now).count ∙ size in
    late_cycle parts costs (c + n) u (Some number) late held
    ∙ ap (run_place parts costs (c + n) u) at
    ∙ ap (run_part costs (c + n) u place) is
    ∙ ap (λ (s : PartState). with_state u place part (part_cycle costs (core_place part) (c + n) s)) (read_state t place part now good.0 fits good.2 size good.1)
    ∙ again_state t place part now next good.0 fits more

-- what a place's part needs for its cycles
abbrev pub AreFine : (ℕ → Option Part) → TileState → Type 0
AreFine parts t = (place : ℕ) (p : Part) → parts place ≡ Some p → IsInside t.memory p.region × (place < length t.logs) × AreOwn t.ports p.ports

place_more : (parts : ℕ → Option Part) (costs : Costs) (c n : ℕ) (t : TileState) (number : ℕ) (place : Option ℕ) → t.kernel.times.kernel ≤ offset_at t.kernel.times (c + n) → t.kernel.held ≡ Some number → place_at t number ≡ place → AreFine parts t → tile_cycle parts costs (c + n) (ran_place parts costs c n t place) ≡ ran_place parts costs c (suc n) t place
place_more parts costs c n t number None late held at fine =
    late_cycle parts costs (c + n) t (Some number) late held ∙ ap (run_place parts costs (c + n) t) at
place_more parts costs c n t number (Some place) late held at fine =
    part_more parts costs c n t number place (parts place) late held at refl (fine place)

held_more : (parts : ℕ → Option Part) (costs : Costs) (c n : ℕ) (t : TileState) (held : Option ℕ) → t.kernel.times.kernel ≤ offset_at t.kernel.times (c + n) → t.kernel.held ≡ held → AreFine parts t → tile_cycle parts costs (c + n) (ran_held parts costs c n t held) ≡ ran_held parts costs c (suc n) t held
held_more parts costs c n t None late is fine = late_cycle parts costs (c + n) t None late is
held_more parts costs c n t (Some number) late is fine = place_more parts costs c n t number (place_at t number) late is refl fine

none_part : (costs : Costs) (c : ℕ) (t : TileState) (place : ℕ) (part : Option Part) → t ≡ ran_part costs c 0 t place part
unfolding after_steps
none_part costs c t place None = refl
none_part costs c t place (Some part) = sym (still_state t place part)

none_place : (parts : ℕ → Option Part) (costs : Costs) (c : ℕ) (t : TileState) (place : Option ℕ) → t ≡ ran_place parts costs c 0 t place
none_place parts costs c t None = refl
none_place parts costs c t (Some place) = none_part costs c t place (parts place)

none_held : (parts : ℕ → Option Part) (costs : Costs) (c : ℕ) (t : TileState) (held : Option ℕ) → t ≡ ran_held parts costs c 0 t held
none_held parts costs c t None = refl
none_held parts costs c t (Some number) = none_place parts costs c t (place_at t number)

-- cycles past the microkernel's are those of the part that is held
pub held_cycles : (parts : ℕ → Option Part) (costs : Costs) (c n : ℕ) (t : TileState) → t.kernel.times.kernel ≤ offset_at t.kernel.times c → offset_at t.kernel.times c + n ≤ instance_cycles t.kernel.times → AreFine parts t → after_steps (tile_cycle parts costs) c n t ≡ ran_held parts costs c n t t.kernel.held
unfolding after_steps
held_cycles parts costs c zero t late low fine = none_held parts costs c t t.kernel.held
held_cycles parts costs c (suc n) t late low fine =
    let here = within t.kernel.times c n (omega arith) in
    let still : t.kernel.times.kernel ≤ offset_at t.kernel.times (c + n) = let e = here.1 in omega arith in
    ap (tile_cycle parts costs (c + n)) (held_cycles parts costs c n t late (omega arith) fine)
    ∙ held_more parts costs c n t t.kernel.held still refl fine

pub fine_parts : (world : World) (loads : List LoadName) (t : TileState) → IsSoundCatalog world → IsMadeFor world loads t → AreFine (load_part world t) t
fine_parts world loads t sound made place part is =
    option_and_then_some (λ (load : LoadName). part_on world t.number load.bundle) (slice_get t.loads place) part is (λ load there on.
    let low = slice_get_within t.loads place load there in
    let size = made.logs in
    let logged : place < length t.logs = omega arith in
    (load_part_inside world loads t place part sound made is, logged, load_part_own world loads t place part sound made is))

pub some_rows : (parts : ℕ → Option Part) (costs : Costs) (c n : ℕ) (t : TileState) → IsFrame t.kernel.times → (0 < n → offset_at t.kernel.times c + n ≤ t.kernel.times.kernel) → record t { kernel = kernel_rows t.kernel (served_at t.kernel.times c) (offset_at t.kernel.times c) n } ≡ after_steps (tile_cycle parts costs) c n t
unfolding after_steps
some_rows parts costs c zero t frame early = refl
some_rows parts costs c (suc n) t frame early = sym (rows_cycles parts costs c (suc n) t frame (early (omega arith)))

pub some_held : (parts : ℕ → Option Part) (costs : Costs) (c n : ℕ) (t : TileState) → (0 < n → t.kernel.times.kernel ≤ offset_at t.kernel.times c) → (0 < n → offset_at t.kernel.times c + n ≤ instance_cycles t.kernel.times) → AreFine parts t → ran_held parts costs c n t t.kernel.held ≡ after_steps (tile_cycle parts costs) c n t
unfolding after_steps
some_held parts costs c zero t late low fine = sym (none_held parts costs c t t.kernel.held)
some_held parts costs c (suc n) t late low fine = sym (held_cycles parts costs c (suc n) t (late (omega arith)) (low (omega arith)) fine)

-- rows leave all but the words, and the parts that are held and next
rows_owners : (k : KernelState) (served offset n : ℕ) → (kernel_rows k served offset n).owners ≡ k.owners
unfolding after_steps
rows_owners k served offset zero = refl
rows_owners k served offset (suc n) = (row_parts (kernel_rows k served offset n) served (offset + n)).owners ∙ rows_owners k served offset n

rows_alike : (t : TileState) (served offset n : ℕ) → IsAlike t (record t { kernel = kernel_rows t.kernel served offset n })
rows_alike t served offset n = record {
  number = refl;
  at = refl;
  frame = rows_times t.kernel served offset n;
  owners = ap (λ (os : List (Option ℕ)). length os) (rows_owners t.kernel served offset n);
  size = refl;
  places = refl;
  loads = refl;
  logs = refl;
  ports = refl;
  carried = refl;
}

sound_alike : (world : World) (t after : TileState) → IsAlike t after → IsSoundTile world t → IsSoundTile world after
sound_alike world t after same tile = record { loads = tile.loads; sound = tile.sound; made = made_alike world tile.loads t after same tile.made }

-- after the first rows
pub sound_rows : (world : World) (t s : TileState) (served offset n : ℕ) → IsSoundTile world t → s ≡ record t { kernel = kernel_rows t.kernel served offset n } → IsSoundTile world s
sound_rows world t s served offset n tile is =
    let P : TileState → Type 0 = λ u. IsSoundTile world u in
    subst P (sym is) (sound_alike world t (record t { kernel = kernel_rows t.kernel served offset n }) (rows_alike t served offset n) tile)

-- cycles in three stretches: so many from one on, of which the first are rows of the microkernel, the next
-- cycles of the part that is held, and the others rows again; and the places of the first two in the frame
pub record Cut : Type 0 where
  pub from : ℕ
  pub count : ℕ
  pub rows : ℕ
  pub held : ℕ
  pub at : FramePlace
  pub next : FramePlace

-- the cycles that are left for the third
abbrev pub left : Cut → ℕ
left cut = cut.count - cut.rows - cut.held

-- the cycle at which the third begins
abbrev pub last : Cut → ℕ
last cut = cut.from + cut.rows + cut.held

-- how the cycles of a slot are cut: no row past the microkernel's cycles, none of a part before them or
-- past its instance, and then rows of the next instance
pub record IsCut (f : FrameTimes) (cut : Cut) : Type 0 where
  pub frame : IsFrame f
  pub short : cut.count ≤ 64
  pub at_is : cut.at ≡ frame_place f cut.from
  pub next_is : cut.next ≡ frame_place f (cut.from + cut.rows)
  pub first : cut.rows ≡ min cut.count (f.kernel - cut.at.offset)
  pub second : cut.held ≡ min (cut.count - cut.rows) (instance_cycles f - cut.next.offset)

-- the first two stretches of a sound tile's cycles in its frame: the tile before, after the first, and after
-- the second
pub record AreStretches (world : World) (f : FrameTimes) (cut : Cut) (t one two : TileState) : Type 0 where
  pub sound : IsSoundTile world t
  pub times : f ≡ t.kernel.times
  pub is_cut : IsCut f cut
  pub first : one ≡ record t { kernel = kernel_rows t.kernel cut.at.served cut.at.offset cut.rows }
  pub second : two ≡ ran_held (load_part world one) world.platform.costs (cut.from + cut.rows) cut.held one one.kernel.held

offset_is : (f : FrameTimes) (c : ℕ) (at : FramePlace) → at ≡ frame_place f c → at.offset ≡ offset_at f c
offset_is f c at is = ap (λ (p : FramePlace). p.offset) is

served_is : (f : FrameTimes) (c : ℕ) (at : FramePlace) → at ≡ frame_place f c → at.served ≡ served_at f c
served_is f c at is = ap (λ (p : FramePlace). p.served) is

below_end : (f : FrameTimes) (c : ℕ) → IsFrame f → offset_at f c < instance_cycles f
below_end f c frame = let some = frame.partition_least in mod_below c (instance_cycles f) (omega arith)

first_early : (f : FrameTimes) (cut : Cut) → IsCut f cut → 0 < cut.rows → offset_at f cut.from + cut.rows ≤ f.kernel
first_early f cut is some = let o = offset_is f cut.from cut.at is.at_is in let n = is.first in omega arith

-- where a part has cycles, the microkernel's are over
second_late : (f : FrameTimes) (cut : Cut) → IsCut f cut → 0 < cut.held → f.kernel ≤ offset_at f (cut.from + cut.rows)
second_late f cut is some =
    let o = offset_is f cut.from cut.at is.at_is in
    let n = is.first in
    let m = is.second in
    let part = is.frame.partition_least in
    elim (cases_lt (offset_at f cut.from) f.kernel) [
      | inl early ↦ let here = (within f cut.from cut.rows (omega arith)).1 in omega arith
      | inr late ↦
          let none : cut.from + cut.rows ≡ cut.from = omega arith in
          subst (λ (c : ℕ). f.kernel ≤ offset_at f c) (sym none) late
    ]

second_within : (f : FrameTimes) (cut : Cut) → IsCut f cut → 0 < cut.held → offset_at f (cut.from + cut.rows) + cut.held ≤ instance_cycles f
second_within f cut is some =
    let o = offset_is f (cut.from + cut.rows) cut.next is.next_is in
    let m = is.second in
    let end = below_end f (cut.from + cut.rows) is.frame in
    omega arith

-- where rows are left, they begin an instance
third_early : (f : FrameTimes) (cut : Cut) → IsCut f cut → 0 < left cut → offset_at f (last cut) + left cut ≤ f.kernel
third_early f cut is some =
    let o = offset_is f (cut.from + cut.rows) cut.next is.next_is in
    let m = is.second in
    let end = below_end f (cut.from + cut.rows) is.frame in
    let least = is.frame.kernel_least in
    let short = is.short in
    let begins = around f (cut.from + cut.rows) cut.held (omega arith) (omega arith) in
    omega arith

-- the first stretch, in cycles
first_is : (world : World) (f : FrameTimes) (cut : Cut) (t one two : TileState) → AreStretches world f cut t one two → one ≡ after_steps (tile_cycle (load_part world t) world.platform.costs) cut.from cut.rows t
first_is world f cut t one two are =
    let Early : FrameTimes → Type 0 = λ f. 0 < cut.rows → offset_at f cut.from + cut.rows ≤ f.kernel in
    are.first
    ∙ ap₂ (λ (s o : ℕ). let u : TileState = record t { kernel = kernel_rows t.kernel s o cut.rows } in u) (served_is f cut.from cut.at are.is_cut.at_is ∙ ap (λ (f : FrameTimes). served_at f cut.from) are.times) (offset_is f cut.from cut.at are.is_cut.at_is ∙ ap (λ (f : FrameTimes). offset_at f cut.from) are.times)
    ∙ some_rows (load_part world t) world.platform.costs cut.from cut.rows t (subst IsFrame are.times are.is_cut.frame) (subst Early are.times (first_early f cut are.is_cut))

-- the second
second_is : (world : World) (f : FrameTimes) (cut : Cut) (t one two : TileState) → AreStretches world f cut t one two → two ≡ after_steps (tile_cycle (load_part world one) world.platform.costs) (cut.from + cut.rows) cut.held one
second_is world f cut t one two are =
    let sound = sound_rows world t one cut.at.served cut.at.offset cut.rows are.sound are.first in
    let times : f ≡ one.kernel.times = are.times ∙ sym (rows_times t.kernel cut.at.served cut.at.offset cut.rows) ∙ ap (λ (u : TileState). u.kernel.times) (sym are.first) in
    let Late : FrameTimes → Type 0 = λ f. 0 < cut.held → f.kernel ≤ offset_at f (cut.from + cut.rows) in
    let Low : FrameTimes → Type 0 = λ f. 0 < cut.held → offset_at f (cut.from + cut.rows) + cut.held ≤ instance_cycles f in
    are.second
    ∙ some_held (load_part world one) world.platform.costs (cut.from + cut.rows) cut.held one
    (subst Late times (second_late f cut are.is_cut)) (subst Low times (second_within f cut are.is_cut))
    (fine_parts world sound.loads one sound.sound.catalog sound.made)

-- the tile after the first two is one of the same frame
pub second_slots : (world : World) (f : FrameTimes) (cut : Cut) (t one two : TileState) (third : FramePlace) → AreStretches world f cut t one two → IsPlace f third → third.served < two.kernel.times.slots
second_slots world f cut t one two third are valid =
    let sound = sound_rows world t one cut.at.served cut.at.offset cut.rows are.sound are.first in
    let kept = cycles_kept world sound.loads world.platform.costs (cut.from + cut.rows) cut.held one sound.sound.catalog sound.made in
    let times : f ≡ two.kernel.times = are.times ∙ sym (rows_times t.kernel cut.at.served cut.at.offset cut.rows) ∙ ap (λ (u : TileState). u.kernel.times) (sym are.first) ∙ sym kept.alike.frame ∙ ap (λ (u : TileState). u.kernel.times) (sym (second_is world f cut t one two are)) in
    subst (λ (f : FrameTimes). third.served < f.slots) times valid.served

-- the three stretches are the cycles
pub three_stretches : (world : World) (f : FrameTimes) (cut : Cut) (t one two three : TileState) (third : FramePlace) → AreStretches world f cut t one two → third ≡ frame_place f (last cut) → three ≡ record two { kernel = kernel_rows two.kernel third.served third.offset (left cut) } → three ≡ after_steps (tile_cycle (load_part world t) world.platform.costs) cut.from cut.count t
three_stretches world f cut t one two three third are third_is rest =
    let costs = world.platform.costs in
    let step = tile_cycle (load_part world t) costs in
    let first = first_is world f cut t one two are in
    let second = second_is world f cut t one two are in
    let sound = sound_rows world t one cut.at.served cut.at.offset cut.rows are.sound are.first in
    let alike1 : IsAlike t one = subst (IsAlike t) (sym are.first) (rows_alike t cut.at.served cut.at.offset cut.rows) in
    let parts1 : load_part world one ≡ load_part world t = parts_alike world t one alike1 in
    let kept = cycles_kept world sound.loads costs (cut.from + cut.rows) cut.held one sound.sound.catalog sound.made in
    let alike2 : IsAlike one two = subst (IsAlike one) (sym second) kept.alike in
    let times : f ≡ two.kernel.times = are.times ∙ sym alike1.frame ∙ sym alike2.frame in
    let Early : FrameTimes → Type 0 = λ f. 0 < left cut → offset_at f (last cut) + left cut ≤ f.kernel in
    let ends : three ≡ after_steps step (last cut) (left cut) two =
    rest
    ∙ ap₂ (λ (s o : ℕ). let u : TileState = record two { kernel = kernel_rows two.kernel s o (left cut) } in u) (served_is f (last cut) third third_is ∙ ap (λ (f : FrameTimes). served_at f (last cut)) times) (offset_is f (last cut) third third_is ∙ ap (λ (f : FrameTimes). offset_at f (last cut)) times)
    ∙ some_rows (load_part world t) costs (last cut) (left cut) two (subst IsFrame times are.is_cut.frame) (subst Early times (third_early f cut are.is_cut)) in
    let whole : cut.rows + cut.held + left cut ≡ cut.count = let a = are.is_cut.first in let b = are.is_cut.second in omega arith in
    ends
    ∙ ap (after_steps step (last cut) (left cut)) (second ∙ ap (λ (ps : ℕ → Option Part). after_steps (tile_cycle ps costs) (cut.from + cut.rows) cut.held one) parts1 ∙ ap (after_steps step (cut.from + cut.rows) cut.held) first)
    ∙ ap (after_steps step (last cut) (left cut)) (sym (steps_split step cut.from cut.rows cut.held t))
    ∙ ap (λ (c : ℕ). after_steps step c (left cut) (after_steps step cut.from (cut.rows + cut.held) t)) (omega arith)
    ∙ sym (steps_split step cut.from (cut.rows + cut.held) (left cut) t)
    ∙ ap (λ (n : ℕ). after_steps step cut.from n t) whole

-- a number that is the least of another and of what is left
pub least_of : (n count left all : ℕ) → n ≡ min count left → left ≡ all → n ≡ min count all
least_of n count left all least is = least ∙ ap (min count) is

-- a sound tile's frame is one
pub tile_frame : (world : World) (t : TileState) (f : FrameTimes) → IsSoundTile world t → f ≡ t.kernel.times → IsFrame f
tile_frame world t f sound same = subst IsFrame (sym (same ∙ sound.made.frame)) (frame_is world)
