-- A slot of a tile that may go: its inputs, its outputs and its links are those of the machine in step.
use Rattle.std.proofs.Common.{◌≡◌, ℕ, ◌+◌, ◌-◌, ◌<◌, ◌≤◌, inl, inr, Bool, true, false, cond, not, ◌||◌, ◌==◌, List, [], ◌∷◌, length, map, get_or, find, slice_get, Option, Some, None, refl, sym, ap, ap₂, ◌∙◌, arith}
use Rattle.std.specs.Prelude.{nat_lt}
use Rattle.std.specs.Option.{option_map, option_map_or}
use Rattle.std.specs.List.{All, Contains, range_with_len}
use Rattle.std.proofs.lemmas.Bool.{and_parts, eqb-true, eq-eqb, ltb-true, ne_eqb, cases_eq}
use Rattle.std.proofs.lemmas.Option.{slice_get_within, get_or_from_slice_get}
use Rattle.std.proofs.lemmas.List.Elements.{All-contains}
use Rattle.std.proofs.lemmas.List.FromFn.{length-map-range_with_len, get_or-map-range_with_len}
use Rattle.platform_model.specs.declared.link.Link.{Link}
use Rattle.bundle_model.proofs.Laws.{found_place, find_map}
use Rattle.vep_manager.specs.declared.setup.Setup.{Setup}
use Rattle.vep_manager.specs.History.{horizon_of, grants_of}
use Rattle.lockstep.specs.Hardware.{Hardware}
use Rattle.lockstep.specs.Lockstep.{enters, inputs_of, Machine}
use Rattle.lockstep.specs.Stays.{IsPaced}
use Rattle.lockstep.proofs.Laws.{lockstep_more}
use Rattle.core_model.specs.Core.{Line, CoreState, waiting, line_inputs, is_fed, passed, after_slot}
use Rattle.core_model.specs.Order.{slot_of, in_step, HoldsBetween, IsInOrder}
use Rattle.core_model.proofs.Lists.{set_here, set_there}
use Rattle.core_model.proofs.Spans.{span, span_after, spaced_after}

input_by : {Flit : Type 0} (idle : Flit) (carried : Link → Flit) (o : Option (Line Flit)) → ((line : Line Flit) → o ≡ Some line → waiting idle line ≡ carried line.link) → option_map_or (waiting idle) o idle ≡ option_map_or carried (option_map (λ (line : Line Flit). line.link) o) idle
input_by idle carried None same = refl
input_by idle carried (Some line) same = same line refl

inputs_by : {Flit : Type 0} (idle : Flit) (lines : List (Line Flit)) (carried : Link → Flit) (tile : ℕ) → ((line : Line Flit) → Contains lines line → line.link.to ≡ tile → waiting idle line ≡ carried line.link) → (inputs : List ℕ) → map (λ input. option_map_or (waiting idle) (find (λ line. enters tile input line.link) lines) idle) inputs ≡ map (λ input. option_map_or carried (find (enters tile input) (map (λ line. line.link) lines)) idle) inputs
inputs_by idle lines carried tile same [] = refl
inputs_by {Flit} idle lines carried tile same (input ∷ inputs) =
    let there = λ (line : Line Flit). enters tile input line.link in
    ap₂ (λ x xs. x ∷ xs)
    (input_by idle carried (find there lines) (λ line is.
    let (place, at, passes) = found_place there lines line is in
    let inside : Contains lines line = (place, slice_get_within lines place line at, get_or_from_slice_get lines place line line at) in
    same line inside (eqb-true line.link.to tile (and_parts (line.link.to == tile) (line.link.input == input) passes).0))
    ∙ ap (λ (o : Option Link). option_map_or carried o idle) (sym (find_map (λ (line : Line Flit). line.link) (enters tile input) lines)))
    (inputs_by idle lines carried tile same inputs)

-- what a tile finds at its inputs is what the machine in step gives it
line_inputs_same : {Flit : Type 0} (idle : Flit) (lines : List (Line Flit)) (links : List Link) (carried : Link → Flit) (tile : ℕ) → map (λ line. line.link) lines ≡ links → ((line : Line Flit) → Contains lines line → line.link.to ≡ tile → waiting idle line ≡ carried line.link) → line_inputs idle lines tile ≡ inputs_of idle links carried tile
line_inputs_same idle lines links carried tile linked same =
    inputs_by idle lines carried tile same (range_with_len 0 7) ∙ ap (λ (l : List Link). inputs_of idle l carried tile) linked

fed_length : (reads some : Bool) → (not reads || some) ≡ true → reads ≡ true → some ≡ true
fed_length true some fed is = fed
fed_length false some fed is = cc

-- an inbound line that holds a flit has its writer at its reader's slot or further
fed_spaced : {Tile Flit : Type 0} (hardware : Hardware Tile Flit) (setup : Setup) (core : CoreState Tile Flit) (number : ℕ) (line : Line Flit) → HoldsBetween Tile Flit hardware setup core line → is_fed number line ≡ true → line.link.to ≡ number → slot_of hardware core line.link.to ≤ slot_of hardware core line.link.from
fed_spaced hardware setup core number line here fed reads =
    let some = ltb-true 0 (length line.flits) (fed_length (line.link.to == number) (nat_lt 0 (length line.flits)) fed (eq-eqb line.link.to number reads)) in
    let a = slot_of hardware core line.link.to in
    let b = slot_of hardware core line.link.from in
    let count = ap length here.holds ∙ length-map-range_with_len (λ slot. (in_step hardware setup core slot).carried line.link) a (b + 1 - a) in
    omega arith

-- its first flit is that of the reader's slot
fed_first : {Tile Flit : Type 0} (hardware : Hardware Tile Flit) (setup : Setup) (core : CoreState Tile Flit) (line : Line Flit) → HoldsBetween Tile Flit hardware setup core line → slot_of hardware core line.link.to ≤ slot_of hardware core line.link.from → waiting hardware.idle line ≡ (in_step hardware setup core (slot_of hardware core line.link.to)).carried line.link
fed_first {Tile} {Flit} hardware setup core line here low =
    let a = slot_of hardware core line.link.to in
    let b = slot_of hardware core line.link.from in
    ap (λ (l : List Flit). get_or l 0 hardware.idle) here.holds
    ∙ get_or-map-range_with_len (λ slot. (in_step hardware setup core slot).carried line.link) a (b + 1 - a) 0 a hardware.idle (omega arith) (omega arith)

-- what may go, and why
pub record Going {Tile Flit : Type 0} (hardware : Hardware Tile Flit) (setup : Setup) (core : CoreState Tile Flit) (number : ℕ) (tile : Tile) : Type 0 where
  pub there : slice_get core.tiles number ≡ Some tile
  pub low : hardware.at tile < horizon_of setup core.history
  pub fed : All (λ line. is_fed number line ≡ true) core.lines

pub slot_here : {Tile Flit : Type 0} (hardware : Hardware Tile Flit) (core : CoreState Tile Flit) (number : ℕ) (tile : Tile) → slice_get core.tiles number ≡ Some tile → slot_of hardware core number ≡ hardware.at tile
slot_here {Tile} hardware core number tile there = ap (λ (o : Option Tile). option_map_or hardware.at o 0) there

-- the inputs of a tile that goes
going_inputs : {Tile Flit : Type 0} (hardware : Hardware Tile Flit) (setup : Setup) (core : CoreState Tile Flit) (number : ℕ) (tile : Tile) → IsInOrder Tile Flit hardware setup core → Going hardware setup core number tile → line_inputs hardware.idle core.lines number ≡ inputs_of hardware.idle setup.world.platform.links (in_step hardware setup core (hardware.at tile)).carried number
going_inputs {Tile} {Flit} hardware setup core number tile order going =
    line_inputs_same hardware.idle core.lines setup.world.platform.links (in_step hardware setup core (hardware.at tile)).carried number order.linked
    (λ line inside reads.
    let here = All-contains (HoldsBetween Tile Flit hardware setup core) core.lines line order.between inside in
    let fed = All-contains (λ (l : Line Flit). is_fed number l ≡ true) core.lines line going.fed inside in
    let at : slot_of hardware core line.link.to ≡ hardware.at tile = ap (slot_of hardware core) reads ∙ slot_here hardware core number tile going.there in
    fed_first hardware setup core line here (fed_spaced hardware setup core number line here fed reads)
    ∙ ap (λ (slot : ℕ). (in_step hardware setup core slot).carried line.link) at)

-- the tile after its slot is that of the machine in step
pub going_tile : {Tile Flit : Type 0} (hardware : Hardware Tile Flit) (setup : Setup) (core : CoreState Tile Flit) (number : ℕ) (tile : Tile) → IsInOrder Tile Flit hardware setup core → Going hardware setup core number tile → hardware.after (grants_of setup core.history) (line_inputs hardware.idle core.lines number) tile ≡ (in_step hardware setup core (hardware.at tile + 1)).tile number
going_tile {Tile} {Flit} hardware setup core number tile order going =
    let grants = grants_of setup core.history in
    ap₂ (hardware.after grants) (going_inputs hardware setup core number tile order going) (order.stepped number tile going.there)
    ∙ sym (ap (λ (m : Machine Tile Flit). m.tile number) (lockstep_more hardware setup.world.platform.links grants (hardware.at tile)))

-- and so are the flits that it puts on its links
going_flit : {Tile Flit : Type 0} (hardware : Hardware Tile Flit) (setup : Setup) (core : CoreState Tile Flit) (number : ℕ) (tile : Tile) (link : Link) → IsInOrder Tile Flit hardware setup core → Going hardware setup core number tile → link.from ≡ number → get_or (hardware.puts (grants_of setup core.history) (line_inputs hardware.idle core.lines number) tile) link.out hardware.idle ≡ (in_step hardware setup core (hardware.at tile + 1)).carried link
going_flit {Tile} {Flit} hardware setup core number tile link order going from =
    let grants = grants_of setup core.history in
    let links = setup.world.platform.links in
    let machine = in_step hardware setup core (hardware.at tile) in
    ap₂ (λ (inputs : List Flit) (t : Tile). get_or (hardware.puts grants inputs t) link.out hardware.idle) (going_inputs hardware setup core number tile order going) (order.stepped number tile going.there)
    ∙ ap (λ (n : ℕ). get_or (hardware.puts grants (inputs_of hardware.idle links machine.carried n) (machine.tile n)) link.out hardware.idle) (sym from)
    ∙ sym (ap (λ (m : Machine Tile Flit). m.carried link) (lockstep_more hardware links grants (hardware.at tile)))

-- how far the tiles are after a slot of one of them
pub slot_after : {Tile Flit : Type 0} (hardware : Hardware Tile Flit) (setup : Setup) (core : CoreState Tile Flit) (number : ℕ) (tile : Tile) → IsPaced Tile Flit hardware → slice_get core.tiles number ≡ Some tile → (other : ℕ) → slot_of hardware (after_slot hardware setup core number tile) other ≡ slot_of hardware core other + cond (other == number) 1 0
slot_after {Tile} {Flit} hardware setup core number tile paced there other =
    let grants = grants_of setup core.history in
    let inputs = line_inputs hardware.idle core.lines number in
    let new = hardware.after grants inputs tile in
    elim (cases_eq other number) [
      | inl same ↦
          let here : slot_of hardware (after_slot hardware setup core number tile) number ≡ hardware.at new = ap (λ (o : Option Tile). option_map_or hardware.at o 0) (set_here core.tiles number tile new there) in
          let before = slot_here hardware core number tile there in
          let one : slot_of hardware (after_slot hardware setup core number tile) number ≡ slot_of hardware core number + 1 = here ∙ paced.goes_on grants inputs tile ∙ ap (λ (n : ℕ). n + 1) (sym before) in
          ap (slot_of hardware (after_slot hardware setup core number tile)) same ∙ one
          ∙ ap (λ (n : ℕ). slot_of hardware core n + 1) (sym same) ∙ ap (λ b. slot_of hardware core other + cond b 1 0) (sym (eq-eqb other number same))
      | inr apart ↦
          let none : slot_of hardware core other + 0 ≡ slot_of hardware core other = omega arith in
          ap (λ (o : Option Tile). option_map_or hardware.at o 0) (set_there core.tiles number other new (λ same. apart (sym same)))
          ∙ sym none ∙ ap (λ b. slot_of hardware core other + cond b 1 0) (sym (ne_eqb other number apart))
    ]

-- a line after a slot of a tile
pub line_after : {Tile Flit : Type 0} (hardware : Hardware Tile Flit) (setup : Setup) (core : CoreState Tile Flit) (number : ℕ) (tile : Tile) → IsPaced Tile Flit hardware → IsInOrder Tile Flit hardware setup core → Going hardware setup core number tile → (line : Line Flit) → HoldsBetween Tile Flit hardware setup core line → is_fed number line ≡ true → HoldsBetween Tile Flit hardware setup (after_slot hardware setup core number tile) (passed hardware.idle number (hardware.puts (grants_of setup core.history) (line_inputs hardware.idle core.lines number) tile) line)
line_after {Tile} {Flit} hardware setup core number tile paced order going line here fed =
    let outputs = hardware.puts (grants_of setup core.history) (line_inputs hardware.idle core.lines number) tile in
    let link = line.link in
    let f = λ (slot : ℕ). (in_step hardware setup core slot).carried link in
    let a = slot_of hardware core link.to in
    let b = slot_of hardware core link.from in
    let moved = slot_after hardware setup core number tile paced going.there in
    let there : (link.to == number) ≡ true → a ≤ b = λ reads. fed_spaced hardware setup core number line here fed (eqb-true link.to number reads) in
    let put : (link.from == number) ≡ true → get_or outputs link.out hardware.idle ≡ f (b + 1) = λ writes.
    let from = eqb-true link.from number writes in
    let at : hardware.at tile ≡ b = sym (ap (slot_of hardware core) from ∙ slot_here hardware core number tile going.there) in
    going_flit hardware setup core number tile link order going from ∙ ap (λ (n : ℕ). f (n + 1)) at in
    record {
      spaced =
          let low = spaced_after a b (link.to == number) (link.from == number) here.spaced there in
          let reader = moved link.to in
          let writer = moved link.from in
          omega (arith, low, reader, writer);
      holds = span_after f a b (link.to == number) (link.from == number) line.flits (get_or outputs link.out hardware.idle) here.spaced there here.holds put ∙ ap₂ (span f) (sym (moved link.to)) (sym (moved link.from));
    }
