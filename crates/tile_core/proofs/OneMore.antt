-- A station that has run by itself, one slot more.
use Rattle.std.proofs.Common.{◌≡◌, ℕ, zero, suc, ◌+◌, ◌*◌, ◌<◌, ◌≤◌, All, ◌==◌, Bool, true, false, cond, ◌&&◌, List, [], ◌∷◌, ◌++◌, map, find, fold, set, replicate, length, length-set, length-append, get_or, get_or-set_other, Contains, Option, Some, None, is_some, inl, inr, true≢false, refl, sym, ap, ap₂, subst, ◌∙◌, arith}
use Rattle.std.specs.List.{range_with_len}
use Rattle.std.specs.Option.{option_map_or}
use Rattle.std.proofs.Math.Path.{fun_ext}
use Rattle.std.proofs.lemmas.Bool.{cases_eq, eq-eqb, eqb-true, ne_eqb, and_parts}
use Rattle.std.proofs.lemmas.Grind.{get_or-set_at}
use Rattle.std.proofs.lemmas.List.{get_or_append_left, get_or_at, get_or-map, length-map}
use Rattle.std.proofs.lemmas.List.FromFn.{fill_by_all, map-range_with_len_more}
use Rattle.std.proofs.lemmas.Option.{slice_get_within, get_or_from_slice_get}
use Rattle.soc_base.specs.Port.{WordAndCredits, idle}
use Rattle.platform_model.specs.declared.link.Link.{Link}
use Rattle.bundle_model.specs.declared.world.World.{World}
use Rattle.bundle_model.specs.declared.world.LoadName.{LoadName}
use Rattle.bundle_model.specs.declared.world.Grant.{Grant}
use Rattle.bundle_model.specs.declared.world.Schedule.{Schedule}
use Rattle.bundle_model.proofs.Laws.{found_place}
use Rattle.lockstep.specs.Hardware.{Hardware}
use Rattle.lockstep.specs.Lockstep.{enters, inputs_of, tile_run, run_puts}
use Rattle.lockstep.proofs.Laws.{run_none, run_more, inputs_same, made_same}
use Rattle.flit_link.specs.declared.ends.LinkIn.{LinkIn}
use Rattle.flit_link.specs.Link.{flits_taken, receiving}
use Rattle.tile_core.specs.declared.wire.Wire.{Wire}
use Rattle.tile_core.specs.declared.station.Station.{Station}
use Rattle.tile_core.specs.declared.turn.Turn.{Turn}
use Rattle.tile_core.specs.declared.turn.Turn.TheVariants.{Moved, NotYet}
use Rattle.tile_core.specs.Tile.{TileState}
use Rattle.tile_core.specs.Slot.{tile_slot, slot_outputs}
use Rattle.tile_core.specs.Lockstep.{tile_hardware}
use Rattle.tile_core.specs.Wires.{Seen, Spot, in_seen, spot_of, spots, input_on, output_on, but_flits, flits_at, waiting, brought, taken_more, set_on}
use Rattle.bundle_model.specs.Grants.{IsApart}
use Rattle.bundle_model.specs.World.{IsSoundWorld, AreOfLoads}
use Rattle.soc_base.specs.declared.limits.TheConstants.{LAST_CYCLE}
use Rattle.tile_core.specs.Fit.{IsUnderway}
use Rattle.tile_core.specs.Station.{StationState, station_state, ends_of, KeepsEnds, IsWired, came, HasRun, HaveRun}
use Rattle.tile_core.specs.Turns.{Advances, TriesSlot}
use Rattle.tile_core.proofs.Slots.{slot_number}
use Rattle.tile_core.proofs.SlotMade.{slot_at}
use Rattle.tile_core.proofs.Running.{run_underway}
use Rattle.tile_core.proofs.Stepping.{map_map}
use Rattle.tile_core.proofs.Waiting.{map_none}
use Rattle.tile_core.proofs.Placed.{find_map, some_map, map_or_map, is_at, end_at, end_there, AreApart, inputs_apart}

-- ---- runs over flits that are the same up to a slot

module _ {Tile Flit : Type 0} (hardware : Hardware Tile Flit) (links : List Link) (grants : List Grant) (one other : Link → ℕ → Flit) (number : ℕ) where
  run_same : (n : ℕ) → ((link : Link) (slot : ℕ) → Contains links link → link.to ≡ number → slot < n → one link slot ≡ other link slot) → tile_run hardware links grants one number n ≡ tile_run hardware links grants other number n
  run_same zero same = run_none hardware links grants one number ∙ sym (run_none hardware links grants other number)
  run_same (suc n) same =
      let more : suc n ≡ n + 1 = omega arith in
      ap (tile_run hardware links grants one number) more
      ∙ run_more hardware links grants one number n
      ∙ ap₂ (hardware.after grants)
      (inputs_same hardware.idle links (λ link. one link n) (λ link. other link n) number (λ link inside is. same link n inside is (omega arith)))
      (run_same n (λ link slot inside is low. same link slot inside is (omega arith)))
      ∙ sym (run_more hardware links grants other number n)
      ∙ sym (ap (tile_run hardware links grants other number) more)

  puts_same : (n : ℕ) → ((link : Link) (slot : ℕ) → Contains links link → link.to ≡ number → slot < n → one link slot ≡ other link slot) → (link : Link) → link.from ≡ number → (slot : ℕ) → slot < n → run_puts hardware links grants one link slot ≡ run_puts hardware links grants other link slot
  puts_same n same link is slot low =
      rw is (ap₂ (λ (inputs : List Flit) (tile : Tile). get_or (hardware.puts grants inputs tile) link.out hardware.idle)
      (inputs_same hardware.idle links (λ link. one link slot) (λ link. other link slot) number (λ link inside at. same link slot inside at low))
      (run_same slot (λ link k inside at below. same link k inside at (omega arith))))

-- ---- what is laid at the inputs, place by place

abbrev wire_at : ℕ → List (Wire LinkIn) → Option (Wire LinkIn)
wire_at p wires = find (λ wire. wire.place == p) wires

abbrev lay : List WordAndCredits → Wire LinkIn → List WordAndCredits
lay inputs wire = set inputs wire.place (waiting (receiving wire.end))

abbrev waits_on : Option (Wire LinkIn) → WordAndCredits → WordAndCredits
waits_on found none = option_map_or (λ wire. waiting (receiving wire.end)) found none

alone_at : (wire : Wire LinkIn) (wires : List (Wire LinkIn)) → find (λ q. q == wire.place) (map (λ (other : Wire LinkIn). other.place) wires) ≡ None → wire_at wire.place wires ≡ None
alone_at wire wires none =
    map_none (λ (other : Wire LinkIn). other.place) (wire_at wire.place wires)
    (sym (find_map (λ (other : Wire LinkIn). other.place) (λ q. q == wire.place) wires) ∙ none)

laid : (wires : List (Wire LinkIn)) (p : ℕ) (inputs : List WordAndCredits) → p < length inputs → AreApart (map (λ (wire : Wire LinkIn). wire.place) wires) → get_or (fold lay inputs wires) p idle ≡ waits_on (wire_at p wires) (get_or inputs p idle)
laid [] p inputs low apart = refl
laid (wire ∷ wires) p inputs low apart =
    let long = length-set inputs wire.place (waiting (receiving wire.end)) in
    laid wires p (lay inputs wire) (omega (arith, long)) apart.1
    ∙ elim (cases_eq p wire.place) [
      | inl is ↦
          ap (λ o. waits_on o (get_or (lay inputs wire) p idle)) (ap (λ q. wire_at q wires) is ∙ alone_at wire wires apart.0)
          ∙ get_or-set_at inputs wire.place p (waiting (receiving wire.end)) idle is (omega arith)
          ∙ sym (ap (λ b. waits_on (cond b (Some wire) (wire_at p wires)) (get_or inputs p idle)) (eq-eqb wire.place p (sym is)))
      | inr other ↦
          ap (waits_on (wire_at p wires)) (get_or-set_other inputs wire.place p (waiting (receiving wire.end)) idle other)
          ∙ sym (ap (λ b. waits_on (cond b (Some wire) (wire_at p wires)) (get_or inputs p idle)) (ne_eqb wire.place p (λ same. other (sym same))))
    ]

long_laid : (wires : List (Wire LinkIn)) (inputs : List WordAndCredits) → length (fold lay inputs wires) ≡ length inputs
long_laid [] inputs = refl
long_laid (wire ∷ wires) inputs = long_laid wires (lay inputs wire) ∙ length-set inputs wire.place (waiting (receiving wire.end))

none_laid : (p : ℕ) → p < 7 → get_or (replicate 7 idle) p idle ≡ idle
none_laid zero low = refl
none_laid (suc zero) low = refl
none_laid (suc (suc zero)) low = refl
none_laid (suc (suc (suc zero))) low = refl
none_laid (suc (suc (suc (suc zero)))) low = refl
none_laid (suc (suc (suc (suc (suc zero))))) low = refl
none_laid (suc (suc (suc (suc (suc (suc zero)))))) low = refl
none_laid (suc (suc (suc (suc (suc (suc (suc n))))))) low = absurd (omega arith)

brought_by : (wires : List (Wire LinkIn)) → AreApart (map (λ (wire : Wire LinkIn). wire.place) wires) → brought wires ≡ map (λ p. waits_on (wire_at p wires) idle) (range_with_len 0 7)
brought_by wires apart =
    fill_by_all (λ p. waits_on (wire_at p wires) idle) (brought wires) 7 idle (long_laid wires (replicate 7 idle))
    (λ p low. laid wires p (replicate 7 idle) low apart ∙ ap (waits_on (wire_at p wires)) (none_laid p low))

-- ---- what was taken, place by place

abbrev taken_on : Option (Wire LinkIn) → List WordAndCredits
taken_on found = option_map_or (λ wire. flits_taken wire.end) found []

abbrev taken_now : Option (Wire LinkIn) → List WordAndCredits
taken_now found = option_map_or (λ wire. flits_taken wire.end ++ waiting (receiving wire.end) ∷ []) found []

flits_before : (wires : List (Wire LinkIn)) (p : ℕ) → flits_at (map in_seen wires) p ≡ taken_on (wire_at p wires)
flits_before wires p =
    ap (λ o. option_map_or (λ (seen : Seen). seen.flits) o []) (find_map in_seen (λ seen. seen.place == p) wires)
    ∙ map_or_map in_seen (λ seen. seen.flits) [] (wire_at p wires)

flits_after : (wires : List (Wire LinkIn)) (p : ℕ) → flits_at (map taken_more wires) p ≡ taken_now (wire_at p wires)
flits_after wires p =
    ap (λ o. option_map_or (λ (seen : Seen). seen.flits) o []) (find_map taken_more (λ seen. seen.place == p) wires)
    ∙ map_or_map taken_more (λ seen. seen.flits) [] (wire_at p wires)

same_taken : (found : Option (Wire LinkIn)) (n slot : ℕ) → slot < n → length (taken_on found) ≡ n → get_or (taken_now found) slot idle ≡ get_or (taken_on found) slot idle
same_taken None n slot low long = refl
same_taken (Some wire) n slot low long = get_or_append_left (flits_taken wire.end) (waiting (receiving wire.end) ∷ []) idle slot (omega (arith, low, long))

now_taken : (found : Option (Wire LinkIn)) (n : ℕ) → is_some found ≡ true → length (taken_on found) ≡ n → get_or (taken_now found) n idle ≡ waits_on found idle
now_taken None n some long = absurd (true≢false (sym some))
now_taken (Some wire) n some long = get_or_at (flits_taken wire.end) (waiting (receiving wire.end)) [] idle n long

long_taken : (found : Option (Wire LinkIn)) (n : ℕ) → is_some found ≡ true → length (taken_on found) ≡ n → length (taken_now found) ≡ n + 1
long_taken None n some long = absurd (true≢false (sym some))
long_taken (Some wire) n some long = omega (arith, long, length-append (flits_taken wire.end) (waiting (receiving wire.end) ∷ []))

none_on : (found : Option (Wire LinkIn)) → is_some found ≡ false → waits_on found idle ≡ idle
none_on None none = refl
none_on (Some wire) none = absurd (true≢false none)

-- ---- what was set, place by place

set_more : (outputs : List WordAndCredits) (ends : List Seen) (p : ℕ) → is_some (find (λ seen. seen.place == p) ends) ≡ true → flits_at (map (set_on outputs) ends) p ≡ flits_at ends p ++ get_or outputs p idle ∷ []
set_more outputs [] p some = absurd (true≢false (sym some))
set_more outputs (seen ∷ ends) p some = by (seen.place == p) refl (set_more outputs ends p)
  where
    by : (b : Bool) → (seen.place == p) ≡ b → (is_some (find (λ seen. seen.place == p) ends) ≡ true → flits_at (map (set_on outputs) ends) p ≡ flits_at ends p ++ get_or outputs p idle ∷ [])
        → option_map_or (λ (seen : Seen). seen.flits) (cond (seen.place == p) (Some (set_on outputs seen)) (find (λ seen. seen.place == p) (map (set_on outputs) ends))) []
        ≡ option_map_or (λ (seen : Seen). seen.flits) (cond (seen.place == p) (Some seen) (find (λ seen. seen.place == p) ends)) [] ++ get_or outputs p idle ∷ []
    by true is rest = rw is (ap (λ q. seen.flits ++ get_or outputs q idle ∷ []) (eqb-true seen.place p is))
    by false is rest = rw is (rest (subst (λ b. is_some (cond b (Some seen) (find (λ seen. seen.place == p) ends)) ≡ true) is some))

-- ---- one slot more

-- a link that a test finds is one of the list that passes it
contained : (test : Link → Bool) (links : List Link) (link : Link) → find test links ≡ Some link → Contains links link × (test link ≡ true)
contained test links link is =
    let (place, there, passes) = found_place test links link is in
    ((place, slice_get_within links place link there, get_or_from_slice_get links place link link there), passes)

entered : (tile input : ℕ) (link : Link) → is_at input (input_on tile link) ≡ enters tile input link
entered tile input link = by (link.to == tile)
  where
    by : (b : Bool) → is_at input (cond b (Some link.input) None) ≡ (b && link.input == input)
    by true = refl
    by false = refl

module _ (world : World) (loads : List LoadName) (grants : List Grant) (wires : List (Wire LinkIn)) (old new : StationState)
    (seen : map in_seen wires ≡ old.ins) (advances : Advances world grants wires old new) (same : new.tile.number ≡ old.tile.number)
    (run : HasRun world loads grants old) where
  abbrev links : List Link
  links = world.platform.links

  abbrev hardware : Hardware TileState WordAndCredits
  hardware = tile_hardware world loads

  abbrev number : ℕ
  number = old.tile.number

  -- what was taken before, and now
  abbrev before : Link → ℕ → WordAndCredits
  before = came old.ins

  abbrev now : Link → ℕ → WordAndCredits
  now = came new.ins

  old_at : (p : ℕ) → flits_at old.ins p ≡ taken_on (wire_at p wires)
  old_at p = sym (ap (λ (ends : List Seen). flits_at ends p) seen) ∙ flits_before wires p

  new_at : (p : ℕ) → flits_at new.ins p ≡ taken_now (wire_at p wires)
  new_at p = ap (λ (ends : List Seen). flits_at ends p) advances.taken ∙ flits_after wires p

  long_before : (link : Link) → Contains links link → link.to ≡ number → length (taken_on (wire_at link.input wires)) ≡ old.tile.at
  long_before link inside is = sym (ap length (old_at link.input)) ∙ run.taken link inside is

  same_before : (link : Link) (slot : ℕ) → Contains links link → link.to ≡ number → slot < old.tile.at → now link slot ≡ before link slot
  same_before link slot inside is low =
      ap (λ (flits : List WordAndCredits). get_or flits slot idle) (new_at link.input)
      ∙ same_taken (wire_at link.input wires) old.tile.at slot low (long_before link inside is)
      ∙ sym (ap (λ (flits : List WordAndCredits). get_or flits slot idle) (old_at link.input))

  some_wire : (p : ℕ) → is_some (wire_at p wires) ≡ is_some (find (enters number p) links)
  some_wire p =
      sym (some_map in_seen (wire_at p wires))
      ∙ sym (ap is_some (find_map in_seen (λ seen. seen.place == p) wires))
      ∙ ap (λ (ends : List Seen). is_some (find (λ seen. seen.place == p) ends)) seen
      ∙ end_at (input_on number) links old.ins p run.wired.ins
      ∙ ap (λ (test : Link → Bool). is_some (find test links)) (fun_ext (entered number p))

  carried_now : (p : ℕ) (found : Option Link) → find (enters number p) links ≡ found → option_map_or (λ link. now link old.tile.at) found idle ≡ waits_on (wire_at p wires) idle
  carried_now p None is = sym (none_on (wire_at p wires) (some_wire p ∙ ap is_some is))
  carried_now p (Some link) is =
      let (inside, passes) = contained (enters number p) links link is in
      let ends = and_parts (link.to == number) (link.input == p) passes in
      let at = eqb-true link.input p ends.1 in
      ap (λ q. get_or (flits_at new.ins q) old.tile.at idle) at
      ∙ ap (λ (flits : List WordAndCredits). get_or flits old.tile.at idle) (new_at p)
      ∙ now_taken (wire_at p wires) old.tile.at (some_wire p ∙ ap is_some is)
      (subst (λ q. length (taken_on (wire_at q wires)) ≡ old.tile.at) at (long_before link inside (eqb-true link.to number ends.0)))

  places_apart : AreApart (map (λ (wire : Wire LinkIn). wire.place) wires)
  places_apart =
      subst AreApart
      (sym (map_map (λ (spot : Spot). spot.place) (λ (wire : Wire LinkIn). spot_of (in_seen wire)) wires
      ∙ ap (λ (all : List Spot). map (λ (spot : Spot). spot.place) all)
      (map_map spot_of in_seen wires ∙ ap (λ (ends : List Seen). map spot_of ends) seen ∙ run.wired.ins)))
      (inputs_apart world.platform number)

  inputs_now : inputs_of idle links (λ link. now link old.tile.at) number ≡ brought wires
  inputs_now =
      made_same (λ p. option_map_or (λ link. now link old.tile.at) (find (enters number p) links) idle)
      (λ p. waits_on (wire_at p wires) idle) 0 7 (λ p low. carried_now p (find (enters number p) links) refl)
      ∙ sym (brought_by wires places_apart)

  run_now : tile_run hardware links grants now number old.tile.at ≡ old.tile
  run_now = run_same hardware links grants now before number old.tile.at same_before ∙ sym run.tile

  at_now : new.tile.at ≡ old.tile.at + 1
  at_now = ap (λ (tile : TileState). tile.at) advances.tile ∙ slot_at world grants (brought wires) old.tile

  wired_now : IsWired links new
  wired_now = record {
    outs = ap (map spot_of) advances.set ∙ sym (map_map spot_of (set_on (slot_outputs world grants (brought wires) old.tile)) old.outs)
        ∙ run.wired.outs ∙ sym (ap (λ n. spots (output_on n) 0 links) same);
    ins = ap (map spot_of) advances.taken ∙ sym (map_map spot_of taken_more wires) ∙ map_map spot_of in_seen wires ∙ ap (map spot_of) seen
        ∙ run.wired.ins ∙ sym (ap (λ n. spots (input_on n) 0 links) same);
  }

  tile_now : new.tile ≡ tile_run hardware links grants now new.tile.number new.tile.at
  tile_now =
      advances.tile
      ∙ sym (ap₂ (tile_slot world grants) inputs_now run_now)
      ∙ sym (run_more hardware links grants now number old.tile.at)
      ∙ sym (ap₂ (tile_run hardware links grants now) same at_now)

  taken_all : (link : Link) → Contains links link → link.to ≡ new.tile.number → length (flits_at new.ins link.input) ≡ new.tile.at
  taken_all link inside is =
      let old_is = is ∙ same in
      let there = end_there (input_on number) links old.ins link link.input run.wired.ins inside (ap (λ b. cond b (Some link.input) None) (eq-eqb link.to number old_is)) in
      let wire : is_some (wire_at link.input wires) ≡ true =
      sym (some_map in_seen (wire_at link.input wires))
      ∙ sym (ap is_some (find_map in_seen (λ seen. seen.place == link.input) wires))
      ∙ ap (λ (ends : List Seen). is_some (find (λ seen. seen.place == link.input) ends)) seen
      ∙ there in
      ap length (new_at link.input) ∙ long_taken (wire_at link.input wires) old.tile.at wire (long_before link inside old_is) ∙ sym at_now

  puts_now : (link : Link) → link.from ≡ number → run_puts hardware links grants now link old.tile.at ≡ get_or (slot_outputs world grants (brought wires) old.tile) link.out idle
  puts_now link is = rw is (ap₂ (λ (inputs : List WordAndCredits) (tile : TileState). get_or (slot_outputs world grants inputs tile) link.out idle) inputs_now run_now)

  set_all : (link : Link) → Contains links link → link.from ≡ new.tile.number → flits_at new.outs link.out ≡ map (run_puts hardware links grants now link) (range_with_len 0 new.tile.at)
  set_all link inside is =
      let old_is = is ∙ same in
      let outputs = slot_outputs world grants (brought wires) old.tile in
      let there = end_there (output_on number) links old.outs link link.out run.wired.outs inside (ap (λ b. cond b (Some link.out) None) (eq-eqb link.from number old_is)) in
      ap (λ (ends : List Seen). flits_at ends link.out) advances.set
      ∙ set_more outputs old.outs link.out there
      ∙ ap₂ (λ (flits : List WordAndCredits) (flit : WordAndCredits). flits ++ flit ∷ [])
      (run.set link inside old_is
      ∙ sym (made_same (run_puts hardware links grants now link) (run_puts hardware links grants before link) 0 old.tile.at
      (λ k low. puts_same hardware links grants now before number old.tile.at same_before link old_is k (omega (arith, low)))))
      (sym (puts_now link old_is))
      ∙ sym (map-range_with_len_more (run_puts hardware links grants now link) 0 old.tile.at old.tile.at (omega arith))
      ∙ sym (ap (λ n. map (run_puts hardware links grants now link) (range_with_len 0 n)) at_now)

  one_more : HasRun world loads grants new
  one_more = record {
    exists = subst (λ n. n < world.platform.tiles) (sym same) run.exists;
    wired = wired_now;
    tile = tile_now;
    taken = taken_all;
    set = set_all;
  }

-- a tile that goes on keeps its number
number_kept : (world : World) (schedule : Schedule) (inputs : List WordAndCredits) (tile : TileState) → IsUnderway world schedule tile → (tile_slot world schedule.grants.items inputs tile).number ≡ tile.number
number_kept world schedule inputs tile underway = slot_number world underway.loads schedule.grants.items inputs tile underway.sound underway.made

number_same : (world : World) (schedule : Schedule) (wires : List (Wire LinkIn)) (old new : StationState) → IsUnderway world schedule old.tile → Advances world schedule.grants.items wires old new → new.tile.number ≡ old.tile.number
number_same world schedule wires old new underway advances =
    ap (λ (tile : TileState). tile.number) advances.tile ∙ number_kept world schedule (brought wires) old.tile underway

-- a station that has run by itself has done so after a slot more, and after a try of one
pub run_advances : (world : World) (loads : List LoadName) (schedule : Schedule) (wires : List (Wire LinkIn)) (old new : StationState) → IsUnderway world schedule old.tile → map in_seen wires ≡ old.ins → Advances world schedule.grants.items wires old new → HasRun world loads schedule.grants.items old → HasRun world loads schedule.grants.items new
run_advances world loads schedule wires old new underway seen advances run =
    one_more world loads schedule.grants.items wires old new seen advances (number_same world schedule wires old new underway advances) run

pub run_tries : (world : World) (loads : List LoadName) (schedule : Schedule) (old new : Station) (turn : Turn) → IsUnderway world schedule old.tile → TriesSlot world schedule old new turn → HasRun world loads schedule.grants.items (station_state old) → HasRun world loads schedule.grants.items (station_state new)
run_tries world loads schedule old new Moved underway tries run =
    run_advances world loads schedule tries.0.tried (station_state old) (station_state new) underway tries.0.same tries.0.advances run
run_tries world loads schedule old new (NotYet lack) underway tries run = subst (HasRun world loads schedule.grants.items) (sym tries.same) run

-- ---- the ends stay

keeps_by : (world : World) (grants : List Grant) (wires : List (Wire LinkIn)) (old new : StationState) → map in_seen wires ≡ old.ins → Advances world grants wires old new → new.tile.number ≡ old.tile.number → KeepsEnds old new
keeps_by world grants wires old new seen advances same =
    let outs : map but_flits new.outs ≡ map but_flits old.outs =
    ap (map but_flits) advances.set ∙ sym (map_map but_flits (set_on (slot_outputs world grants (brought wires) old.tile)) old.outs) in
    let ins : map but_flits new.ins ≡ map but_flits old.ins =
    ap (map but_flits) advances.taken ∙ sym (map_map but_flits taken_more wires) ∙ map_map but_flits in_seen wires ∙ ap (map but_flits) seen in
    rw (outs, ins, same) refl

pub advance_keeps : (world : World) (schedule : Schedule) (wires : List (Wire LinkIn)) (old new : StationState) → IsUnderway world schedule old.tile → map in_seen wires ≡ old.ins → Advances world schedule.grants.items wires old new → KeepsEnds old new
advance_keeps world schedule wires old new underway seen advances =
    keeps_by world schedule.grants.items wires old new seen advances (number_same world schedule wires old new underway advances)

pub try_keeps : (world : World) (schedule : Schedule) (old new : Station) (turn : Turn) → IsUnderway world schedule old.tile → TriesSlot world schedule old new turn → KeepsEnds (station_state old) (station_state new)
try_keeps world schedule old new Moved underway tries =
    advance_keeps world schedule tries.0.tried (station_state old) (station_state new) underway tries.0.same tries.0.advances
try_keeps world schedule old new (NotYet lack) underway tries = ap ends_of tries.same

-- ---- all stations that have run by themselves can go on

pub all_underway : (world : World) (loads : List LoadName) (schedule : Schedule) (stations : List Station) → IsSoundWorld world loads → IsApart world schedule.grants.items → AreOfLoads loads schedule.grants.items
    → schedule.horizon * world.platform.slot_cycles ≤ LAST_CYCLE → HaveRun world loads schedule.grants.items (map station_state stations) → All (λ station. IsUnderway world schedule station.tile) stations
all_underway world loads schedule stations sound apart of_loads bounded have = λ k d low.
    let state : get_or (map station_state stations) k (station_state d) ≡ station_state (get_or stations k d) = get_or-map station_state stations k d (station_state d) low in
    run_underway world loads schedule (station_state (get_or stations k d)) sound apart of_loads bounded
    (subst (HasRun world loads schedule.grants.items) state (have.each k (station_state d) (omega (arith, low, length-map stations station_state))))
