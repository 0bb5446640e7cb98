-- Nothing hinders a tile just where it may take its next slot.
use Rattle.std.proofs.Common.{◌≡◌, ◌↔◌, ℕ, ◌&&◌, ◌<◌, Bool, true, false, cond, not, List, length, get_or, option_map, slice_get, Option, Some, None, refl, sym, ap, inl, inr, ◌∙◌, arith}
use Rattle.std.specs.Prelude.{nat_le, nat_lt, is_some, IfSome}
use Rattle.std.specs.List.{list_all}
use Rattle.std.specs.Option.{option_and_then}
use Rattle.std.proofs.lemmas.Bool.{and_parts, leb-true, leb-false, lt-ltb, ltb-true}
use Rattle.std.proofs.lemmas.Option.{slice_get_cases, slice_get-get_or}
use Rattle.std.proofs.lemmas.List.Sums.{AllPass-from_list_all, list_all-from_AllPass}
use Rattle.bundle_model.proofs.Laws.{no_place}
use Rattle.soc_base.specs.Port.{WordAndCredits}
use Rattle.tile_core.specs.Tile.{TileState}
use Rattle.vep_manager.specs.declared.setup.Setup.{Setup}
use Rattle.vep_manager.specs.History.{horizon_of}
use Rattle.core_model.specs.Core.{Line, CoreState, is_fed, may_go, least_ready, after_slot, slot_taken, happens}
use Rattle.core_model.specs.Order.{IsInOrder}
use Rattle.core_model.proofs.Laws.{least_may_go}
use Rattle.core_model.specs.Core.Happening.{Slot as Slots}
use Rattle.event_core.specs.declared.event.Event.TheVariants.{Slot}
use Rattle.event_core.specs.declared.event.Why.{Why}
use Rattle.event_core.specs.declared.event.Why.TheVariants.{Fence, Waits}
use Rattle.event_core.specs.Core.{Engaged, hardware_of, after_event, first_waiting, hindered, why_not, is_enabled}
use Rattle.event_core.proofs.WireLoops.{position_is_none}

pub and_both : (a b : Bool) → a ≡ true → b ≡ true → (a && b) ≡ true
and_both true b one other = other
and_both false b one other = one

passes_by : (b : Bool) → not b ≡ false → b ≡ true
passes_by true e = refl
passes_by false e = sym e

fails_by : (b : Bool) → b ≡ true → not b ≡ false
fails_by true e = refl
fails_by false e = sym e

none_of : (o : Option ℕ) → option_map Waits o ≡ None → o ≡ None
none_of None e = refl
none_of (Some n) e = cc

hinders_by : (number horizon at : ℕ) (lines : List (Line WordAndCredits)) (past : Bool) → nat_le horizon at ≡ past → (cond past (Some (Fence horizon)) (option_map Waits (first_waiting number lines)) ≡ None) ↔ ((nat_lt at horizon && list_all (is_fed number) lines) ≡ true)
hinders_by number horizon at lines true is =
    let high = leb-true horizon at is in
    (λ none. cc, λ may. let low = ltb-true at horizon (and_parts (nat_lt at horizon) (list_all (is_fed number) lines) may).0 in absurd (omega arith))
hinders_by number horizon at lines false is =
    let low = leb-false horizon at is in
    let unfed = λ (line : Line WordAndCredits). not (is_fed number line) in (
      λ none.
          and_both (nat_lt at horizon) (list_all (is_fed number) lines) (lt-ltb at horizon low)
          (list_all-from_AllPass (is_fed number) lines
          (λ k d below.
          let line = get_or lines k d in
          passes_by (is_fed number line) (no_place unfed lines k line (none_of (first_waiting number lines) none) (slice_get-get_or lines k d below)))),
      λ may.
          let fed = AllPass-from_list_all (is_fed number) lines (and_parts (nat_lt at horizon) (list_all (is_fed number) lines) may).1 in
          ap (option_map Waits) (position_is_none unfed lines (λ k d below. fails_by (is_fed number (get_or lines k d)) (fed k d below))),
    )

-- why a tile can't take its next slot
abbrev pub hindrance_of : Setup → CoreState TileState WordAndCredits → ℕ → TileState → Option Why
hindrance_of setup core number tile = hindered (horizon_of setup core.history) tile.at (first_waiting number core.lines)

-- nothing keeps a tile from its next slot just where it may take it
pub none_hinders : (setup : Setup) (core : CoreState TileState WordAndCredits) (number : ℕ) (tile : TileState) → (hindrance_of setup core number tile ≡ None) ↔ (may_go (hardware_of setup) setup core number tile ≡ true)
none_hinders setup core number tile = hinders_by number (horizon_of setup core.history) tile.at core.lines (nat_le (horizon_of setup core.history) tile.at) refl

-- ---- a tile that may go

abbrev pub Goes : Engaged → ℕ → Type 0
Goes e number =
    (tile : TileState) × (slice_get e.core.tiles number ≡ Some tile) × (may_go (hardware_of e.setup) e.setup e.core number tile ≡ true)

goes_by : (e : Engaged) (number : ℕ) (o : Option TileState) → slice_get e.core.tiles number ≡ o → number < length e.core.tiles → option_and_then (hindrance_of e.setup e.core number) o ≡ None → Goes e number
goes_by e number None there below none =
    elim (slice_get_cases e.core.tiles number).1 [
      | inl (tile, within, is, got) ↦ cc
      | inr (past, is) ↦ absurd (omega arith)
    ]
goes_by e number (Some tile) there below none = (tile, there, (none_hinders e.setup e.core number tile).0 none)

-- a tile that nothing hinders may go
pub goes : (e : Engaged) (number : ℕ) → number < length e.core.tiles → why_not e (Slot number) ≡ None → Goes e number
goes e number below none = goes_by e number (slice_get e.core.tiles number) refl below none

-- so its slot is enabled
pub goes_enabled : (e : Engaged) (number : ℕ) → Goes e number → is_enabled e (Slot number) ≡ true
goes_enabled e number it =
    let free : why_not e (Slot number) ≡ None = ap (option_and_then (hindrance_of e.setup e.core number)) it.1 ∙ (none_hinders e.setup e.core number it.0).1 it.2 in
    and_both (is_some (slice_get e.core.tiles number)) (not (is_some (why_not e (Slot number)))) (ap is_some it.1) (ap (λ (o : Option Why). not (is_some o)) free)

some_weaker : {X : Type 0} (o : Option X) (P Q : X → Type 0) → ((x : X) → P x → Q x) → IfSome o P → IfSome o Q
some_weaker None P Q each holds = tt
some_weaker (Some x) P Q each holds = each x holds

-- and so is that of the tile of least slot
pub least_enabled : (e : Engaged) → IsInOrder TileState WordAndCredits (hardware_of e.setup) e.setup e.core → IfSome (least_ready (hardware_of e.setup) e.setup e.core) (λ tile. is_enabled e (Slot tile) ≡ true)
least_enabled e order =
    some_weaker (least_ready (hardware_of e.setup) e.setup e.core) (Goes e) (λ tile. is_enabled e (Slot tile) ≡ true) (goes_enabled e) (least_may_go (hardware_of e.setup) e.setup e.core order)

taken_by : (setup : Setup) (core : CoreState TileState WordAndCredits) (number : ℕ) (tile : TileState) (may : Bool) → may ≡ true → cond may (after_slot (hardware_of setup) setup core number tile) core ≡ after_slot (hardware_of setup) setup core number tile
taken_by setup core number tile true is = refl
taken_by setup core number tile false is = cc

-- and goes
pub slot_happens : (setup : Setup) (core : CoreState TileState WordAndCredits) (number : ℕ) (tile : TileState) → slice_get core.tiles number ≡ Some tile → may_go (hardware_of setup) setup core number tile ≡ true → happens (hardware_of setup) setup core (Slots number) ≡ after_slot (hardware_of setup) setup core number tile
unfolding happens
slot_happens setup core number tile there may =
    ap (λ (o : Option TileState). slot_taken (hardware_of setup) setup core number o) there ∙ taken_by setup core number tile (may_go (hardware_of setup) setup core number tile) may

-- ---- one that may not

still_if : (setup : Setup) (core : CoreState TileState WordAndCredits) (number : ℕ) (tile : TileState) (may : Bool) → (may ≡ true → ⊥) → cond may (after_slot (hardware_of setup) setup core number tile) core ≡ core
still_if setup core number tile true never = absurd (never refl)
still_if setup core number tile false never = refl

still_by : (setup : Setup) (core : CoreState TileState WordAndCredits) (number : ℕ) (o : Option TileState) → (option_and_then (hindrance_of setup core number) o ≡ None → o ≡ None) → slot_taken (hardware_of setup) setup core number o ≡ core
still_by setup core number None never = refl
still_by setup core number (Some tile) never =
    still_if setup core number tile (may_go (hardware_of setup) setup core number tile)
    (λ may. let none : Some tile ≡ None = never ((none_hinders setup core number tile).1 may) in cc)

still : (setup : Setup) (core : CoreState TileState WordAndCredits) (number : ℕ) → (option_and_then (hindrance_of setup core number) (slice_get core.tiles number) ≡ None → slice_get core.tiles number ≡ None) → happens (hardware_of setup) setup core (Slots number) ≡ core
unfolding happens
still setup core number never = still_by setup core number (slice_get core.tiles number) never

same_core : (e : Engaged) (core : CoreState TileState WordAndCredits) → core ≡ e.core → record e { core = core } ≡ e
same_core e core is = ap (λ (c : CoreState TileState WordAndCredits). let after : Engaged = record { setup = e.setup; core = c } in after) is

-- a slot that is hindered changes nothing
pub hindered_stays : (e : Engaged) (number : ℕ) (why : Why) → why_not e (Slot number) ≡ Some why → after_event e (Slot number) ≡ e
hindered_stays e number why is =
    same_core e (happens (hardware_of e.setup) e.setup e.core (Slots number)) (still e.setup e.core number (λ none. cc))

-- and so does one of a tile that doesn't exist
pub past_stays : (e : Engaged) (number : ℕ) → slice_get e.core.tiles number ≡ None → after_event e (Slot number) ≡ e
past_stays e number past =
    same_core e (happens (hardware_of e.setup) e.setup e.core (Slots number)) (still e.setup e.core number (λ _. past))
