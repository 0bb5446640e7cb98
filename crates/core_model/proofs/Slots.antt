-- A slot of a tile keeps the core in order.
use Rattle.std.proofs.Common.{◌≡◌, ℕ, ◌+◌, ◌≤◌, inl, inr, Bool, true, false, cond, List, [], ◌∷◌, map, slice_get, Option, Some, None, refl, sym, ap, subst, ◌∙◌, arith, length-set}
use Rattle.std.specs.Prelude.{nat_lt}
use Rattle.std.specs.List.{list_all}
use Rattle.std.proofs.lemmas.Bool.{and_parts, ltb-true, cases_eq}
use Rattle.std.proofs.lemmas.Option.{same_Some}
use Rattle.std.proofs.lemmas.List.Elements.{All-map}
use Rattle.std.proofs.lemmas.List.Sums.{AllPass-from_list_all}
use Rattle.vep_manager.specs.declared.setup.Setup.{Setup}
use Rattle.vep_manager.specs.History.{horizon_of, grants_of}
use Rattle.lockstep.specs.Hardware.{Hardware}
use Rattle.lockstep.specs.Stays.{IsPaced}
use Rattle.core_model.specs.Core.{Line, CoreState, line_inputs, is_fed, passed, may_go, after_slot, slot_taken}
use Rattle.core_model.specs.Order.{in_step, HoldsBetween, IsInOrder}
use Rattle.core_model.proofs.Lists.{set_here, set_there, both_hold}
use Rattle.core_model.proofs.Turns.{Going, going_tile, line_after}

map_links : {Flit : Type 0} (idle : Flit) (number : ℕ) (outputs : List Flit) (lines : List (Line Flit)) → map (λ (line : Line Flit). line.link) (map (passed idle number outputs) lines) ≡ map (λ (line : Line Flit). line.link) lines
map_links idle number outputs [] = refl
map_links idle number outputs (line ∷ lines) = ap (λ l. line.link ∷ l) (map_links idle number outputs lines)

pub slot_keeps : {Tile Flit : Type 0} (hardware : Hardware Tile Flit) (setup : Setup) (core : CoreState Tile Flit) (number : ℕ) (tile : Tile) → IsPaced Tile Flit hardware → IsInOrder Tile Flit hardware setup core → Going hardware setup core number tile → IsInOrder Tile Flit hardware setup (after_slot hardware setup core number tile)
slot_keeps {Tile} {Flit} hardware setup core number tile paced order going =
    let grants = grants_of setup core.history in
    let inputs = line_inputs hardware.idle core.lines number in
    let new = hardware.after grants inputs tile in
    let outputs = hardware.puts grants inputs tile in
    let after = after_slot hardware setup core number tile in
    let at : hardware.at new ≡ hardware.at tile + 1 = paced.goes_on grants inputs tile in
    let low = going.low in
    let each : (P : ℕ → Tile → Type 0) → P number new → ((k : ℕ) (t : Tile) → slice_get core.tiles k ≡ Some t → P k t) → (k : ℕ) (t : Tile) → slice_get after.tiles k ≡ Some t → P k t = λ P here others k t is.
    elim (cases_eq k number) [
      | inl same ↦
          let is_new : Some new ≡ Some t = sym (set_here core.tiles number tile new going.there) ∙ sym (ap (slice_get after.tiles) same) ∙ is in
          let t_is : new ≡ t = same_Some new t is_new in
          subst (λ (n : ℕ). P n t) (sym same) (subst (P number) t_is here)
      | inr apart ↦ others k t (sym (set_there core.tiles number k new (λ same. apart (sym same))) ∙ is)
    ] in
    record {
      legal = order.legal;
      counted = length-set core.tiles number new ∙ order.counted;
      linked = map_links hardware.idle number outputs core.lines ∙ order.linked;
      below = each (λ k t. hardware.at t ≤ horizon_of setup core.history) (omega arith) order.below;
      stepped = each (λ k t. t ≡ (in_step hardware setup core (hardware.at t)).tile k)
          (going_tile hardware setup core number tile order going ∙ ap (λ (slot : ℕ). (in_step hardware setup core slot).tile number) (sym at))
          order.stepped;
      between = All-map (HoldsBetween Tile Flit hardware setup after) (passed hardware.idle number outputs) core.lines
          (both_hold (HoldsBetween Tile Flit hardware setup core) (λ (line : Line Flit). is_fed number line ≡ true) (λ (line : Line Flit). HoldsBetween Tile Flit hardware setup after (passed hardware.idle number outputs line)) core.lines
          (line_after hardware setup core number tile paced order going) order.between going.fed);
    }

going_by : {Tile Flit : Type 0} (hardware : Hardware Tile Flit) (setup : Setup) (core : CoreState Tile Flit) (number : ℕ) (tile : Tile) → slice_get core.tiles number ≡ Some tile → may_go hardware setup core number tile ≡ true → Going hardware setup core number tile
going_by hardware setup core number tile there may =
    let parts = and_parts (nat_lt (hardware.at tile) (horizon_of setup core.history)) (list_all (is_fed number) core.lines) may in
    record { there = there; low = ltb-true _ _ parts.0; fed = AllPass-from_list_all (is_fed number) core.lines parts.1 }

may_keeps : {Tile Flit : Type 0} (hardware : Hardware Tile Flit) (setup : Setup) (core : CoreState Tile Flit) (number : ℕ) (tile : Tile) (may : Bool) → may_go hardware setup core number tile ≡ may → IsPaced Tile Flit hardware → IsInOrder Tile Flit hardware setup core → slice_get core.tiles number ≡ Some tile → IsInOrder Tile Flit hardware setup (cond may (after_slot hardware setup core number tile) core)
may_keeps hardware setup core number tile true may paced order there = slot_keeps hardware setup core number tile paced order (going_by hardware setup core number tile there may)
may_keeps hardware setup core number tile false may paced order there = order

pub tile_keeps : {Tile Flit : Type 0} (hardware : Hardware Tile Flit) (setup : Setup) (core : CoreState Tile Flit) (number : ℕ) (o : Option Tile) → slice_get core.tiles number ≡ o → IsPaced Tile Flit hardware → IsInOrder Tile Flit hardware setup core → IsInOrder Tile Flit hardware setup (slot_taken hardware setup core number o)
tile_keeps hardware setup core number None there paced order = order
tile_keeps hardware setup core number (Some tile) there paced order = may_keeps hardware setup core number tile (may_go hardware setup core number tile) refl paced order there
