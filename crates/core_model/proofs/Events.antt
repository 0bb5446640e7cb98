-- Every event keeps the core in order, and so do any events from the fresh core on.
use Rattle.std.proofs.Common.{◌≡◌, ℕ, ◌+◌, List, [], ◌∷◌, map, get_or, fold, slice_get, Option, Some, None, refl, sym, ap, ap₂, ◌∙◌, arith}
use Rattle.std.specs.Option.{option_map_or}
use Rattle.std.specs.List.{range_with_len}
use Rattle.std.proofs.lemmas.List.{length-map}
use Rattle.std.proofs.lemmas.List.Elements.{All-map}
use Rattle.std.proofs.lemmas.List.FromFn.{length-range_with_len}
use Rattle.platform_model.specs.declared.link.Link.{Link}
use Rattle.vep_manager.specs.declared.setup.Setup.{Setup}
use Rattle.vep_manager.specs.Setup.{IsSound}
use Rattle.vep_manager.specs.History.{grants_of}
use Rattle.vep_manager.specs.Replies.{next_entry}
use Rattle.vep_manager.proofs.Laws.{legal_none}
use Rattle.lockstep.specs.Hardware.{Hardware}
use Rattle.lockstep.specs.Lockstep.{Machine, lockstep}
use Rattle.lockstep.specs.Stays.{IsPaced}
use Rattle.lockstep.proofs.Laws.{lockstep_none}
use Rattle.core_model.specs.Core.{Line, CoreState, Happening, fresh_line, fresh_core, happens, core_after}
use Rattle.core_model.specs.Core.Happening.{Command, Slot}
use Rattle.core_model.specs.Order.{slot_of, HoldsBetween, IsInOrder}
use Rattle.core_model.proofs.Lists.{made_at}
use Rattle.core_model.proofs.Spans.{span}
use Rattle.core_model.proofs.Slots.{tile_keeps}
use Rattle.core_model.proofs.Commands.{entry_keeps}

pub happens_keeps : {Tile Flit : Type 0} (hardware : Hardware Tile Flit) (setup : Setup) → IsSound setup → IsPaced Tile Flit hardware → (core : CoreState Tile Flit) (event : Happening) → IsInOrder Tile Flit hardware setup core → IsInOrder Tile Flit hardware setup (happens hardware setup core event)
unfolding happens
happens_keeps hardware setup sound paced core (Command session) order = entry_keeps hardware setup core session (next_entry setup core.history session) refl sound paced order
happens_keeps hardware setup sound paced core (Slot number) order = tile_keeps hardware setup core number (slice_get core.tiles number) refl paced order

events_keep : {Tile Flit : Type 0} (hardware : Hardware Tile Flit) (setup : Setup) → IsSound setup → IsPaced Tile Flit hardware → (events : List Happening) (core : CoreState Tile Flit) → IsInOrder Tile Flit hardware setup core → IsInOrder Tile Flit hardware setup (fold (happens hardware setup) core events)
events_keep hardware setup sound paced [] core order = order
events_keep hardware setup sound paced (event ∷ events) core order = events_keep hardware setup sound paced events (happens hardware setup core event) (happens_keeps hardware setup sound paced core event order)

fresh_links : {Flit : Type 0} (idle : Flit) (links : List Link) → map (λ (line : Line Flit). line.link) (map (fresh_line idle) links) ≡ links
fresh_links idle [] = refl
fresh_links idle (link ∷ links) = ap (λ l. link ∷ l) (fresh_links idle links)

zero_by : {Tile : Type 0} (at : Tile → ℕ) (o : Option Tile) → ((tile : Tile) → o ≡ Some tile → at tile ≡ 0) → option_map_or at o 0 ≡ 0
zero_by at None none = refl
zero_by at (Some tile) none = none tile refl

pub fresh_order : {Tile Flit : Type 0} (hardware : Hardware Tile Flit) (setup : Setup) → IsPaced Tile Flit hardware → IsInOrder Tile Flit hardware setup (fresh_core hardware setup)
fresh_order {Tile} {Flit} hardware setup paced =
    let core = fresh_core hardware setup in
    let tiles = setup.world.platform.tiles in
    let links = setup.world.platform.links in
    let grants = grants_of setup [] in
    let made : (number : ℕ) (tile : Tile) → slice_get core.tiles number ≡ Some tile → tile ≡ hardware.fresh number = λ number tile there.
    let same : 0 + number ≡ number = omega arith in
    made_at hardware.fresh 0 tiles number tile there ∙ ap hardware.fresh same in
    let zeros : (number : ℕ) (tile : Tile) → slice_get core.tiles number ≡ Some tile → hardware.at tile ≡ 0 = λ number tile there. ap hardware.at (made number tile there) ∙ paced.begins number in
    let slots : (number : ℕ) → slot_of hardware core number ≡ 0 = λ number. zero_by hardware.at (slice_get core.tiles number) (zeros number) in
    record {
      legal = legal_none setup;
      counted = length-map (range_with_len 0 tiles) hardware.fresh ∙ length-range_with_len 0 tiles;
      linked = fresh_links hardware.idle links;
      below = λ number tile there. let none = zeros number tile there in omega arith;
      stepped = λ number tile there.
          made number tile there
          ∙ sym (ap (λ (slot : ℕ). (lockstep hardware links grants slot).tile number) (zeros number tile there) ∙ ap (λ (m : Machine Tile Flit). m.tile number) (lockstep_none hardware links grants));
      between = All-map (HoldsBetween Tile Flit hardware setup core) (fresh_line hardware.idle) links
          (λ k d low.
          let link = get_or links k d in
          let f = λ (slot : ℕ). (lockstep hardware links grants slot).carried link in
          let reader = slots link.to in
          let writer = slots link.from in
          record {
            spaced = omega (arith, reader, writer);
            holds = ap (λ (flit : Flit). flit ∷ []) (sym (ap (λ (m : Machine Tile Flit). m.carried link) (lockstep_none hardware links grants))) ∙ ap₂ (span f) (sym reader) (sym writer);
          });
    }

pub core_in_order : {Tile Flit : Type 0} (hardware : Hardware Tile Flit) (setup : Setup) → IsSound setup → IsPaced Tile Flit hardware → (events : List Happening) → IsInOrder Tile Flit hardware setup (core_after hardware setup events)
unfolding core_after
core_in_order hardware setup sound paced events = events_keep hardware setup sound paced events (fresh_core hardware setup) (fresh_order hardware setup paced)
