-- Every grant stands on every tile, and leaves the log of its application alone.
use Rattle.std.proofs.Common.{◌≡◌, ℕ, ◌+◌, zero, suc, ◌<◌, ◌≤◌, ◌⊎◌, min, max, nat_lt, false, List, get_or, slice_get, All, subst, Option, Some, None, option_map, option_and_then, refl, sym, ap, ◌∙◌, inl, inr, arith}
use Rattle.std.specs.List.{range_with_len}
use Rattle.std.specs.Option.{option_map_or}
use Rattle.std.proofs.lemmas.Bool.{and_parts, and_left, and_right, le-ltb, lt-leb, ltb-true, leb-true, false_from_ne_true}
use Rattle.std.proofs.lemmas.Option.{none-some, same_Some, slice_get-get_or}
use Rattle.bundle_model.specs.declared.bundle.Part.{Part}
use Rattle.bundle_model.specs.declared.world.World.{World}
use Rattle.bundle_model.specs.declared.world.LoadName.{LoadName}
use Rattle.bundle_model.specs.declared.world.Grant.{Grant}
use Rattle.bundle_model.specs.Grants.{lasts_to, stands_at}
use Rattle.bundle_model.specs.World.{part_on, IsSoundCatalog}
use Rattle.bundle_model.proofs.Laws.{mapped_place}
use Rattle.trace_log.specs.Log.{new_log}
use Rattle.part_model.specs.Part.{PartState}
use Rattle.tile_core.specs.Tile.{TileState, load_place, log_of, state_at, state_of}
use Rattle.tile_core.specs.Lockstep.{machine_at, tiles_at}
use Rattle.event_core.specs.Stands.{alone_part, Stands, GrantsStand, stop_slot, LogsAreAlone}
use Rattle.event_core.proofs.Settled.{IsSettled, stands_from}
use Rattle.event_core.proofs.Parts.{alone_part_on, alone_state, alone_none}
use Rattle.event_core.proofs.Views.{view_stop, view_alone, opening_log}
use Rattle.event_core.proofs.Follows.{FollowsOn}
use Rattle.event_core.proofs.Machine.{machine_follows}
use Rattle.event_core.proofs.Found.{IsFound, no_site, tile_found}

-- before its first slot, and where it ends at its start, a grant doesn't stand
not_begun : (grant : Grant) (slot : ℕ) → (slot ≤ grant.start) ⊎ (grant.end ≡ Some grant.start) → stands_at slot grant ≡ false
not_begun grant slot (inl early) = and_left (nat_lt grant.start slot) (lasts_to slot grant.end) (le-ltb grant.start slot early)
not_begun grant slot (inr empty) = false_from_ne_true (stands_at slot grant) (λ stands.
    let both = and_parts (nat_lt grant.start slot) (lasts_to slot grant.end) stands in
    let begun = ltb-true grant.start slot both.0 in
    let lasting = leb-true slot grant.start (sym (ap (lasts_to slot) empty) ∙ both.1) in
    absurd (omega arith))

-- and is followed up to its start
early_stop : (slot start : ℕ) (end : Option ℕ) → slot ≤ start → max start (option_map_or (λ e. min e slot) end slot) ≡ start
early_stop slot start None early = omega arith
early_stop slot start (Some end) early = omega arith

not_run : (grant : Grant) (slot : ℕ) → (slot ≤ grant.start) ⊎ (grant.end ≡ Some grant.start) → stop_slot slot grant ≡ grant.start
not_run grant slot (inl early) = early_stop slot grant.start grant.end early
not_run grant slot (inr empty) =
    ap (λ end. max grant.start (option_map_or (λ e. min e slot) end slot)) empty ∙ (let e : max grant.start (min grant.start slot) ≡ grant.start = omega arith in e)

-- after its end it doesn't stand, and is followed up to its end
over_false : (grant : Grant) (slot end : ℕ) → grant.end ≡ Some end → end < slot → stands_at slot grant ≡ false
over_false grant slot end is past = and_right (nat_lt grant.start slot) (lasts_to slot grant.end) (ap (lasts_to slot) is ∙ lt-leb slot end past)

end_stop : (grant : Grant) (slot end : ℕ) → grant.end ≡ Some end → grant.start < end → end < slot → stop_slot slot grant ≡ end
end_stop grant slot end is late past =
    ap (λ e. max grant.start (option_map_or (λ n. min n slot) e slot)) is ∙ (let e : max grant.start (min end slot) ≡ end = omega arith in e)

part_stands : (world : World) (grant : Grant) (part : Part) (tile : TileState) → IsSoundCatalog world → part_on world tile.number grant.bundle ≡ Some part → IsFound world grant tile.at part tile → Stands world grant tile
part_stands world grant part tile sound on found = record {
  before = λ early. record {
    not_installed = found.absent (not_begun grant tile.at early);
    its_log =
        found.log
        ∙ ap (λ log. Some log) (opening_log world grant tile.at tile.number part sound on (not_run grant tile.at early))
        ∙ sym (ap (option_map (λ (p : Part). new_log p.trace)) on);
  };
  during = λ begun lasts.
      let alone = alone_part_on world grant tile.at tile.number part sound on in
      let is = alone_state world grant tile.at tile.number part sound alone in
      found.present (stands_from tile.at grant begun lasts)
      ∙ ap (λ (s : PartState). Some s) (view_alone world grant tile.at tile.number part alone.one.state (omega arith) lasts is)
      ∙ sym is;
  after = λ end is late past.
      let alone = alone_part_on world grant end tile.number part sound on in
      let at_end = alone_state world grant end tile.number part sound alone in
      record {
        not_installed = found.absent (over_false grant tile.at end is past);
        its_log =
            found.log
            ∙ ap (λ (s : PartState). Some s.log) (view_stop world grant tile.at end tile.number part alone.one.state (end_stop grant tile.at end is late past) at_end)
            ∙ sym (ap (option_map (λ (s : PartState). s.log)) at_end);
      };
}

-- a grant with no part on the tile
none_stands : (world : World) (grant : Grant) (tile : TileState) → part_on world tile.number grant.bundle ≡ None → load_place tile grant.label ≡ None → Stands world grant tile
none_stands world grant tile none nothing =
    let no_state : state_of world tile grant.label ≡ None = ap (option_and_then (state_at world tile)) nothing in
    let no_log : log_of tile grant.label ≡ None = ap (option_and_then (slice_get tile.logs)) nothing in
    record {
      before = λ early. record { not_installed = no_state; its_log = no_log ∙ sym (ap (option_map (λ (p : Part). new_log p.trace)) none) };
      during = λ begun lasts. no_state ∙ sym (alone_none world grant tile.at tile.number none);
      after = λ end is late past. record { not_installed = no_state; its_log = no_log ∙ sym (ap (option_map (λ (s : PartState). s.log)) (alone_none world grant end tile.number none)) };
    }

tile_stands : (world : World) (loads : List LoadName) (grants : List Grant) (at number : ℕ) (grant : Grant) (tile : TileState) (part : Option Part) → IsSettled world loads grants → slice_get grants at ≡ Some grant → FollowsOn world loads grants tile.at number tile → part_on world tile.number grant.bundle ≡ part → Stands world grant tile
tile_stands world loads grants at number grant tile None so there follows is = none_stands world grant tile is (no_site world loads grants at tile.at number grant tile so there follows is)
tile_stands world loads grants at number grant tile (Some part) so there follows is = part_stands world grant part tile so.sound.catalog is (tile_found world loads grants at tile.at number grant part tile so there follows is)

abbrev LogIsAlone : World → Grant → ℕ → TileState → Type 0
LogIsAlone world grant budget tile = log_of tile grant.label ≡ option_map (λ state. state.log) (alone_part world grant (stop_slot budget grant) tile.number)

-- at the end of a run a part is as it is at its stop
tile_log : (world : World) (loads : List LoadName) (grants : List Grant) (at number : ℕ) (grant : Grant) (tile : TileState) (part : Option Part) → IsSettled world loads grants → slice_get grants at ≡ Some grant → FollowsOn world loads grants tile.at number tile → part_on world tile.number grant.bundle ≡ part → LogIsAlone world grant tile.at tile
tile_log world loads grants at number grant tile None so there follows is =
    ap (option_and_then (slice_get tile.logs)) (no_site world loads grants at tile.at number grant tile so there follows is)
    ∙ sym (ap (option_map (λ (s : PartState). s.log)) (alone_none world grant (stop_slot tile.at grant) tile.number is))
tile_log world loads grants at number grant tile (Some part) so there follows is =
    let found = tile_found world loads grants at tile.at number grant part tile so there follows is in
    let alone = alone_part_on world grant (stop_slot tile.at grant) tile.number part so.sound.catalog is in
    let at_stop = alone_state world grant (stop_slot tile.at grant) tile.number part so.sound.catalog alone in
    found.log
    ∙ ap (λ (s : PartState). Some s.log) (view_stop world grant tile.at (stop_slot tile.at grant) tile.number part alone.one.state refl at_stop)
    ∙ sym (ap (option_map (λ (s : PartState). s.log)) at_stop)

-- the numbers of a range
range_item : (from n k x : ℕ) → slice_get (range_with_len from n) k ≡ Some x → x < from + n
range_item from zero k x there = absurd (none-some x there)
range_item from (suc n) zero x there = let same : from ≡ x = same_Some from x there in omega arith
range_item from (suc n) (suc k) x there = let low = range_item (from + 1) n k x there in omega arith

-- each tile in step follows the grants
pub tile_follows : (world : World) (loads : List LoadName) (grants : List Grant) (slots k : ℕ) (tile : TileState) → IsSettled world loads grants → slice_get (tiles_at world loads grants slots) k ≡ Some tile → (number : ℕ) × FollowsOn world loads grants slots number tile
tile_follows world loads grants slots k tile so there =
    let from = mapped_place (machine_at world loads grants slots).tile (range_with_len 0 world.platform.tiles) k tile there in
    let low = range_item 0 world.platform.tiles k from.0 from.1 in
    (from.0, subst (FollowsOn world loads grants slots from.0) from.2 ((machine_follows world loads grants slots so).tiles from.0 (omega arith)))

-- what is true of each grant on a tile that follows, is true in lockstep
in_lockstep : (P : ℕ → Grant → TileState → Type 0) (world : World) (loads : List LoadName) (grants : List Grant) (slots : ℕ) → IsSettled world loads grants → ((at number : ℕ) (grant : Grant) (tile : TileState) → slice_get grants at ≡ Some grant → FollowsOn world loads grants tile.at number tile → P tile.at grant tile)
    → All (λ tile. All (λ grant. P slots grant tile) grants) (tiles_at world loads grants slots)
in_lockstep P world loads grants slots so each = λ k last low at first inside.
    let tiles = tiles_at world loads grants slots in
    let tile = get_or tiles k last in
    let grant = get_or grants at first in
    let follows = tile_follows world loads grants slots k tile so (slice_get-get_or tiles k last low) in
    let here = subst (λ u. FollowsOn world loads grants u follows.0 tile) (sym follows.1.at) follows.1 in
    subst (λ u. P u grant tile) follows.1.at (each at follows.0 grant tile (slice_get-get_or grants at first inside) here)

pub grants_stand : GrantsStand
grants_stand world loads grants slot sound apart of =
    let so : IsSettled world loads grants = record { sound = sound; apart = apart; of_loads = of } in
    in_lockstep (λ slots (grant : Grant) tile. Stands world grant tile) world loads grants slot so (λ at number grant tile there follows. tile_stands world loads grants at number grant tile (part_on world tile.number grant.bundle) so there follows refl)

pub logs_are_alone : LogsAreAlone
logs_are_alone world loads grants budget sound apart of =
    let so : IsSettled world loads grants = record { sound = sound; apart = apart; of_loads = of } in
    in_lockstep (λ slots (grant : Grant) tile. LogIsAlone world grant slots tile) world loads grants budget so (λ at number grant tile there follows. tile_log world loads grants at number grant tile (part_on world tile.number grant.bundle) so there follows refl)
