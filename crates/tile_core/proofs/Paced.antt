-- A tile looks in a slot at no grant that begins later and at no end that comes later.
use Rattle.std.proofs.Common.{◌≡◌, ℕ, ◌+◌, ◌≤◌, ◌==◌, Bool, true, false, cond, ◌&&◌, List, [], ◌∷◌, filter, fold, Option, Some, None, refl, sym, ap, subst, ◌∙◌, arith}
use Rattle.std.specs.Prelude.{nat_le, nat_lt}
use Rattle.std.specs.Option.{option_map_or, option_and_then}
use Rattle.std.proofs.lemmas.Bool.{leb-false, ne_eqb, lt-ltb, eqb-true, and_parts, ltb-true}
use Rattle.soc_base.specs.Port.{WordAndCredits}
use Rattle.bundle_model.specs.declared.bundle.Part.{Part}
use Rattle.bundle_model.specs.declared.world.World.{World}
use Rattle.bundle_model.specs.declared.world.LoadName.{LoadName}
use Rattle.bundle_model.specs.declared.world.Grant.{Grant}
use Rattle.tdm_network.specs.declared.rows.Row.{Row}
use Rattle.tdm_network.specs.Rows.{removed as entries_removed}
use Rattle.grant_tables.specs.Entries.{grant_entries}
use Rattle.grant_tables.specs.Tables.{with_entries, tables_ended, tables_begun, tables_after}
use Rattle.lockstep.specs.Seen.{end_seen, as_seen, grants_seen}
use Rattle.lockstep.proofs.Laws.{fold_seen_alike}
use Rattle.tile_core.specs.Tile.{TileState, fresh_tile, load_part, load_place}
use Rattle.tile_core.specs.Slot.{ends_in, begins_in, removed_if, after_end, with_ends, installed_if, installed_at, after_start, with_starts, with_tables, with_grants, with_injection, with_cycles, traffic, with_traffic, tile_slot, slot_outputs}
use Rattle.tile_core.specs.Paced.{TilesArePaced}

-- ---- the two tests of a slot look at a grant as it is seen in it, and pass none that begins later

ends_by : (slot start end : ℕ) (early : Bool) → nat_le end slot ≡ early → option_map_or (λ e. e == slot && nat_lt start e) (cond early (Some end) None) false ≡ (end == slot && nat_lt start end)
ends_by slot start end true is = refl
ends_by slot start end false is =
    let late = leb-false end slot is in
    ap (λ b. b && nat_lt start end) (sym (ne_eqb end slot (λ same. absurd (omega arith))))

begins_by : (slot end : ℕ) (early : Bool) → nat_le end slot ≡ early → option_map_or (λ e. nat_lt slot e) (cond early (Some end) None) true ≡ nat_lt slot end
begins_by slot end true is = refl
begins_by slot end false is = sym (lt-ltb slot end (leb-false end slot is))

pub ends_seen : (slot : ℕ) (grant : Grant) → ends_in slot (as_seen slot grant) ≡ ends_in slot grant
ends_seen slot grant = by grant.end
  where
    by : (end : Option ℕ) → option_map_or (λ e. e == slot && nat_lt grant.start e) (end_seen slot end) false ≡ option_map_or (λ e. e == slot && nat_lt grant.start e) end false
    by None = refl
    by (Some end) = ends_by slot grant.start end (nat_le end slot) refl

pub begins_seen : (slot : ℕ) (grant : Grant) → begins_in slot (as_seen slot grant) ≡ begins_in slot grant
begins_seen slot grant = by grant.end
  where
    by : (end : Option ℕ) → (grant.start == slot && option_map_or (λ e. nat_lt slot e) (end_seen slot end) true) ≡ (grant.start == slot && option_map_or (λ e. nat_lt slot e) end true)
    by None = refl
    by (Some end) = ap (λ b. grant.start == slot && b) (begins_by slot end (nat_le end slot) refl)

ended_start : (slot start : ℕ) (end : Option ℕ) → option_map_or (λ e. e == slot && nat_lt start e) end false ≡ true → start ≤ slot
ended_start slot start None passes = cc
ended_start slot start (Some end) passes =
    let parts = and_parts (end == slot) (nat_lt start end) passes in
    let is = eqb-true end slot parts.0 in
    let low = ltb-true start end parts.1 in
    omega arith

pub ends_early : (slot : ℕ) (grant : Grant) → ends_in slot grant ≡ true → grant.start ≤ slot
ends_early slot grant passes = ended_start slot grant.start grant.end passes

pub begins_early : (slot : ℕ) (grant : Grant) → begins_in slot grant ≡ true → grant.start ≤ slot
begins_early slot grant passes = let is = eqb-true grant.start slot (and_parts (grant.start == slot) _ passes).0 in omega arith

-- ---- the slot tables

pub tables_paced : (world : World) (number : ℕ) (grants other : List Grant) (slot : ℕ) (rows : List Row) → grants_seen slot grants ≡ grants_seen slot other → tables_after world number grants slot rows ≡ tables_after world number other slot rows
tables_paced world number grants other slot rows seen =
    let ended : tables_ended grants slot rows ≡ tables_ended other slot rows =
    fold_seen_alike slot (ends_in slot) (ends_seen slot) (ends_early slot) (λ (rs : List Row) (grant : Grant). entries_removed grant.label rs) (λ rs grant. refl) grants other seen rows in
    ap (tables_begun world number grants slot) ended
    ∙ fold_seen_alike slot (begins_in slot) (begins_seen slot) (begins_early slot) (λ (rs : List Row) (grant : Grant). with_entries grant.label (grant_entries world number grant) rs) (λ rs grant. refl) grants other seen (tables_ended other slot rows)

-- ---- the parts

pub ends_paced : (world : World) (grants other : List Grant) (tile : TileState) → grants_seen tile.at grants ≡ grants_seen tile.at other → with_ends world grants tile ≡ with_ends world other tile
ends_paced world grants other tile seen =
    fold_seen_alike tile.at (ends_in tile.at) (ends_seen tile.at) (ends_early tile.at) (after_end world) (λ t grant. refl) grants other seen tile

pub starts_paced : (world : World) (grants other : List Grant) (tile : TileState) → grants_seen tile.at grants ≡ grants_seen tile.at other → with_starts world grants tile ≡ with_starts world other tile
starts_paced world grants other tile seen =
    fold_seen_alike tile.at (begins_in tile.at) (begins_seen tile.at) (begins_early tile.at) (after_start world) (λ t grant. refl) grants other seen tile

-- a tile of the same number before the same slot
record IsBeside (tile after : TileState) : Type 0 where
  at : after.at ≡ tile.at
  number : after.number ≡ tile.number

removed_beside : (world : World) (tile : TileState) (part : Option Part) → IsBeside tile (removed_if world tile part)
removed_beside world tile None = record { at = refl; number = refl }
removed_beside world tile (Some part) = record { at = refl; number = refl }

installed_beside : (world : World) (tile : TileState) (place : ℕ) (part : Option Part) → IsBeside tile (installed_if world tile place part)
installed_beside world tile place None = record { at = refl; number = refl }
installed_beside world tile place (Some part) = record { at = refl; number = refl }

come_beside : (world : World) (tile : TileState) (place : Option ℕ) → IsBeside tile (installed_at world tile place)
come_beside world tile None = record { at = refl; number = refl }
come_beside world tile (Some place) = installed_beside world tile place (load_part world tile place)

fold_beside : (step : TileState → Grant → TileState) → ((tile : TileState) (grant : Grant) → IsBeside tile (step tile grant)) → (grants : List Grant) (tile : TileState) → IsBeside tile (fold step tile grants)
fold_beside step one [] tile = record { at = refl; number = refl }
fold_beside step one (grant ∷ grants) tile =
    let here = one tile grant in
    let rest = fold_beside step one grants (step tile grant) in
    record { at = rest.at ∙ here.at; number = rest.number ∙ here.number }

ends_beside : (world : World) (grants : List Grant) (tile : TileState) → IsBeside tile (with_ends world grants tile)
ends_beside world grants tile =
    fold_beside (after_end world) (λ t grant. removed_beside world t (option_and_then (load_part world t) (load_place t grant.label))) (filter (ends_in tile.at) grants) tile

starts_beside : (world : World) (grants : List Grant) (tile : TileState) → IsBeside tile (with_starts world grants tile)
starts_beside world grants tile =
    fold_beside (after_start world) (λ t grant. come_beside world t (load_place t grant.label)) (filter (begins_in tile.at) grants) tile

pub grants_paced : (world : World) (grants other : List Grant) (tile : TileState) → grants_seen tile.at grants ≡ grants_seen tile.at other → with_grants world grants tile ≡ with_grants world other tile
grants_paced world grants other tile seen =
    let left : TileState = with_ends world other tile in
    let then : TileState = with_starts world other left in
    let left_at = (ends_beside world other tile).at in
    let then_at = (starts_beside world other left).at ∙ left_at in
    let seen_at : (n : ℕ) → n ≡ tile.at → grants_seen n grants ≡ grants_seen n other = λ n is.
    subst (λ (k : ℕ). grants_seen k grants ≡ grants_seen k other) (sym is) seen in
    ap (λ (t : TileState). with_tables world grants (with_starts world grants t)) (ends_paced world grants other tile seen)
    ∙ ap (with_tables world grants) (starts_paced world grants other left (seen_at left.at left_at))
    ∙ ap (λ (rows : List Row). record then { tables = rows }) (tables_paced world then.number grants other then.at then.tables (seen_at then.at then_at))

-- ---- the slot

slot_paced : (world : World) (grants other : List Grant) (inputs : List WordAndCredits) (tile : TileState) → grants_seen tile.at grants ≡ grants_seen tile.at other → tile_slot world grants inputs tile ≡ tile_slot world other inputs tile
unfolding tile_slot
slot_paced world grants other inputs tile seen =
    ap (λ (ready : TileState). let after : TileState = record (with_traffic (traffic inputs ready) (with_cycles world (with_injection ready))) { at = tile.at + 1 } in after) (grants_paced world grants other tile seen)

outputs_paced : (world : World) (grants other : List Grant) (inputs : List WordAndCredits) (tile : TileState) → grants_seen tile.at grants ≡ grants_seen tile.at other → slot_outputs world grants inputs tile ≡ slot_outputs world other inputs tile
unfolding slot_outputs
outputs_paced world grants other inputs tile seen =
    ap (λ (ready : TileState). (traffic inputs ready).links) (grants_paced world grants other tile seen)

slot_on : (world : World) (grants : List Grant) (inputs : List WordAndCredits) (tile : TileState) → (tile_slot world grants inputs tile).at ≡ tile.at + 1
unfolding tile_slot
slot_on world grants inputs tile = refl

begins_at : (world : World) (loads : List LoadName) (number : ℕ) → (fresh_tile world loads number).at ≡ 0
unfolding fresh_tile
begins_at world loads number = refl

pub tiles_are_paced : TilesArePaced
tiles_are_paced world loads = record {
  begins = begins_at world loads;
  goes_on = slot_on world;
  same_after = slot_paced world;
  same_puts = outputs_paced world;
}
