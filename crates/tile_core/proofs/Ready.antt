-- What the steps of a slot find.
use Rattle.std.proofs.Common.{◌≡◌, ℕ, ◌+◌, ◌<◌, ◌^◌, Bool, true, cond, not, ◌&&◌, List, [], ◌∷◌, filter, fold, length, get_or, Some, All, refl, sym, subst, ap, ap₂, ◌∙◌, arith}
use Rattle.std.specs.List.{list_all}
use Rattle.std.proofs.lemmas.Bool.{and_parts, not-true}
use Rattle.tile_memory.specs.Bytes.{IsInside}
use Rattle.bundle_model.specs.declared.bundle.Part.{Part}
use Rattle.bundle_model.specs.declared.world.World.{World}
use Rattle.bundle_model.specs.declared.world.Grant.{Grant}
use Rattle.bundle_model.specs.declared.world.Schedule.{Schedule}
use Rattle.tdm_network.specs.declared.rows.Row.{Row}
use Rattle.tile_mmio.specs.Ports.{AreOwn}
use Rattle.tdm_network.specs.Rows.{removed as left}
use Rattle.grant_tables.specs.Entries.{grant_entries}
use Rattle.grant_tables.specs.Tables.{with_entries, tables_after, AreTabled}
use Rattle.tile_core.specs.Tile.{TileState, load_part}
use Rattle.tile_core.specs.Slot.{ends_in, begins_in, after_end, with_ends, after_start, with_starts, with_tables, with_grants}
use Rattle.tile_core.specs.Fit.{IsUnderway}
use Rattle.tile_core.specs.inner.Ready.{IsSoundTile, HasEnded}
use Rattle.tile_core.proofs.Stretches.{fine_parts}
use Rattle.tile_core.proofs.Made.{made_alike, settled_alike}
use Rattle.tile_core.proofs.SlotMade.{settled_tables, granted_alike}

pub held_inside : (world : World) (t : TileState) (place : ℕ) (part : Part) → IsSoundTile world t → load_part world t place ≡ Some part → IsInside t.memory part.region
held_inside world t place part tile is = (fine_parts world tile.loads t tile.sound.catalog tile.made place part is).0

pub held_logged : (world : World) (t : TileState) (place : ℕ) (part : Part) → IsSoundTile world t → load_part world t place ≡ Some part → place < length t.logs
held_logged world t place part tile is = (fine_parts world tile.loads t tile.sound.catalog tile.made place part is).1

pub held_own : (world : World) (t : TileState) (place : ℕ) (part : Part) → IsSoundTile world t → load_part world t place ≡ Some part → AreOwn t.ports part.ports
held_own world t place part tile is = (fine_parts world tile.loads t tile.sound.catalog tile.made place part is).2

-- a slot in which no grant ends or begins
quiet_none : (p q : Grant → Bool) (grants : List Grant) → list_all (λ g. not (p g) && not (q g)) grants ≡ true → (filter p grants ≡ []) × (filter q grants ≡ [])
quiet_none p q [] quiet = (refl, refl)
quiet_none p q (grant ∷ grants) quiet =
    let both = and_parts (not (p grant) && not (q grant)) (list_all (λ g. not (p g) && not (q g)) grants) quiet in
    let here = and_parts (not (p grant)) (not (q grant)) both.0 in
    let rest = quiet_none p q grants both.1 in (
      ap (λ b. cond b (grant ∷ filter p grants) (filter p grants)) (not-true (p grant) here.0) ∙ rest.0,
      ap (λ b. cond b (grant ∷ filter q grants) (filter q grants)) (not-true (q grant) here.1) ∙ rest.1,
    )

pub quiet_same : (world : World) (grants : List Grant) (t : TileState) → list_all (λ g. not (ends_in t.at g) && not (begins_in t.at g)) grants ≡ true → t ≡ with_grants world grants t
quiet_same world grants t quiet =
    let none = quiet_none (ends_in t.at) (begins_in t.at) grants quiet in
    let ended : with_ends world grants t ≡ t = ap (fold (after_end world) t) none.0 in
    let begun : with_starts world grants t ≡ t = ap (fold (after_start world) t) none.1 in
    let rows : tables_after world t.number grants t.at t.tables ≡ t.tables =
    ap₂ (λ (ends starts : List Grant). let ended = fold (λ rs grant. left grant.label rs) t.tables ends in fold (λ rs grant. with_entries grant.label (grant_entries world t.number grant) rs) ended starts) none.0 none.1 in
    let same : with_starts world grants (with_ends world grants t) ≡ t = ap (with_starts world grants) ended ∙ begun in
    sym (ap (with_tables world grants) same ∙ ap (λ (rows : List Row). let u : TileState = record t { tables = rows } in u) rows)

-- the tile between the steps of a slot
pub ended_ready : (world : World) (schedule : Schedule) (t after : TileState) → IsUnderway world schedule t → after ≡ with_ends world schedule.grants.items t → HasEnded world schedule after
ended_ready world schedule t after u is = record { before = t; underway = u; is = is }

-- the entries that its tables hold still, before those of the slot's grants leave and come
pub settled_tabled : (world : World) (schedule : Schedule) (t after : TileState) → IsUnderway world schedule t → after ≡ with_starts world schedule.grants.items (with_ends world schedule.grants.items t) → AreTabled world schedule.grants.items after.at after.number after.tables
settled_tabled world schedule t after u is =
    let s = with_starts world schedule.grants.items (with_ends world schedule.grants.items t) in
    let alike = settled_alike world u.loads schedule.grants.items t u.sound.catalog u.made in
    let P : TileState → Type 0 = λ s. AreTabled world schedule.grants.items s.at s.number s.tables in
    let A : ℕ → Type 0 = λ n. AreTabled world schedule.grants.items n t.number t.tables in
    let N : ℕ → Type 0 = λ n. AreTabled world schedule.grants.items s.at n t.tables in
    let R : List Row → Type 0 = λ rows. AreTabled world schedule.grants.items s.at s.number rows in
    subst P (sym is) (subst R (sym (settled_tables world schedule.grants.items t)) (subst N (sym alike.number) (subst A (sym alike.at) u.fits.tables)))

-- once the grants of its slot have ended and begun
pub settled_tile : (world : World) (schedule : Schedule) (t after : TileState) → IsUnderway world schedule t → after ≡ with_grants world schedule.grants.items t → IsSoundTile world after
settled_tile world schedule t after u is =
    let P : TileState → Type 0 = λ s. IsSoundTile world s in
    subst P (sym is) (record { loads = u.loads; sound = u.sound; made = made_alike world u.loads t (with_grants world schedule.grants.items t) (granted_alike world u.loads schedule.grants.items t u.sound.catalog u.made) u.made })

pub settled_at : (world : World) (schedule : Schedule) (t after : TileState) → IsUnderway world schedule t → after ≡ with_grants world schedule.grants.items t → after.at ≡ t.at
settled_at world schedule t after u is = ap (λ (s : TileState). s.at) is ∙ (granted_alike world u.loads schedule.grants.items t u.sound.catalog u.made).at

-- no count is as high as the slots of a run
pub counts_fit : (world : World) (schedule : Schedule) (t after : TileState) → IsUnderway world schedule t → t.at + 1 < 2 ^ 64 → after ≡ with_grants world schedule.grants.items t → All (λ count. count + 1 < 2 ^ 64) after.carried
counts_fit world schedule t after u low is = λ k d inside.
    let alike = granted_alike world u.loads schedule.grants.items t u.sound.catalog u.made in
    let same : after.carried ≡ t.carried = ap (λ (s : TileState). s.carried) is ∙ alike.carried in
    let size = ap (λ (counts : List ℕ). length counts) same in
    let read = ap (λ (counts : List ℕ). get_or counts k d) same in
    let most = u.made.counts k d (omega arith) in
    omega arith

pub quiet_in : (world : World) (grants items : List Grant) (t : TileState) (slot : ℕ) → items ≡ grants → slot ≡ t.at → list_all (λ g. not (ends_in slot g) && not (begins_in slot g)) items ≡ true → t ≡ with_grants world grants t
quiet_in world grants items t slot are at quiet =
    let P : ℕ → Type 0 = λ n. list_all (λ g. not (ends_in n g) && not (begins_in n g)) grants ≡ true in
    quiet_same world grants t (subst P at (ap (list_all (λ g. not (ends_in slot g) && not (begins_in slot g))) (sym are) ∙ quiet))
