-- What is installed on a tile at or below the horizon is right after any further entries.
use Rattle.std.proofs.Common.{◌≡◌, ℕ, suc, ◌*◌, ◌≤◌, inl, inr, Bool, true, false, cond, ◌&&◌, List, [], ◌∷◌, length, get_or, slice_get, Option, Some, None, option_map, refl, sym, ap, ap₂, subst, ◌∙◌, arith}
use Rattle.std.specs.Prelude.{nat_lt, nat_le, IsSomeAnd}
use Rattle.std.specs.Option.{option_and_then, option_map_or}
use Rattle.std.proofs.lemmas.Bool.{ltb-true, le-leb, cases_lt, and_parts}
use Rattle.std.proofs.lemmas.Option.{same_Some, slice_get-get_or}
use Rattle.soc_base.specs.declared.label.Label.{Label}
use Rattle.bundle_model.specs.declared.world.World.{World}
use Rattle.bundle_model.specs.declared.world.LoadName.{LoadName}
use Rattle.bundle_model.specs.declared.world.Grant.{Grant}
use Rattle.bundle_model.specs.Grants.{bundle_at, lasts_to, stands_at}
use Rattle.bundle_model.specs.World.{same_label}
use Rattle.tdm_network.specs.declared.entries.TableEntry.{TableEntry}
use Rattle.grant_tables.specs.Entries.{entries_on, bundle_entries}
use Rattle.grant_tables.specs.Tables.{IsHeld}
use Rattle.vep_manager.specs.Extended.{KeepsEnd, KeepsGrant, KeepsGrants}
use Rattle.tile_core.specs.Tile.{TileState, load_part}
use Rattle.tile_core.specs.Fit.{standing_grant, granted_cycle, granted_from, AreInstalled, IsFit}

-- ---- which grants stand at a slot up to the horizon

lasts_same : (horizon slot : ℕ) (old new : Option ℕ) → slot ≤ horizon → KeepsEnd horizon old new → lasts_to slot new ≡ lasts_to slot old
lasts_same horizon slot old new low (inl same) = ap (lasts_to slot) same
lasts_same horizon slot old None low (inr (none, high)) = absurd high
lasts_same horizon slot old (Some end) low (inr (none, high)) =
    let lasts : nat_le slot end ≡ true = le-leb slot end (omega arith) in
    lasts ∙ sym (ap (lasts_to slot) none)

stands_same : (horizon slot : ℕ) (old new : Grant) → slot ≤ horizon → KeepsGrant horizon old new → stands_at slot new ≡ stands_at slot old
stands_same horizon slot old new low keeps =
    ap₂ (λ (start : ℕ) (lasts : Bool). nat_lt start slot && lasts) keeps.start (lasts_same horizon slot old.end new.end low keeps.end)

late_stands : (horizon slot : ℕ) (grant : Grant) → slot ≤ horizon → horizon ≤ grant.start → stands_at slot grant ≡ true → ⊥
late_stands horizon slot grant low late stands =
    let begun = ltb-true grant.start slot (and_parts (nat_lt grant.start slot) (lasts_to slot grant.end) stands).0 in
    omega arith

-- ---- the grant of a load that stands

-- the start of the grant that stands, if one does
abbrev start_at : ℕ → Label → List Grant → Option ℕ
start_at slot label grants = option_map (λ grant. grant.start) (standing_grant grants slot label)

start_cons : (old new : Grant) (here : Bool) (one other : Option Grant) → new.start ≡ old.start → option_map (λ grant. grant.start) one ≡ option_map (λ grant. grant.start) other → option_map (λ grant. grant.start) (cond here (Some new) one) ≡ option_map (λ grant. grant.start) (cond here (Some old) other)
start_cons old new true one other start rest = ap (λ (n : ℕ). Some n) start
start_cons old new false one other start rest = rest

not_found : (label : Label) (grant : Grant) (same stands : Bool) (rest : Option Grant) → (stands ≡ true → ⊥) → rest ≡ None → cond (same && stands) (Some grant) rest ≡ None
not_found label grant true true rest never none = absurd (never refl)
not_found label grant true false rest never none = none
not_found label grant false stands rest never none = none

abbrev AreLate : ℕ → List Grant → Type 0
AreLate horizon grants = (place : ℕ) (grant : Grant) → slice_get grants place ≡ Some grant → horizon ≤ grant.start

none_stands : (horizon slot : ℕ) (label : Label) (grants : List Grant) → slot ≤ horizon → AreLate horizon grants → standing_grant grants slot label ≡ None
none_stands horizon slot label [] low late = refl
none_stands horizon slot label (grant ∷ grants) low late =
    not_found label grant (same_label grant.label label) (stands_at slot grant) (standing_grant grants slot label)
    (late_stands horizon slot grant low (late 0 grant refl))
    (none_stands horizon slot label grants low (λ place other there. late (suc place) other there))

start_same : (horizon slot : ℕ) (label : Label) (old new : List Grant) → slot ≤ horizon → KeepsGrants horizon old new → start_at slot label new ≡ start_at slot label old
start_same horizon slot label [] new low keeps =
    ap (option_map (λ (g : Grant). g.start)) (none_stands horizon slot label new low (λ place grant there. keeps.added place grant there (omega arith)))
start_same horizon slot label (x ∷ xs) [] low keeps = absurd (keeps.kept 0 x refl)
start_same horizon slot label (x ∷ xs) (y ∷ ys) low keeps =
    let here : KeepsGrant horizon x y = keeps.kept 0 x refl in
    let rest : KeepsGrants horizon xs ys = record {
      kept = λ place grant there. keeps.kept (suc place) grant there;
      added = λ place grant there past. keeps.added (suc place) grant there (omega arith);
    } in
    let test : (same_label y.label label && stands_at slot y) ≡ (same_label x.label label && stands_at slot x) =
    ap₂ (λ (l : Label) (b : Bool). same_label l label && b) here.label (stands_same horizon slot x y low here) in
    ap (λ b. option_map (λ (g : Grant). g.start) (cond b (Some y) (standing_grant ys slot label))) test
    ∙ start_cons x y (same_label x.label label && stands_at slot x) (standing_grant ys slot label) (standing_grant xs slot label) here.start (start_same horizon slot label xs ys low rest)

map_map : {X Y Z : Type 0} (f : X → Y) (g : Y → Z) (o : Option X) → option_map (λ x. g (f x)) o ≡ option_map g (option_map f o)
map_map f g None = refl
map_map f g (Some x) = refl

cycle_same : (world : World) (horizon slot : ℕ) (old new : List Grant) (load : Option LoadName) → slot ≤ horizon → KeepsGrants horizon old new → option_and_then (granted_cycle world new slot) load ≡ option_and_then (granted_cycle world old slot) load
cycle_same world horizon slot old new None low keeps = refl
cycle_same world horizon slot old new (Some load) low keeps =
    let cycles = λ (n : ℕ). n * world.platform.slot_cycles in
    map_map (λ (g : Grant). g.start) cycles (standing_grant new slot load.label)
    ∙ ap (option_map cycles) (start_same horizon slot load.label old new low keeps)
    ∙ sym (map_map (λ (g : Grant). g.start) cycles (standing_grant old slot load.label))

installed_on : (world : World) (horizon slots : ℕ) (old new : List Grant) (tile : TileState) → tile.at ≤ horizon → KeepsGrants horizon old new → AreInstalled slots (load_part world tile) (granted_from world old tile.at tile) tile → AreInstalled slots (load_part world tile) (granted_from world new tile.at tile) tile
installed_on world horizon slots old new tile low keeps fits =
    let same : (place : ℕ) → granted_from world new tile.at tile place ≡ granted_from world old tile.at tile place = λ place.
    cycle_same world horizon tile.at old new (slice_get tile.loads place) low keeps in
    record {
      each = λ place part start is begins. fits.each place part start is (sym (same place) ∙ begins);
      known = λ number place there.
          let k = fits.known number place there in
          record { part = k.part; start = k.start; part_is = k.part_is; start_is = same place ∙ k.start_is; number_is = k.number_is };
      owned = fits.owned;
    }

-- ---- the entries of the grants that stand

some_and : {X : Type 0} (P : X → Type 0) (o : Option X) → IsSomeAnd o P → (x : X) × (o ≡ Some x) × P x
some_and P None holds = absurd holds
some_and P (Some x) holds = (x, refl, holds)

-- an entry of the bundle at a place of the catalog
abbrev bundle_entry : World → ℕ → ℕ → ℕ → Option TableEntry
bundle_entry world tile place bundle =
    slice_get (option_map_or (λ b. entries_on tile (bundle_entries world.platform b)) (bundle_at world bundle) []) place

held_new : (world : World) (horizon slot tile : ℕ) (old new : List Grant) (label : Label) (entry : TableEntry) → slot ≤ horizon → KeepsGrants horizon old new → IsHeld world old slot tile label entry → IsHeld world new slot tile label entry
held_new world horizon slot tile old new label entry low keeps held =
    let (grant, there, same) = some_and (KeepsGrant horizon held.grant) (slice_get new held.index) (keeps.kept held.index held.grant held.granted) in
    record {
      index = held.index;
      grant = grant;
      granted = there;
      stands = stands_same horizon slot held.grant grant low same ∙ held.stands;
      labelled = same.label ∙ held.labelled;
      place = held.place;
      there = ap (bundle_entry world tile held.place) same.bundle ∙ held.there;
    }

held_old : (world : World) (horizon slot tile : ℕ) (old new : List Grant) (label : Label) (entry : TableEntry) → slot ≤ horizon → KeepsGrants horizon old new → IsHeld world new slot tile label entry → IsHeld world old slot tile label entry
held_old world horizon slot tile old new label entry low keeps held =
    elim (cases_lt held.index (length old)) [
      | inl inside ↦
          let before = get_or old held.index held.grant in
          let was : slice_get old held.index ≡ Some before = slice_get-get_or old held.index held.grant inside in
          let (grant, there, kept) = some_and (KeepsGrant horizon before) (slice_get new held.index) (keeps.kept held.index before was) in
          let is : grant ≡ held.grant = same_Some grant held.grant (sym there ∙ held.granted) in
          let same : KeepsGrant horizon before held.grant = subst (KeepsGrant horizon before) is kept in
          record {
            index = held.index;
            grant = before;
            granted = was;
            stands = sym (stands_same horizon slot before held.grant low same) ∙ held.stands;
            labelled = sym same.label ∙ held.labelled;
            place = held.place;
            there = sym (ap (bundle_entry world tile held.place) same.bundle) ∙ held.there;
          }
      | inr past ↦ absurd (late_stands horizon slot held.grant low (keeps.added held.index held.grant held.granted past) held.stands)
    ]

-- ---- so what fits a tile at or below the horizon goes on to fit it

pub fits_go_on : (world : World) (horizon : ℕ) (old new : List Grant) (tile : TileState) → tile.at ≤ horizon → KeepsGrants horizon old new → IsFit world old tile → IsFit world new tile
fits_go_on world horizon old new tile low keeps fits =
    let tables = fits.tables in
    record {
      parts = installed_on world horizon world.platform.partition_slots old new tile low keeps fits.parts;
      tables = record {
        laid_out = tables.laid_out;
        told = λ label entry held. tables.told label entry (held_old world horizon tile.at tile.number old new label entry low keeps held);
        known = λ spot what there.
            let k = tables.known spot what there in
            record {
              entry = k.entry;
              held = held_new world horizon tile.at tile.number old new what.label k.entry low keeps k.held;
              spot_is = k.spot_is;
              role_is = k.role_is;
            };
      };
    }
