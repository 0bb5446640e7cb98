-- What a tile answers of the load at a place.
use Rattle.std.proofs.Common.{◌≡◌, ℕ, ◌==◌, Bool, true, false, cond, List, position, slice_get, Option, Some, None, is_some, option_and_then, Contains, refl, sym, ap, ◌∙◌, inl, inr}
use Rattle.std.specs.Option.{option_map_or}
use Rattle.std.proofs.lemmas.Bool.{true≢false, cases_eq, eq-eqb, ne_eqb}
use Rattle.std.proofs.lemmas.Option.{none-some, slice_get-get_or}
use Rattle.soc_base.specs.declared.label.Label.{Label}
use Rattle.bundle_model.specs.declared.bundle.Part.{Part}
use Rattle.bundle_model.specs.declared.world.World.{World}
use Rattle.bundle_model.specs.declared.world.LoadName.{LoadName}
use Rattle.bundle_model.specs.declared.world.Grant.{Grant}
use Rattle.bundle_model.specs.World.{same_label, part_on}
use Rattle.bundle_model.proofs.Laws.{at_place, contained_place, filtered_at, same_so}
use Rattle.trace_log.specs.Log.{Log, new_log}
use Rattle.part_model.specs.Part.{PartState}
use Rattle.tile_core.specs.Tile.{TileState, number_of, place_at, load_part, load_place, log_of, state_with, words_at, is_installed, state_if, state_at, state_of}
use Rattle.tile_core.specs.Cycle.{words_of}
use Rattle.tile_core.specs.Fit.{granted_from}
use Rattle.tile_core.specs.Holds.{HoldsGranted}
use Rattle.bundle_model.proofs.Laws.{no_place, passing_place}
use Rattle.tile_core.proofs.Holding.{same_state}
use Rattle.tile_core.proofs.Folding.{same_from}
use Rattle.tile_core.proofs.Sites.{IsSite, loads_keyed, load_has, bundle_is}

-- what passes at one place alone is found there
position_at : {X : Type 0} (test : X → Bool) (xs : List X) (k : ℕ) (x : X) (found : Option ℕ) → position test xs ≡ found → slice_get xs k ≡ Some x → test x ≡ true → ((j : ℕ) (y : X) → slice_get xs j ≡ Some y → test y ≡ true → j ≡ k) → found ≡ Some k
position_at test xs k x None is there passes alone = absurd (true≢false (sym passes ∙ no_place test xs k x is there))
position_at test xs k x (Some j) is there passes alone =
    let at = passing_place test xs j is in
    ap (λ (n : ℕ). Some n) (alone j at.0 at.1 at.2)

-- the place of a load of the tile
pub place_is : (world : World) (all : List LoadName) (grants : List Grant) (t : TileState) (place : ℕ) (load : LoadName) (label : Label) → IsSite world all t.loads grants t.number → slice_get t.loads place ≡ Some load → load.label ≡ label → load_place t label ≡ Some place
place_is world all grants t place load label site there same =
    position_at (λ (l : LoadName). same_label l.label label) t.loads place load (load_place t label) refl there (same_from load.label label same)
    (λ j other at passes. loads_keyed world all t.loads grants t.number site j place other load at there (same_so other.label label passes ∙ sym same))

-- the place of a grant's load, where it has a part on the tile
pub grant_place : (world : World) (all : List LoadName) (grants : List Grant) (t : TileState) (k : ℕ) (grant : Grant) (part : Part) → IsSite world all t.loads grants t.number → slice_get grants k ≡ Some grant → part_on world t.number grant.bundle ≡ Some part → (place : ℕ) × (slice_get t.loads place ≡ Some (record { label = grant.label; bundle = grant.bundle }))
grant_place world all grants t k grant part site there on =
    let load : LoadName = record { label = grant.label; bundle = grant.bundle } in
    let at = contained_place all load (at_place (λ (g : Grant). Contains all (record { label = g.label; bundle = g.bundle })) grants k grant site.of_loads there) in
    let kept = filtered_at (λ (l : LoadName). is_some (part_on world t.number l.bundle)) all at.0 load at.1 (ap (λ (o : Option Part). is_some o) on) in
    (kept.0, ap (λ (xs : List LoadName). slice_get xs kept.0) site.here ∙ kept.1)

no_place_by : (world : World) (all : List LoadName) (grants : List Grant) (t : TileState) (k : ℕ) (grant : Grant) (found : Option ℕ) → IsSite world all t.loads grants t.number → slice_get grants k ≡ Some grant → part_on world t.number grant.bundle ≡ None → load_place t grant.label ≡ found → found ≡ None
no_place_by world all grants t k grant None site there none is = refl
no_place_by world all grants t k grant (Some place) site there none is =
    let at = passing_place (λ (l : LoadName). same_label l.label grant.label) t.loads place is in
    let label : at.0.label ≡ grant.label = same_so at.0.label grant.label at.2 in
    let bundle = bundle_is world all t.loads grants t.number place k at.0 grant site at.1 there (sym label) in
    let has = load_has world all t.loads grants t.number place at.0 site at.1 in
    absurd (none-some has.0 (sym none ∙ ap (part_on world t.number) bundle ∙ has.1))

-- none where it has no part there
pub no_grant_place : (world : World) (all : List LoadName) (grants : List Grant) (t : TileState) (k : ℕ) (grant : Grant) → IsSite world all t.loads grants t.number → slice_get grants k ≡ Some grant → part_on world t.number grant.bundle ≡ None → load_place t grant.label ≡ None
no_grant_place world all grants t k grant site there none = no_place_by world all grants t k grant (load_place t grant.label) site there none refl

-- the log of the load at a place
pub log_found : (world : World) (grants : List Grant) (view : ℕ → PartState) (t : TileState) (place : ℕ) (label : Label) (part : Part) → HoldsGranted world grants view t → load_place t label ≡ Some place → load_part world t place ≡ Some part → log_of t label ≡ Some (view place).log
log_found world grants view t place label part h at is =
    let logged = h.holds.logs place part is in
    ap (option_and_then (slice_get t.logs)) at
    ∙ slice_get-get_or t.logs place (new_log 0) logged.inside
    ∙ ap (λ (l : Log). Some l) logged.is

-- its state, where its grant stands
pub state_found : (world : World) (grants : List Grant) (view : ℕ → PartState) (t : TileState) (place start : ℕ) (label : Label) (part : Part) → HoldsGranted world grants view t → load_place t label ≡ Some place → load_part world t place ≡ Some part → granted_from world grants t.at t place ≡ Some start → state_of world t label ≡ Some (view place)
state_found world grants view t place start label part h at is begins =
    let placed = h.holds.installed.each place part start is begins in
    let here = h.holds.here place part start is begins in
    let logged = h.holds.logs place part is in
    let installed : is_installed t place part ≡ true = ap (λ (o : Option ℕ). option_map_or (λ other. other == place) o false) placed.known ∙ eq-eqb place place refl in
    let state : state_with t place part (words_at world t part) ≡ view place = same_state (words_at world t part) (words_of (view place)) _ (view place).bytes _ (view place).ports _ (view place).log here.words here.bytes here.ports logged.is in
    ap (option_and_then (state_at world t)) at
    ∙ ap (state_if world t place) is
    ∙ ap (λ b. cond b (Some (state_with t place part (words_at world t part))) None) installed
    ∙ ap (λ (s : PartState). Some s) state

absent_by : (world : World) (grants : List Grant) (view : ℕ → PartState) (t : TileState) (place : ℕ) (part : Part) (found : Option ℕ) → HoldsGranted world grants view t → load_part world t place ≡ Some part → granted_from world grants t.at t place ≡ None → place_at t (number_of part) ≡ found → option_map_or (λ other. other == place) found false ≡ false
absent_by world grants view t place part None h is none at = refl
absent_by world grants view t place part (Some other) h is none at = elim (cases_eq other place) [
  | inl same ↦
      let m = h.holds.installed.known (number_of part) place (at ∙ ap (λ (n : ℕ). Some n) same) in
      absurd (none-some m.start (sym none ∙ m.start_is))
  | inr differs ↦ ne_eqb other place differs
]

-- none where it doesn't
pub state_none : (world : World) (grants : List Grant) (view : ℕ → PartState) (t : TileState) (place : ℕ) (label : Label) (part : Part) → HoldsGranted world grants view t → load_place t label ≡ Some place → load_part world t place ≡ Some part → granted_from world grants t.at t place ≡ None → state_of world t label ≡ None
state_none world grants view t place label part h at is none =
    ap (option_and_then (state_at world t)) at
    ∙ ap (state_if world t place) is
    ∙ ap (λ b. cond b (Some (state_with t place part (words_at world t part))) None) (absent_by world grants view t place part (place_at t (number_of part)) h is none refl)
