-- The grants that end in a slot, and those that begin in it, one after the other: what a tile holds
-- then. It is proved of every relation between a tile, the cycles from which on its loads are granted,
-- and views of their parts, that goes with a part which leaves and with one which comes.
use Rattle.std.proofs.Common.{◌≡◌, ◌≢◌, ℕ, zero, suc, ◌==◌, ◌&&◌, ◌||◌, Bool, true, false, cond, List, [], ◌∷◌, filter, fold, length, position, slice_get, Option, Some, None, option_and_then, refl, sym, subst, ap, ap₂, ◌∙◌, inl, inr, arith}
use Rattle.std.specs.Option.{option_map_or}
use Rattle.std.proofs.lemmas.Bool.{false≢true, cases_Bool, false_from_ne_true, and_from, eq-eqb}
use Rattle.std.proofs.lemmas.List.{length-map, length-set}
use Rattle.soc_base.specs.declared.label.Label.{Label}
use Rattle.bundle_model.specs.declared.bundle.Part.{Part}
use Rattle.bundle_model.specs.declared.world.World.{World}
use Rattle.bundle_model.specs.declared.world.LoadName.{LoadName}
use Rattle.bundle_model.specs.declared.world.Grant.{Grant}
use Rattle.bundle_model.specs.World.{same_label, part_on}
use Rattle.bundle_model.proofs.Laws.{AreKeyed, keyed_pairs, same_so}
use Rattle.part_model.specs.Part.{PartState}
use Rattle.comik.specs.Kernel.{without}
use Rattle.comik.proofs.Laws.{length_claimed}
use Rattle.tile_core.specs.Tile.{TileState, number_of, load_part}
use Rattle.tile_core.specs.Slot.{removed, removed_if, after_end, installed}
use Rattle.tile_core.specs.Fit.{AreInstalled}
use Rattle.tile_core.proofs.Installed.{IsChangedAt, IsGrantedPart}
use Rattle.tile_core.proofs.Coming.{IsRoom, IsOpenedAt}
use Rattle.bundle_model.proofs.Laws.{passing_place, no_place}
use Rattle.tile_core.proofs.Standing.{AreLabelled, rest_apart, touched}
use Rattle.tile_core.proofs.Sites.{IsSite, site_part, load_has}

-- a tile of a number, before a slot, with these loads, and with an owner and a place for each slot
pub record IsTile (number at : ℕ) (loads : List LoadName) (slots : ℕ) (t : TileState) : Type 0 where
  pub number_is : t.number ≡ number
  pub at_is : t.at ≡ at
  pub loads_are : t.loads ≡ loads
  pub owners : length t.kernel.owners ≡ slots
  pub places : length t.places ≡ slots

pub tile_removed : (world : World) (number at : ℕ) (loads : List LoadName) (slots : ℕ) (t : TileState) (part : Part) → IsTile number at loads slots t → IsTile number at loads slots (removed world t part)
tile_removed world number at loads slots t part is = record {
  number_is = is.number_is;
  at_is = is.at_is;
  loads_are = is.loads_are;
  owners = length-map t.kernel.owners (without (number_of part)) ∙ is.owners;
  places = length-set t.places (number_of part) None ∙ is.places;
}

pub tile_installed : (world : World) (number at : ℕ) (loads : List LoadName) (slots : ℕ) (t : TileState) (place : ℕ) (part : Part) → IsTile number at loads slots t → IsTile number at loads slots (installed world t place part)
tile_installed world number at loads slots t place part is = record {
  number_is = is.number_is;
  at_is = is.at_is;
  loads_are = is.loads_are;
  owners = length_claimed part.slots (number_of part) t.kernel.owners ∙ is.owners;
  places = length-set t.places (number_of part) (Some place) ∙ is.places;
}

pub parts_are : (world : World) (number at : ℕ) (loads : List LoadName) (slots : ℕ) (t : TileState) (place : ℕ) → IsTile number at loads slots t → load_part world t place ≡ site_part world number loads place
parts_are world number at loads slots t place is =
    ap₂ (λ (n : ℕ) (xs : List LoadName). site_part world n xs place) is.number_is is.loads_are

-- the grant is of the load at a place, if one is there
abbrev pub is_of : Grant → Option LoadName → Bool
is_of grant load = option_map_or (λ (l : LoadName). same_label grant.label l.label) load false

-- some grant that passes is
abbrev pub touches : (Grant → Bool) → List Grant → Option LoadName → Bool
touches p grants load = option_map_or (λ (l : LoadName). touched p grants l.label) load false

-- equal labels are found to be one
pub same_from : (one other : Label) → one ≡ other → same_label one other ≡ true
same_from one other same =
    and_from (one.session == other.session) (one.load == other.load) (eq-eqb one.session other.session (ap (λ (l : Label). l.session) same)) (eq-eqb one.load other.load (ap (λ (l : Label). l.load) same))

pub of_load : (grant : Grant) (load : Option LoadName) → is_of grant load ≡ true → (l : LoadName) × (load ≡ Some l) × (grant.label ≡ l.label)
of_load grant None is = absurd (false≢true is)
of_load grant (Some l) is = (l, refl, same_so grant.label l.label is)

-- a grant at the head of a list touches its load, and no other
pub touches_more : {X : Type 0} (p : Grant → Bool) (grant : Grant) (grants : List Grant) (load : Option LoadName) (new old : X) → p grant ≡ true → cond (touches p grants load) new (cond (is_of grant load) new old) ≡ cond (touches p (grant ∷ grants) load) new old
touches_more p grant grants None new old passes = refl
touches_more p grant grants (Some load) new old passes =
    both (touched p grants load.label) (same_label grant.label load.label)
    ∙ sym (ap (λ b. cond ((b && same_label grant.label load.label) || touched p grants load.label) new old) passes)
  where
    both : (rest same : Bool) → cond rest new (cond same new old) ≡ cond ((true && same) || rest) new old
    both true true = refl
    both true false = refl
    both false true = refl
    both false false = refl

pub touches_less : {X : Type 0} (p : Grant → Bool) (grant : Grant) (grants : List Grant) (load : Option LoadName) (new old : X) → p grant ≡ false → cond (touches p grants load) new old ≡ cond (touches p (grant ∷ grants) load) new old
touches_less p grant grants None new old fails = refl
touches_less p grant grants (Some load) new old fails =
    sym (ap (λ b. cond ((b && same_label grant.label load.label) || touched p grants load.label) new old) fails)

-- a filter at its head
pub filter_in : (p : Grant → Bool) (grant : Grant) (grants : List Grant) → p grant ≡ true → filter p (grant ∷ grants) ≡ grant ∷ filter p grants
filter_in p grant grants passes = ap (λ b. cond b (grant ∷ filter p grants) (filter p grants)) passes

pub filter_out : (p : Grant → Bool) (grant : Grant) (grants : List Grant) → p grant ≡ false → filter p (grant ∷ grants) ≡ filter p grants
filter_out p grant grants fails = ap (λ b. cond b (grant ∷ filter p grants) (filter p grants)) fails

-- a relation that goes with removal and installation
pub record GoesAlong (world : World) (slots : ℕ) (parts : ℕ → Option Part) (cycle : ℕ) (R : (ℕ → Option ℕ) → (ℕ → PartState) → TileState → Type 0) : Type 0 where
  pub by : (granted later : ℕ → Option ℕ) (view other : ℕ → PartState) (t : TileState) → ((place : ℕ) → later place ≡ granted place) → ((place : ℕ) (part : Part) → parts place ≡ Some part → other place ≡ view place) → R granted view t → R later other t
  pub holds : (granted : ℕ → Option ℕ) (view : ℕ → PartState) (t : TileState) → R granted view t → AreInstalled slots parts granted t
  pub leaves : (granted later : ℕ → Option ℕ) (view : ℕ → PartState) (t : TileState) (i : ℕ) (part : Part) (start : ℕ) → R granted view t → IsGrantedPart parts granted i part start → IsChangedAt granted later i None → R later view (removed world t part)
  pub comes : (granted later : ℕ → Option ℕ) (view after : ℕ → PartState) (t : TileState) (i : ℕ) (part : Part) → R granted view t → IsRoom slots parts granted t i part → IsOpenedAt world granted later view after i part cycle → R later after (installed world t i part)

-- what is granted once some grants have ended
abbrev pub granted_without : (Grant → Bool) → List Grant → List LoadName → (ℕ → Option ℕ) → ℕ → Option ℕ
granted_without p grants loads granted place = cond (touches p grants (slice_get loads place)) None (granted place)

-- each load of a grant that passes is granted
abbrev pub AreThere : (Grant → Bool) → List Grant → List LoadName → (ℕ → Option ℕ) → Type 0
AreThere p grants loads granted = (k : ℕ) (grant : Grant) (place : ℕ) (load : LoadName) → slice_get grants k ≡ Some grant → p grant ≡ true → slice_get loads place ≡ Some load → grant.label ≡ load.label → (start : ℕ) × (granted place ≡ Some start)

-- each load has a part
abbrev pub HaveParts : (ℕ → Option Part) → List LoadName → Type 0
HaveParts parts loads = (place : ℕ) (load : LoadName) → slice_get loads place ≡ Some load → (part : Part) × (parts place ≡ Some part)

-- each load of a tile has one
pub have_parts : (world : World) (all loads : List LoadName) (grants : List Grant) (number : ℕ) → IsSite world all loads grants number → HaveParts (site_part world number loads) loads
have_parts world all loads grants number site place load there =
    let has = load_has world all loads grants number place load site there in
    (has.0, ap (λ (o : Option LoadName). option_and_then (λ (l : LoadName). part_on world number l.bundle) o) there ∙ has.1)

-- the place of a grant's load, and its part
pub record IsAt (parts : ℕ → Option Part) (loads : List LoadName) (grant : Grant) (place : ℕ) : Type 0 where
  pub load : LoadName
  pub there : slice_get loads place ≡ Some load
  pub label : grant.label ≡ load.label
  pub part : Part
  pub part_is : parts place ≡ Some part

pub at_place_of : (parts : ℕ → Option Part) (loads : List LoadName) (grant : Grant) (place : ℕ) → HaveParts parts loads → position (λ (load : LoadName). same_label load.label grant.label) loads ≡ Some place → IsAt parts loads grant place
at_place_of parts loads grant place have found =
    let at = passing_place (λ (load : LoadName). same_label load.label grant.label) loads place found in
    let part = have place at.0 at.1 in
    record { load = at.0; there = at.1; label = sym (same_so at.0.label grant.label at.2); part = part.0; part_is = part.1 }

-- no other place has a load of the grant
pub not_of : (parts : ℕ → Option Part) (loads : List LoadName) (grant : Grant) (i place : ℕ) → AreKeyed (λ (load : LoadName). load.label) loads → IsAt parts loads grant i → place ≢ i → is_of grant (slice_get loads place) ≡ false
not_of parts loads grant i place keyed at apart =
    false_from_ne_true (is_of grant (slice_get loads place)) (λ is.
    let l = of_load grant (slice_get loads place) is in
    apart (keyed place i l.0 at.load l.1 at.there (sym l.2 ∙ at.label)))

-- its own has
pub is_of_own : (parts : ℕ → Option Part) (loads : List LoadName) (grant : Grant) (i : ℕ) → IsAt parts loads grant i → is_of grant (slice_get loads i) ≡ true
is_of_own parts loads grant i at = ap (is_of grant) at.there ∙ same_from grant.label at.load.label at.label

-- where no place is found, no load is the grant's
pub none_of : (loads : List LoadName) (grant : Grant) (place : ℕ) → position (λ (load : LoadName). same_label load.label grant.label) loads ≡ None → is_of grant (slice_get loads place) ≡ false
none_of loads grant place none =
    false_from_ne_true (is_of grant (slice_get loads place)) (λ is.
    let l = of_load grant (slice_get loads place) is in
    let fails = no_place (λ (load : LoadName). same_label load.label grant.label) loads place l.0 none l.1 in
    let passes = same_from l.0.label grant.label (sym l.2) in
    false≢true (sym fails ∙ passes))

-- a later grant is of another load
pub other_load : (grant other : Grant) (grants : List Grant) (k : ℕ) (load : LoadName) → AreLabelled (grant ∷ grants) → slice_get grants k ≡ Some other → other.label ≡ load.label → is_of grant (Some load) ≡ false
other_load grant other grants k load labelled there same =
    let keyed = keyed_pairs (λ (g : Grant). g.label) (grant ∷ grants) labelled in
    false_from_ne_true (same_label grant.label load.label) (λ is.
    let one : zero ≡ suc k = keyed zero (suc k) grant other refl there (same_so grant.label load.label is ∙ sym same) in
    omega arith)

-- At a tile of a number, before a slot, with these loads.
module _ (world : World) (number at : ℕ) (loads : List LoadName) where
  left_by : (t : TileState) (grant : Grant) (place : Option ℕ) → IsTile number at loads world.platform.partition_slots t → position (λ (load : LoadName). same_label load.label grant.label) loads ≡ place → after_end world t grant ≡ removed_if world t (option_and_then (site_part world number loads) place)
  left_by t grant place is found =
      ap₂ (λ (n : ℕ) (xs : List LoadName). removed_if world t (option_and_then (site_part world n xs) (position (λ (load : LoadName). same_label load.label grant.label) xs))) is.number_is is.loads_are
      ∙ ap (λ (o : Option ℕ). removed_if world t (option_and_then (site_part world number loads) o)) found

  -- the grants that end
  pub fold_out : (cycle : ℕ) (R : (ℕ → Option ℕ) → (ℕ → PartState) → TileState → Type 0) → GoesAlong world world.platform.partition_slots (site_part world number loads) cycle R → AreKeyed (λ (load : LoadName). load.label) loads → HaveParts (site_part world number loads) loads → (p : Grant → Bool) (grants : List Grant) (granted : ℕ → Option ℕ) (view : ℕ → PartState) (t : TileState) → AreLabelled grants → IsTile number at loads world.platform.partition_slots t → AreThere p grants loads granted → R granted view t → R (granted_without p grants loads granted) view (fold (after_end world) t (filter p grants)) × IsTile number at loads world.platform.partition_slots (fold (after_end world) t (filter p grants))
  fold_out cycle R goes keyed have p [] granted view t labelled is there holds =
      (goes.by granted (granted_without p [] loads granted) view view t (λ place. nothing (slice_get loads place) (granted place)) (λ place part is. refl) holds, is)
    where
      nothing : (load : Option LoadName) (old : Option ℕ) → cond (touches p [] load) None old ≡ old
      nothing None old = refl
      nothing (Some load) old = refl
  fold_out cycle R goes keyed have p (grant ∷ grants) granted view t labelled is there holds =
      let Goal : TileState → Type 0 = λ s. R (granted_without p (grant ∷ grants) loads granted) view s × IsTile number at loads world.platform.partition_slots s in
      elim (cases_Bool (p grant)) [
        | inr fails ↦
            let rest = fold_out cycle R goes keyed have p grants granted view t (rest_apart grant grants labelled) is (λ k g place load at_k passes at_place same. there (suc k) g place load at_k passes at_place same) holds in
            let P : List Grant → Type 0 = λ gs. Goal (fold (after_end world) t gs) in
            let now : Goal (fold (after_end world) t (filter p grants)) = (goes.by (granted_without p grants loads granted) (granted_without p (grant ∷ grants) loads granted) view view _ (λ place. sym (touches_less p grant grants (slice_get loads place) None (granted place) fails)) (λ place part is. refl) rest.0, rest.1) in
            subst P (sym (filter_out p grant grants fails)) now
        | inl passes ↦
            let later : ℕ → Option ℕ = λ place. cond (is_of grant (slice_get loads place)) None (granted place) in
            let still : AreThere p grants loads later = λ k g place load at_k passes' at_place same.
            let old = there (suc k) g place load at_k passes' at_place same in
            let other : is_of grant (slice_get loads place) ≡ false = ap (is_of grant) at_place ∙ other_load grant g grants k load labelled at_k same in
            (old.0, ap (λ b. cond b None (granted place)) other ∙ old.1) in
            let step : (s : TileState) → after_end world t grant ≡ s → R later view s → IsTile number at loads world.platform.partition_slots s → Goal (fold (after_end world) t (filter p (grant ∷ grants))) = λ s after now its.
            let rest = fold_out cycle R goes keyed have p grants later view s (rest_apart grant grants labelled) its still now in
            let done : Goal (fold (after_end world) s (filter p grants)) = (goes.by (granted_without p grants loads later) (granted_without p (grant ∷ grants) loads granted) view view _ (λ place. sym (touches_more p grant grants (slice_get loads place) None (granted place) passes)) (λ place part is. refl) rest.0, rest.1) in
            let P : List Grant → Type 0 = λ gs. Goal (fold (after_end world) t gs) in
            let Q : TileState → Type 0 = λ s. Goal (fold (after_end world) s (filter p grants)) in
            subst P (sym (filter_in p grant grants passes)) (subst Q (sym after) done) in
            let by_place : (place : Option ℕ) → position (λ (load : LoadName). same_label load.label grant.label) loads ≡ place → Goal (fold (after_end world) t (filter p (grant ∷ grants))) = λ place. elim place as (λ place. position (λ (load : LoadName). same_label load.label grant.label) loads ≡ place → Goal (fold (after_end world) t (filter p (grant ∷ grants)))) [
              | None ↦ λ none.
                  step t (left_by t grant None is none)
                  (goes.by granted later view view t (λ place. ap (λ b. cond b None (granted place)) (none_of loads grant place none)) (λ place part is. refl) holds) is
              | Some i ↦ λ found.
                  let one = at_place_of (site_part world number loads) loads grant i have found in
                  let start = there zero grant i one.load refl passes one.there one.label in
                  step (removed world t one.part)
                  (left_by t grant (Some i) is found ∙ ap (removed_if world t) one.part_is)
                  (goes.leaves granted later view t i one.part start.0 holds
                  (record { part_is = one.part_is; start_is = start.1 })
                  (record {
                    now = ap (λ b. cond b None (granted i)) (is_of_own (site_part world number loads) loads grant i one);
                    stay = λ place apart. ap (λ b. cond b None (granted place)) (not_of (site_part world number loads) loads grant i place keyed one apart);
                  }))
                  (tile_removed world number at loads world.platform.partition_slots t one.part is)
            ] in
            by_place (position (λ (load : LoadName). same_label load.label grant.label) loads) refl
      ]
