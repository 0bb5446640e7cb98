-- The grants that begin in a slot, one after the other: what a tile holds then.
use Rattle.std.proofs.Common.{◌≡◌, ℕ, zero, suc, ◌+◌, ◌*◌, Bool, true, false, cond, List, [], ◌∷◌, filter, fold, position, slice_get, Option, Some, None, refl, sym, subst, ap, ap₂, ◌∙◌, inl, inr}
use Rattle.std.specs.Option.{option_map_or}
use Rattle.std.proofs.lemmas.Bool.{cases_Bool}
use Rattle.std.proofs.lemmas.Option.{same_Some}
use Rattle.bundle_model.specs.declared.bundle.Part.{Part}
use Rattle.bundle_model.specs.declared.world.World.{World}
use Rattle.bundle_model.specs.declared.world.LoadName.{LoadName}
use Rattle.bundle_model.specs.declared.world.Grant.{Grant}
use Rattle.bundle_model.specs.Grants.{stands_at}
use Rattle.bundle_model.specs.World.{same_label}
use Rattle.part_model.specs.Part.{PartState}
use Rattle.tile_core.specs.Tile.{TileState}
use Rattle.tile_core.specs.Slot.{installed, installed_if, installed_at, after_start}
use Rattle.tile_core.specs.Views.{opening_view}
use Rattle.tile_core.proofs.Standing.{AreLabelled, rest_apart}
use Rattle.tile_core.proofs.Sites.{IsSite, site_part, IsGranted, loads_keyed}
use Rattle.tile_core.proofs.Folding.{IsTile, tile_installed, is_of, touches, touches_more, touches_less, filter_in, filter_out, GoesAlong, have_parts, at_place_of, not_of, is_of_own, none_of, of_load, other_load}
use Rattle.tile_core.proofs.Rooms.{AreStanding, IsComing, room_is}

-- what is granted once some grants have begun
abbrev pub granted_with : ℕ → (Grant → Bool) → List Grant → List LoadName → (ℕ → Option ℕ) → ℕ → Option ℕ
granted_with cycle p grants loads granted place = cond (touches p grants (slice_get loads place)) (Some cycle) (granted place)

-- a part as it is when its application is granted
abbrev pub opened : World → Option Part → PartState → PartState
opened world None view = view
opened world (Some part) view = opening_view world part view.log

abbrev pub views_with : World → (Grant → Bool) → List Grant → List LoadName → (ℕ → Option Part) → (ℕ → PartState) → ℕ → PartState
views_with world p grants loads parts view place = cond (touches p grants (slice_get loads place)) (opened world (parts place) (view place)) (view place)

-- each grant that passes is one of the schedule's that begins in the slot, and its load isn't granted yet
pub record IsStart (all : List Grant) (slot : ℕ) (loads : List LoadName) (granted : ℕ → Option ℕ) (grant : Grant) : Type 0 where
  pub index : ℕ
  pub there : slice_get all index ≡ Some grant
  pub start : grant.start ≡ slot
  pub stands : stands_at (slot + 1) grant ≡ true
  pub absent : (place : ℕ) (load : LoadName) → slice_get loads place ≡ Some load → grant.label ≡ load.label → granted place ≡ None

abbrev pub AreStarts : (Grant → Bool) → List Grant → List Grant → ℕ → List LoadName → (ℕ → Option ℕ) → Type 0
AreStarts p grants all slot loads granted = (k : ℕ) (grant : Grant) → slice_get grants k ≡ Some grant → p grant ≡ true → IsStart all slot loads granted grant

-- A tile before a slot with these loads, of which those are granted whose grants stand at `slot`; and what
-- goes with parts that leave and come holds of it.
pub record IsSettled (world : World) (grants : List Grant) (number at slot : ℕ) (loads : List LoadName) (R : (ℕ → Option ℕ) → (ℕ → PartState) → TileState → Type 0) (granted : ℕ → Option ℕ) (view : ℕ → PartState) (t : TileState) : Type 0 where
  pub holds : R granted view t
  pub tile : IsTile number at loads world.platform.partition_slots t
  pub standing : AreStanding world grants slot loads granted

-- At a tile of a number, before a slot, with these loads.
module _ (world : World) (number at : ℕ) (loads : List LoadName) where
  come_by : (t : TileState) (grant : Grant) (place : Option ℕ) → IsTile number at loads world.platform.partition_slots t → position (λ (load : LoadName). same_label load.label grant.label) loads ≡ place → after_start world t grant ≡ option_map_or (λ i. installed_if world t i (site_part world number loads i)) place t
  come_by t grant place is found =
      first (position (λ (load : LoadName). same_label load.label grant.label) t.loads)
      ∙ ap₂ (λ (n : ℕ) (xs : List LoadName). option_map_or (λ i. installed_if world t i (site_part world n xs i)) (position (λ (load : LoadName). same_label load.label grant.label) xs) t) is.number_is is.loads_are
      ∙ ap (λ (o : Option ℕ). option_map_or (λ i. installed_if world t i (site_part world number loads i)) o t) found
    where
      first : (o : Option ℕ) → installed_at world t o ≡ option_map_or (λ i. installed_if world t i (site_part world t.number t.loads i)) o t
      first None = refl
      first (Some i) = refl

  -- the grants that begin
  pub fold_in : (all_loads : List LoadName) (all : List Grant) (slot : ℕ) (R : (ℕ → Option ℕ) → (ℕ → PartState) → TileState → Type 0) → IsSite world all_loads loads all number → GoesAlong world world.platform.partition_slots (site_part world number loads) (slot * world.platform.slot_cycles) R → (p : Grant → Bool) (grants : List Grant) (granted : ℕ → Option ℕ) (view : ℕ → PartState) (t : TileState) → AreLabelled grants → AreStarts p grants all slot loads granted → IsSettled world all number at (slot + 1) loads R granted view t → IsSettled world all number at (slot + 1) loads R (granted_with (slot * world.platform.slot_cycles) p grants loads granted) (views_with world p grants loads (site_part world number loads) view) (fold (after_start world) t (filter p grants))
  fold_in all_loads all slot R site goes p [] granted view t labelled starts settled = record {
    holds = goes.by granted (granted_with (slot * world.platform.slot_cycles) p [] loads granted) view (views_with world p [] loads (site_part world number loads) view) t (λ place. nothing (slice_get loads place) (granted place)) (λ place part is. unopened (slice_get loads place) (opened world (site_part world number loads place) (view place)) (view place)) settled.holds;
    tile = settled.tile;
    standing = λ place start begins. settled.standing place start (sym (nothing (slice_get loads place) (granted place)) ∙ begins);
  }
    where
      nothing : (load : Option LoadName) (old : Option ℕ) → cond (touches p [] load) (Some (slot * world.platform.slot_cycles)) old ≡ old
      nothing None old = refl
      nothing (Some load) old = refl

      unopened : (load : Option LoadName) (new old : PartState) → cond (touches p [] load) new old ≡ old
      unopened None new old = refl
      unopened (Some load) new old = refl
  fold_in all_loads all slot R site goes p (grant ∷ grants) granted view t labelled starts settled =
      let is = settled.tile in
      let cycle = slot * world.platform.slot_cycles in
      let slots = world.platform.partition_slots in
      let have = have_parts world all_loads loads all number site in
      let parts = site_part world number loads in
      let keyed = loads_keyed world all_loads loads all number site in
      let Goal : TileState → Type 0 = λ s. IsSettled world all number at (slot + 1) loads R (granted_with cycle p (grant ∷ grants) loads granted) (views_with world p (grant ∷ grants) loads parts view) s in
      elim (cases_Bool (p grant)) [
        | inr fails ↦
            let rest = fold_in all_loads all slot R site goes p grants granted view t (rest_apart grant grants labelled) (λ k g at_k passes. starts (suc k) g at_k passes) settled in
            let P : List Grant → Type 0 = λ gs. Goal (fold (after_start world) t gs) in
            let now : Goal (fold (after_start world) t (filter p grants)) = record {
              holds = goes.by (granted_with cycle p grants loads granted) (granted_with cycle p (grant ∷ grants) loads granted) (views_with world p grants loads parts view) (views_with world p (grant ∷ grants) loads parts view) _ (λ place. sym (touches_less p grant grants (slice_get loads place) (Some cycle) (granted place) fails)) (λ place part is. sym (touches_less p grant grants (slice_get loads place) (opened world (parts place) (view place)) (view place) fails)) rest.holds;
              tile = rest.tile;
              standing = λ place start begins. rest.standing place start (touches_less p grant grants (slice_get loads place) (Some cycle) (granted place) fails ∙ begins);
            } in
            subst P (sym (filter_out p grant grants fails)) now
        | inl passes ↦
            let begin = starts zero grant refl passes in
            let later : ℕ → Option ℕ = λ place. cond (is_of grant (slice_get loads place)) (Some cycle) (granted place) in
            let after : ℕ → PartState = λ place. cond (is_of grant (slice_get loads place)) (opened world (parts place) (view place)) (view place) in
            let still : AreStarts p grants all slot loads later = λ k g at_k passes'.
            let old = starts (suc k) g at_k passes' in
            record {
              index = old.index;
              there = old.there;
              start = old.start;
              stands = old.stands;
              absent = λ place load at_place same.
                  let other : is_of grant (slice_get loads place) ≡ false = ap (is_of grant) at_place ∙ other_load grant g grants k load labelled at_k same in
                  ap (λ b. cond b (Some cycle) (granted place)) other ∙ old.absent place load at_place same;
            } in
            let by_test : (place start : ℕ) (b : Bool) → is_of grant (slice_get loads place) ≡ b → cond b (Some cycle) (granted place) ≡ Some start → IsGranted world all (slot + 1) loads place start = λ place start b. elim b as (λ b. is_of grant (slice_get loads place) ≡ b → cond b (Some cycle) (granted place) ≡ Some start → IsGranted world all (slot + 1) loads place start) [
              | true ↦ λ own begins.
                  let l = of_load grant (slice_get loads place) own in
                  record { load = l.0; there = l.1; grant = grant; index = begin.index; granted = begin.there; label = l.2; stands = begin.stands; start_is = ap (λ (n : ℕ). n * world.platform.slot_cycles) begin.start ∙ same_Some cycle start begins }
              | false ↦ λ other begins. settled.standing place start begins
            ] in
            let stand : AreStanding world all (slot + 1) loads later = λ place start begins. by_test place start (is_of grant (slice_get loads place)) refl begins in
            let more : (place : ℕ) → views_with world p grants loads parts after place ≡ views_with world p (grant ∷ grants) loads parts view place = λ place.
            again (touches p grants (slice_get loads place)) (is_of grant (slice_get loads place)) (parts place) (view place)
            ∙ touches_more p grant grants (slice_get loads place) (opened world (parts place) (view place)) (view place) passes in
            let step : (s : TileState) → after_start world t grant ≡ s → R later after s → IsTile number at loads slots s → Goal (fold (after_start world) t (filter p (grant ∷ grants))) = λ s comes now its.
            let rest = fold_in all_loads all slot R site goes p grants later after s (rest_apart grant grants labelled) still (record { holds = now; tile = its; standing = stand }) in
            let done : Goal (fold (after_start world) s (filter p grants)) = record {
              holds = goes.by (granted_with cycle p grants loads later) (granted_with cycle p (grant ∷ grants) loads granted) (views_with world p grants loads parts after) (views_with world p (grant ∷ grants) loads parts view) _ (λ place. sym (touches_more p grant grants (slice_get loads place) (Some cycle) (granted place) passes)) (λ place part is. sym (more place)) rest.holds;
              tile = rest.tile;
              standing = λ place start begins. rest.standing place start (touches_more p grant grants (slice_get loads place) (Some cycle) (granted place) passes ∙ begins);
            } in
            let P : List Grant → Type 0 = λ gs. Goal (fold (after_start world) t gs) in
            let Q : TileState → Type 0 = λ s. Goal (fold (after_start world) s (filter p grants)) in
            subst P (sym (filter_in p grant grants passes)) (subst Q (sym comes) done) in
            let by_place : (place : Option ℕ) → position (λ (load : LoadName). same_label load.label grant.label) loads ≡ place → Goal (fold (after_start world) t (filter p (grant ∷ grants))) = λ place. elim place as (λ place. position (λ (load : LoadName). same_label load.label grant.label) loads ≡ place → Goal (fold (after_start world) t (filter p (grant ∷ grants)))) [
              | None ↦ λ none.
                  step t (come_by t grant None is none)
                  (goes.by granted later view after t (λ place. ap (λ b. cond b (Some cycle) (granted place)) (none_of loads grant place none)) (λ place part is. ap (λ b. cond b (opened world (parts place) (view place)) (view place)) (none_of loads grant place none)) settled.holds) is
              | Some i ↦ λ found.
                  let one = at_place_of parts loads grant i have found in
                  let coming : IsComing all (slot + 1) parts loads granted grant i = record { index = begin.index; there = begin.there; stands = begin.stands; at = one; absent = begin.absent i one.load one.there one.label } in
                  let room = room_is world all_loads loads all number at (slot + 1) granted t grant i site (record { tile = is; installed = goes.holds granted view t settled.holds; standing = settled.standing }) coming in
                  let own = is_of_own parts loads grant i one in
                  step (installed world t i one.part)
                  (come_by t grant (Some i) is found ∙ ap (installed_if world t i) one.part_is)
                  (goes.comes granted later view after t i one.part settled.holds room (record {
                    begun = record {
                      now = ap (λ b. cond b (Some cycle) (granted i)) own;
                      stay = λ place apart. ap (λ b. cond b (Some cycle) (granted place)) (not_of parts loads grant i place keyed one apart);
                    };
                    opened = record {
                      now = ap (λ b. cond b (opened world (parts i) (view i)) (view i)) own ∙ ap (λ (o : Option Part). opened world o (view i)) one.part_is;
                      stay = λ place apart. ap (λ b. cond b (opened world (parts place) (view place)) (view place)) (not_of parts loads grant i place keyed one apart);
                    };
                  }))
                  (tile_installed world number at loads slots t i one.part is)
            ] in
            by_place (position (λ (load : LoadName). same_label load.label grant.label) loads) refl
      ]
    where
      again : (rest same : Bool) (part : Option Part) (view : PartState) → cond rest (opened world part (cond same (opened world part view) view)) (cond same (opened world part view) view) ≡ cond rest (opened world part view) (cond same (opened world part view) view)
      again true true None view = refl
      again true true (Some part) view = refl
      again true false part view = refl
      again false same part view = refl
