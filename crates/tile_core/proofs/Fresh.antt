-- A tile before its first slot.
use Rattle.std.proofs.Common.{◌≡◌, ℕ, ◌*◌, cond, ◌&&◌, List, [], ◌∷◌, get_or, length, map, replicate, slice_get, Option, Some, None, option_map, option_and_then, refl, sym, subst, ap, ◌∙◌, inl, inr, arith}
use Rattle.std.specs.Option.{option_map_or}
use Rattle.std.proofs.lemmas.Bool.{cases_lt}
use Rattle.std.proofs.Math.Bool.{and-false}
use Rattle.std.proofs.lemmas.List.{length-replicate, get_or-replicate, get_or_past}
use Rattle.std.proofs.lemmas.Option.{none-some, option_and_then_some, slice_get-map, slice_get_within, get_or_from_slice_get}
use Rattle.soc_base.specs.declared.label.Label.{Label}
use Rattle.platform_model.specs.Platform.{frame_of}
use Rattle.bundle_model.specs.declared.bundle.Part.{Part}
use Rattle.bundle_model.specs.declared.world.World.{World}
use Rattle.bundle_model.specs.declared.world.LoadName.{LoadName}
use Rattle.bundle_model.specs.declared.world.Grant.{Grant}
use Rattle.bundle_model.specs.World.{same_label, part_on}
use Rattle.trace_log.specs.Log.{new_log}
use Rattle.comik.specs.Turn.{TurnOf}
use Rattle.comik.proofs.Laws.{none_at, whole_fresh, turn_fresh}
use Rattle.tile_core.specs.Tile.{TileState, fresh_log, fresh_tile, load_part}
use Rattle.tile_core.specs.Fit.{standing_grant, granted_cycle, granted_from, AreInstalled, IsFit}
use Rattle.tile_core.specs.Law.{TilesBegin, HoldsFirst}
use Rattle.grant_tables.proofs.Laws.{tables_begin, none_stands}
use Rattle.tile_core.proofs.Made.{load_part_inside, load_part_own}
use Rattle.tile_core.proofs.FreshMade.{fresh_made}

-- no grant stands at the beginning of slot 0
none_standing : (label : Label) (grants : List Grant) → standing_grant grants 0 label ≡ None
none_standing label [] = refl
none_standing label (grant ∷ grants) =
    ap (λ stands. cond (same_label grant.label label && stands) (Some grant) (standing_grant grants 0 label)) (none_stands grant)
    ∙ ap (λ found. cond found (Some grant) (standing_grant grants 0 label)) (and-false (same_label grant.label label))
    ∙ none_standing label grants

none_granted_to : (world : World) (grants : List Grant) (load : Option LoadName) → option_and_then (granted_cycle world grants 0) load ≡ None
none_granted_to world grants None = refl
none_granted_to world grants (Some load) = ap (option_map (λ (grant : Grant). grant.start * world.platform.slot_cycles)) (none_standing load.label grants)

none_granted : (world : World) (grants : List Grant) (t : TileState) (place : ℕ) → granted_from world grants 0 t place ≡ None
none_granted world grants t place = none_granted_to world grants (slice_get t.loads place)

abbrev no_places : ℕ → List (Option ℕ)
no_places count = replicate count None

no_place : (count number : ℕ) → get_or (no_places count) number None ≡ None
no_place count number = elim (cases_lt number count) [
  | inl inside ↦ get_or-replicate count number None None inside
  | inr past ↦
      let size : length (no_places count) ≡ count = length-replicate count None in
      get_or_past (no_places count) number None (omega arith)
]

-- nothing is installed
pub fresh_installed : (world : World) (loads : List LoadName) (grants : List Grant) (number slots : ℕ) (parts : ℕ → Option Part) → AreInstalled slots parts (granted_from world grants 0 (fresh_tile world loads number)) (fresh_tile world loads number)
unfolding fresh_tile
fresh_installed world loads grants number slots parts = record {
  each = λ place part start is begins. absurd (none-some start (sym (none_granted world grants (fresh_tile world loads number) place) ∙ begins));
  known = λ n place is. absurd (none-some place (sym (no_place world.platform.partition_slots n) ∙ is));
  owned = λ slot n is. absurd (none-some n (sym (none_at (frame_of world.platform) slot) ∙ is));
}

-- it is fit for slot 0 by any grants
pub fresh_fits : (world : World) (loads : List LoadName) (grants : List Grant) (number : ℕ) → IsFit world grants (fresh_tile world loads number)
unfolding fresh_tile
fresh_fits world loads grants number = record {
  parts = fresh_installed world loads grants number world.platform.partition_slots (load_part world (fresh_tile world loads number));
  tables = tables_begin world grants number;
}

pub fresh_at : (world : World) (loads : List LoadName) (number : ℕ) → (fresh_tile world loads number).at ≡ 0
unfolding fresh_tile
fresh_at world loads number = refl

-- it begins
pub fresh_begins : TilesBegin
unfolding fresh_tile
fresh_begins world loads grants number exists = record {
  made = fresh_made world loads number exists;
  fits = fresh_fits world loads grants number;
  at = refl;
  number_is = refl;
}

fresh_logged : (world : World) (number place : ℕ) (loads : List LoadName) (load : LoadName) (part : Part) → slice_get loads place ≡ Some load → part_on world number load.bundle ≡ Some part → get_or (map (fresh_log world number) loads) place (new_log 0) ≡ new_log part.trace
fresh_logged world number place loads load part there on =
    get_or_from_slice_get (map (fresh_log world number) loads) place (fresh_log world number load) (new_log 0) (slice_get-map (fresh_log world number) loads place ∙ ap (option_map (fresh_log world number)) there)
    ∙ ap (λ (o : Option Part). new_log (option_map_or (λ (p : Part). p.trace) o 0)) on

-- it holds its parts
pub holds_first : HoldsFirst
unfolding fresh_tile
holds_first world loads grants number view sound exists empty =
    let t = fresh_tile world loads number in
    let times = frame_of world.platform in
    let made = fresh_made world loads number exists in
    let first : 0 ≡ 0 * world.platform.slot_cycles = omega arith in
    record {
      starts = λ n. 0;
      holds = record {
        frame = refl;
        whole = whole_fresh times;
        step = tt;
        turn = subst (λ (cycle : ℕ). TurnOf t.kernel (λ n. 0) cycle) first (turn_fresh times (λ n. 0));
        installed = fresh_installed world loads grants number times.slots (load_part world t);
        inside = λ place part is. load_part_inside world loads t place part sound.catalog made is;
        own = λ place part is. load_part_own world loads t place part sound.catalog made is;
        here = λ place part start is begins. absurd (none-some start (sym (none_granted world grants t place) ∙ begins));
        logs = λ place part is.
            option_and_then_some (λ (load : LoadName). part_on world number load.bundle) (slice_get t.loads place) part is (λ load there on.
            let low = slice_get_within t.loads place load there in
            let size = made.logs in
            record { inside = omega arith; is = fresh_logged world number place t.loads load part there on ∙ sym (empty place part is) });
      };
    }
