-- A tile after the grants of a slot have ended and begun.
use Rattle.std.proofs.Common.{◌≡◌, ℕ, ◌+◌, ◌*◌, ◌==◌, Bool, true, false, cond, List, fold, filter, slice_get, Option, Some, None, option_and_then, refl, sym, subst, ap, ap₂, ◌∙◌}
use Rattle.std.specs.Option.{option_map_or}
use Rattle.std.proofs.lemmas.Bool.{and_parts, eqb-true}
use Rattle.std.proofs.lemmas.Option.{none-some}
use Rattle.soc_base.specs.declared.label.Label.{Label}
use Rattle.soc_base.specs.Time.{FrameTimes}
use Rattle.bundle_model.specs.declared.bundle.Part.{Part}
use Rattle.bundle_model.specs.declared.world.World.{World}
use Rattle.bundle_model.specs.declared.world.LoadName.{LoadName}
use Rattle.bundle_model.specs.declared.world.Grant.{Grant}
use Rattle.bundle_model.specs.World.{same_label}
use Rattle.bundle_model.proofs.Laws.{keyed_pairs, found_at, same_so}
use Rattle.part_model.specs.Part.{PartState}
use Rattle.tile_core.specs.Tile.{TileState}
use Rattle.tile_core.specs.Slot.{grant_of, ends_in, begins_in, after_end, with_ends, after_start, with_starts}
use Rattle.tile_core.specs.Fit.{AreInstalled, granted_cycle}
use Rattle.tile_core.proofs.Installed.{installed_by, installed_removed, installed_installed}
use Rattle.tile_core.proofs.Holding.{HoldsSome}
use Rattle.tile_core.proofs.Coming.{parted_by, holds_removed, holds_installed, holds_by}
use Rattle.tile_core.proofs.Standing.{AreLabelled, touched_is, if_stands, standing_is, first_cycle, next_standing}
use Rattle.tile_core.proofs.Sites.{IsSite, site_part, site_granted, IsGranted, loads_keyed, site_granted_is}
use Rattle.tile_core.proofs.Folding.{IsTile, same_from, touches, GoesAlong, granted_without, AreThere, have_parts, fold_out}
use Rattle.tile_core.proofs.Rooms.{AreStanding}
use Rattle.tile_core.proofs.Starting.{granted_with, views_with, AreStarts, fold_in}
use Rattle.grant_tables.proofs.Laws.{ended_stood, begun_stands, begun_late, stays_stands}

-- what is installed goes with parts that leave and come
pub goes_installed : (world : World) (slots : ℕ) (parts : ℕ → Option Part) (cycle : ℕ) → GoesAlong world slots parts cycle (λ granted view t. AreInstalled slots parts granted t)
goes_installed world slots parts cycle = record {
  by = λ granted later view other t same same_view h. installed_by slots parts granted later t same h;
  holds = λ granted view t h. h;
  leaves = λ granted later view t i part start h leaving gone. installed_removed world slots parts granted later t i part start h leaving gone;
  comes = λ granted later view after t i part h room opens. installed_installed world slots parts granted later t i part cycle h room.free opens.begun;
}

-- and so do the parts that the tile holds
pub goes_holds : (world : World) (times : FrameTimes) (parts : ℕ → Option Part) (cycle : ℕ) → GoesAlong world times.slots parts cycle (HoldsSome times parts cycle)
goes_holds world times parts cycle = record {
  by = λ granted later view other t same same_view h. record {
    starts = h.starts;
    parted = parted_by parts granted later (λ place s begins. sym (same place) ∙ begins) h.parted;
    holds = holds_by times parts granted later h.starts view other cycle t same same_view h.holds;
  };
  holds = λ granted view t h. h.holds.installed;
  leaves = λ granted later view t i part start h leaving gone. holds_removed world times parts granted later view cycle t i part start h leaving gone;
  comes = λ granted later view after t i part h room opens. holds_installed world times parts granted later view after cycle t i part h room opens;
}

-- the grant of its own label is the grant
pub own_grant : (world : World) (all loads : List LoadName) (grants : List Grant) (number k : ℕ) (grant : Grant) (label : Label) → IsSite world all loads grants number → slice_get grants k ≡ Some grant → grant.label ≡ label → grant_of grants label ≡ Some grant
own_grant world all loads grants number k grant label site there same =
    found_at (λ (g : Grant). same_label g.label label) grants k grant there
    (same_from grant.label label same)
    (λ j other at is. keyed_pairs (λ (g : Grant). g.label) grants site.apart.labelled j k other grant at there (same_so other.label label is ∙ sym same))

-- the cycle of a grant that stands, and none of one that doesn't
own_cycle : (world : World) (all loads : List LoadName) (grants : List Grant) (number slot k place : ℕ) (grant : Grant) (load : LoadName) → IsSite world all loads grants number → slice_get grants k ≡ Some grant → slice_get loads place ≡ Some load → grant.label ≡ load.label → site_granted world grants slot loads place ≡ first_cycle world.platform.slot_cycles (if_stands slot (Some grant))
own_cycle world all loads grants number slot k place grant load site there at same =
    ap (λ (o : Option LoadName). option_and_then (granted_cycle world grants slot) o) at
    ∙ ap (first_cycle world.platform.slot_cycles) (standing_is slot load.label grants site.apart.labelled)
    ∙ ap (λ (o : Option Grant). first_cycle world.platform.slot_cycles (if_stands slot o)) (own_grant world all loads grants number k grant load.label site there same)

-- each load whose grant ends in the slot is granted at its beginning
pub ends_there : (world : World) (all loads : List LoadName) (grants : List Grant) (number slot : ℕ) → IsSite world all loads grants number → AreThere (ends_in slot) grants loads (site_granted world grants slot loads)
ends_there world all loads grants number slot site k grant place load there ends at same = (
  grant.start * world.platform.slot_cycles,
  own_cycle world all loads grants number slot k place grant load site there at same
      ∙ ap (λ b. first_cycle world.platform.slot_cycles (cond b (Some grant) None)) (ended_stood slot grant ends),
)

-- what is granted once the grants that end in the slot have ended
abbrev pub granted_mid : World → List Grant → ℕ → List LoadName → ℕ → Option ℕ
granted_mid world grants slot loads = granted_without (ends_in slot) grants loads (site_granted world grants slot loads)

mid_standing : (world : World) (all loads : List LoadName) (grants : List Grant) (number slot place start : ℕ) (ended : Bool) → IsSite world all loads grants number → touches (ends_in slot) grants (slice_get loads place) ≡ ended → cond ended None (site_granted world grants slot loads place) ≡ Some start → IsGranted world grants (slot + 1) loads place start
mid_standing world all loads grants number slot place start true site test begins = absurd (none-some start begins)
mid_standing world all loads grants number slot place start false site test begins =
    let g = site_granted_is world grants slot loads place start begins in
    let found = own_grant world all loads grants number g.index g.grant g.load.label site g.granted g.label in
    let stays : ends_in slot g.grant ≡ false =
    sym (ap (touches (ends_in slot) grants) g.there ∙ touched_is (ends_in slot) g.load.label grants site.apart.labelled ∙ ap (λ (o : Option Grant). option_map_or (ends_in slot) o false) found)
    ∙ test in
    record { load = g.load; there = g.there; grant = g.grant; index = g.index; granted = g.granted; label = g.label; stands = stays_stands slot g.grant g.stands stays; start_is = g.start_is }

-- it stands after the slot
pub mid_stands : (world : World) (all loads : List LoadName) (grants : List Grant) (number slot : ℕ) → IsSite world all loads grants number → AreStanding world grants (slot + 1) loads (granted_mid world grants slot loads)
mid_stands world all loads grants number slot site place start begins =
    mid_standing world all loads grants number slot place start (touches (ends_in slot) grants (slice_get loads place)) site refl begins

none_either : (b : Bool) (old : Option ℕ) → old ≡ None → cond b None old ≡ None
none_either true old none = refl
none_either false old none = none

-- the grants that begin in the slot
pub mid_starts : (world : World) (all loads : List LoadName) (grants : List Grant) (number slot : ℕ) → IsSite world all loads grants number → AreStarts (begins_in slot) grants grants slot loads (granted_mid world grants slot loads)
mid_starts world all loads grants number slot site k grant there begins = record {
  index = k;
  there = there;
  start = eqb-true grant.start slot (and_parts (grant.start == slot) _ begins).0;
  stands = begun_stands slot grant begins;
  absent = λ place load at same.
      none_either (touches (ends_in slot) grants (slice_get loads place)) (site_granted world grants slot loads place)
      (own_cycle world all loads grants number slot k place grant load site there at same
      ∙ ap (λ b. first_cycle world.platform.slot_cycles (cond b (Some grant) None)) (begun_late slot grant begins));
}

-- what is granted then is what stands at the next slot
next_by : (world : World) (grants : List Grant) (slot : ℕ) (load : Option LoadName) → AreLabelled grants → cond (touches (begins_in slot) grants load) (Some (slot * world.platform.slot_cycles)) (cond (touches (ends_in slot) grants load) None (option_and_then (granted_cycle world grants slot) load)) ≡ option_and_then (granted_cycle world grants (slot + 1)) load
next_by world grants slot None labelled = refl
next_by world grants slot (Some load) labelled =
    let len = world.platform.slot_cycles in
    let o = grant_of grants load.label in
    ap₂ (λ (b e : Bool). cond b (Some (slot * len)) (cond e None (granted_cycle world grants slot load))) (touched_is (begins_in slot) load.label grants labelled) (touched_is (ends_in slot) load.label grants labelled)
    ∙ ap (λ (found : Option Grant). cond (option_map_or (begins_in slot) o false) (Some (slot * len)) (cond (option_map_or (ends_in slot) o false) None (first_cycle len found))) (standing_is slot load.label grants labelled)
    ∙ next_standing slot len o
    ∙ sym (ap (first_cycle len) (standing_is (slot + 1) load.label grants labelled))

pub next_granted : (world : World) (all loads : List LoadName) (grants : List Grant) (number slot place : ℕ) → IsSite world all loads grants number → granted_with (slot * world.platform.slot_cycles) (begins_in slot) grants loads (granted_mid world grants slot loads) place ≡ site_granted world grants (slot + 1) loads place
next_granted world all loads grants number slot place site = next_by world grants slot (slice_get loads place) site.apart.labelled

-- a tile after the grants that end in its slot, and after those that begin in it
pub ended : (world : World) (all loads : List LoadName) (grants : List Grant) (number slot cycle : ℕ) (R : (ℕ → Option ℕ) → (ℕ → PartState) → TileState → Type 0) (view : ℕ → PartState) (t : TileState) → IsSite world all loads grants number → GoesAlong world world.platform.partition_slots (site_part world number loads) cycle R → IsTile number slot loads world.platform.partition_slots t → R (site_granted world grants slot loads) view t → R (granted_mid world grants slot loads) view (with_ends world grants t) × IsTile number slot loads world.platform.partition_slots (with_ends world grants t)
ended world all loads grants number slot cycle R view t site goes is holds =
    let done = fold_out world number slot loads cycle R goes (loads_keyed world all loads grants number site) (have_parts world all loads grants number site) (ends_in slot) grants (site_granted world grants slot loads) view t site.apart.labelled is (ends_there world all loads grants number slot site) holds in
    let P : ℕ → Type 0 = λ at. (let s = fold (after_end world) t (filter (ends_in at) grants) in R (granted_mid world grants slot loads) view s × IsTile number slot loads world.platform.partition_slots s) in
    subst P (sym is.at_is) done

pub begun : (world : World) (all loads : List LoadName) (grants : List Grant) (number slot : ℕ) (R : (ℕ → Option ℕ) → (ℕ → PartState) → TileState → Type 0) (view : ℕ → PartState) (t : TileState) → IsSite world all loads grants number → GoesAlong world world.platform.partition_slots (site_part world number loads) (slot * world.platform.slot_cycles) R → IsTile number slot loads world.platform.partition_slots t → R (granted_mid world grants slot loads) view t → R (site_granted world grants (slot + 1) loads) (views_with world (begins_in slot) grants loads (site_part world number loads) view) (with_starts world grants t) × IsTile number slot loads world.platform.partition_slots (with_starts world grants t)
begun world all loads grants number slot R view t site goes is holds =
    let done = fold_in world number slot loads all grants slot R site goes (begins_in slot) grants (granted_mid world grants slot loads) view t site.apart.labelled (mid_starts world all loads grants number slot site) (record { holds = holds; tile = is; standing = mid_stands world all loads grants number slot site }) in
    let now = goes.by (granted_with (slot * world.platform.slot_cycles) (begins_in slot) grants loads (granted_mid world grants slot loads)) (site_granted world grants (slot + 1) loads) (views_with world (begins_in slot) grants loads (site_part world number loads) view) (views_with world (begins_in slot) grants loads (site_part world number loads) view) _ (λ place. sym (next_granted world all loads grants number slot place site)) (λ place part is. refl) done.holds in
    let P : ℕ → Type 0 = λ at. (let s = fold (after_start world) t (filter (begins_in at) grants) in R (site_granted world grants (slot + 1) loads) (views_with world (begins_in slot) grants loads (site_part world number loads) view) s × IsTile number slot loads world.platform.partition_slots s) in
    subst P (sym is.at_is) (now, done.tile)
