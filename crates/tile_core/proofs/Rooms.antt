-- There is room for the part of a grant that stands in a slot beside those of the others that do.
use Rattle.std.proofs.Common.{◌≡◌, ◌≢◌, ℕ, zero, suc, ◌*◌, ◌^◌, ◌<◌, ◌≤◌, true, List, [], slice_get, Option, Some, None, refl, sym, subst, ap, ◌∙◌, inl, inr, arith}
use Rattle.std.specs.Int.{bit_at}
use Rattle.std.proofs.lemmas.Bool.{cases_lt, eq-eqb}
use Rattle.std.proofs.lemmas.Nat.{pow_below}
use Rattle.std.proofs.lemmas.Nat.Bits.{bit_at_above}
use Rattle.std.proofs.lemmas.Option.{none-some}
use Rattle.soc_base.specs.Time.{is_among}
use Rattle.soc_base.specs.Slots.{slots_of}
use Rattle.soc_base.proofs.Laws.{among_slots}
use Rattle.bundle_model.specs.declared.bundle.Part.{Part}
use Rattle.bundle_model.specs.declared.world.World.{World}
use Rattle.bundle_model.specs.declared.world.LoadName.{LoadName}
use Rattle.bundle_model.specs.declared.world.Grant.{Grant}
use Rattle.bundle_model.specs.WellFormed.{IsWellFormedPart}
use Rattle.bundle_model.specs.Grants.{stands_at}
use Rattle.bundle_model.proofs.Laws.{AreDisjoint}
use Rattle.tile_core.specs.Tile.{TileState}
use Rattle.tile_core.specs.Fit.{AreInstalled}
use Rattle.tile_core.proofs.Installed.{room_free}
use Rattle.tile_core.proofs.Coming.{IsRoom}
use Rattle.tile_core.proofs.Sites.{IsSite, site_part, IsGranted, IsStandingPart, site_part_is, granted_disjoint, granted_ports}
use Rattle.tile_core.proofs.Ports.{ArePartedParts}
use Rattle.tile_core.proofs.Folding.{IsTile, IsAt}

no_slots : slots_of 0 ≡ []
unfolding slots_of
no_slots = refl

some_slots : (slots : ℕ) → slots_of slots ≢ [] → 0 < slots
some_slots zero some = absurd (some no_slots)
some_slots (suc n) some = omega arith

-- a set of slots has at most sixteen bits
pub fits_word : (slots count : ℕ) → count ≤ 16 → slots < 2 ^ count → slots < 65536
fits_word slots count most below = elim (cases_lt count 16) [
  | inl less ↦ let up = pow_below count 16 less in omega arith
  | inr same ↦
      let is : count ≡ 16 = omega arith in
      subst (λ (n : ℕ). slots < 2 ^ n) is below
]

among : (slots slot : ℕ) → slots < 65536 → bit_at slots slot ≡ 1 → is_among slot (slots_of slots) ≡ true
among slots slot fits bit = elim (cases_lt slot 16) [
  | inl low ↦ among_slots slots slot low ∙ eq-eqb (bit_at slots slot) 1 bit
  | inr high ↦ let none = bit_at_above slots 16 slot fits high in absurd (omega arith)
]

-- what is installed is granted by grants that stand in the slot
abbrev pub AreStanding : World → List Grant → ℕ → List LoadName → (ℕ → Option ℕ) → Type 0
AreStanding world grants slot loads granted = (place start : ℕ) → granted place ≡ Some start → IsGranted world grants slot loads place start

pub part_sound : (world : World) (all loads : List LoadName) (grants : List Grant) (number place : ℕ) (part : Part) → IsSite world all loads grants number → site_part world number loads place ≡ Some part → IsWellFormedPart world.platform part
part_sound world all loads grants number place part site is = (site_part_is world all loads grants number place part site is).on.sound

pub slots_fit : (world : World) (part : Part) → IsWellFormedPart world.platform part → part.slots < 65536
slots_fit world part sound = fits_word part.slots world.platform.partition_slots world.platform.partition_slots_in_range.1 sound.slots_below

pub slots_some : (world : World) (part : Part) → IsWellFormedPart world.platform part → 0 < part.slots
slots_some world part sound = some_slots part.slots sound.some_slot

-- the parts of two loads whose grants stand in one slot share nothing
pub parted_at : (world : World) (all loads : List LoadName) (grants : List Grant) (number slot i j : ℕ) (one other : Part) → IsSite world all loads grants number → i ≢ j → IsStandingPart world grants number slot loads i one → IsStandingPart world grants number slot loads j other → ArePartedParts one other
parted_at world all loads grants number slot i j one other site differ one_part other_part = record {
  regions = (granted_disjoint world all loads grants number slot i j one other site differ one_part other_part).regions;
  ports = granted_ports world all loads grants number slot i j one other site differ one_part other_part;
}

-- a tile before a slot with these loads, of which those are installed whose grants stand at `slot`
pub record IsStandingTile (world : World) (grants : List Grant) (number at slot : ℕ) (loads : List LoadName) (granted : ℕ → Option ℕ) (t : TileState) : Type 0 where
  pub tile : IsTile number at loads world.platform.partition_slots t
  pub installed : AreInstalled world.platform.partition_slots (site_part world number loads) granted t
  pub standing : AreStanding world grants slot loads granted

-- a grant that stands at a slot, and whose load is at a place of the tile, but not installed yet
pub record IsComing (grants : List Grant) (slot : ℕ) (parts : ℕ → Option Part) (loads : List LoadName) (granted : ℕ → Option ℕ) (grant : Grant) (place : ℕ) : Type 0 where
  pub index : ℕ
  pub there : slice_get grants index ≡ Some grant
  pub stands : stands_at slot grant ≡ true
  pub at : IsAt parts loads grant place
  pub absent : granted place ≡ None

pub room_is : (world : World) (all loads : List LoadName) (grants : List Grant) (number at slot : ℕ) (granted : ℕ → Option ℕ) (t : TileState) (grant : Grant) (i : ℕ) → IsSite world all loads grants number → IsStandingTile world grants number at slot loads granted t → (coming : IsComing grants slot (site_part world number loads) loads granted grant i) → IsRoom world.platform.partition_slots (site_part world number loads) granted t i coming.at.part
room_is world all loads grants number at slot granted t grant i site standing coming =
    let one = coming.at in
    let absent = coming.absent in
    let is = standing.tile in
    let part = one.part in
    let sound = part_sound world all loads grants number i part site one.part_is in
    let own : IsGranted world grants slot loads i (grant.start * world.platform.slot_cycles) = record {
      load = one.load;
      there = one.there;
      grant = grant;
      index = coming.index;
      granted = coming.there;
      label = one.label;
      stands = coming.stands;
      start_is = refl;
    } in
    let apart : (place s : ℕ) → granted place ≡ Some s → i ≢ place = λ place s begins e. none-some s (sym absent ∙ ap granted e ∙ begins) in
    let own_part : IsStandingPart world grants number slot loads i part = record { start = grant.start * world.platform.slot_cycles; granted = own; is = one.part_is } in
    let other_part : (place s : ℕ) (q : Part) → site_part world number loads place ≡ Some q → granted place ≡ Some s → IsStandingPart world grants number slot loads place q = λ place s q q_is begins.
    record { start = s; granted = standing.standing place s begins; is = q_is } in
    let disjoint : (place s : ℕ) (q : Part) → site_part world number loads place ≡ Some q → granted place ≡ Some s → AreDisjoint part q = λ place s q q_is begins.
    granted_disjoint world all loads grants number slot i place part q site (apart place s begins) own_part (other_part place s q q_is begins) in
    record {
      free = record {
        part_is = one.part_is;
        absent = absent;
        some = slots_some world part sound;
        fits = slots_fit world part sound;
        below = sound.slots_below;
        free = room_free world.platform.partition_slots (site_part world number loads) granted t part.slots standing.installed sound.slots_below (λ place q s slot q_is begins bit bit_q.
            let q_sound = part_sound world all loads grants number place q site q_is in
            (disjoint place s q q_is begins).slots slot (among part.slots slot (slots_fit world part sound) bit) (among q.slots slot (slots_fit world q q_sound) bit_q));
        owners = is.owners;
        places = is.places;
      };
      image = sound.image_fits;
      parted = λ place q s q_is begins.
          parted_at world all loads grants number slot i place part q site (apart place s begins) own_part (other_part place s q q_is begins);
    }
