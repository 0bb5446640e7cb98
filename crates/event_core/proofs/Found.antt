-- What a tile that follows the grants keeps of one of them.
use Rattle.std.proofs.Common.{◌≡◌, ℕ, ◌*◌, Bool, true, false, cond, List, slice_get, Some, None, option_map, option_and_then, refl, ap, ap₂, ◌∙◌}
use Rattle.bundle_model.specs.declared.bundle.Part.{Part}
use Rattle.bundle_model.specs.declared.world.World.{World}
use Rattle.bundle_model.specs.declared.world.LoadName.{LoadName}
use Rattle.bundle_model.specs.declared.world.Grant.{Grant}
use Rattle.bundle_model.specs.Grants.{stands_at}
use Rattle.bundle_model.specs.World.{part_on}
use Rattle.part_model.specs.Part.{PartState}
use Rattle.tile_core.specs.Tile.{TileState, load_place, load_part, log_of, state_of}
use Rattle.tile_core.specs.Slot.{grant_of}
use Rattle.tile_core.specs.Fit.{granted_cycle, granted_from}
use Rattle.tile_core.specs.Views.{place_grant}
use Rattle.tile_core.proofs.Laws.{own_grant, if_stands, standing_is, place_is, grant_place, no_grant_place, log_found, state_found, state_none}
use Rattle.event_core.proofs.Settled.{IsSettled}
use Rattle.event_core.proofs.Views.{view_by, view_at}
use Rattle.event_core.proofs.Follows.{FollowsOn, site_in}

abbrev load_of : Grant → LoadName
load_of grant = record { label = grant.label; bundle = grant.bundle }

-- the place of a grant's load on a tile, where its bundle has a part there
record IsThere (world : World) (grants : List Grant) (slot : ℕ) (grant : Grant) (part : Part) (tile : TileState) : Type 0 where
  place : ℕ
  placed : load_place tile grant.label ≡ Some place
  part_is : load_part world tile place ≡ Some part
  grant_is : place_grant grants tile place ≡ Some grant
  granted : granted_from world grants tile.at tile place ≡ cond (stands_at slot grant) (Some (grant.start * world.platform.slot_cycles)) None

-- the cycle from which on a grant is installed, where it stands
start_if : (world : World) (grant : Grant) (stands : Bool) → option_map (λ (g : Grant). g.start * world.platform.slot_cycles) (cond stands (Some grant) None) ≡ cond stands (Some (grant.start * world.platform.slot_cycles)) None
start_if world grant true = refl
start_if world grant false = refl

there : (world : World) (loads : List LoadName) (grants : List Grant) (at slot number : ℕ) (grant : Grant) (part : Part) (tile : TileState) → IsSettled world loads grants → slice_get grants at ≡ Some grant → FollowsOn world loads grants slot number tile → part_on world tile.number grant.bundle ≡ Some part → IsThere world grants slot grant part tile
there world loads grants at slot number grant part tile so at_grant follows on =
    let site = site_in world loads grants slot number tile so follows in
    let place = grant_place world loads grants tile at grant part site at_grant on in
    let own = own_grant world loads tile.loads grants tile.number at grant grant.label site at_grant refl in
    record {
      place = place.0;
      placed = place_is world loads grants tile place.0 (load_of grant) grant.label site place.1 refl;
      part_is = ap (option_and_then (λ (l : LoadName). part_on world tile.number l.bundle)) place.1 ∙ on;
      grant_is = ap (option_and_then (λ (l : LoadName). grant_of grants l.label)) place.1 ∙ own;
      granted =
          ap (λ u. granted_from world grants u tile place.0) follows.at
          ∙ ap (option_and_then (granted_cycle world grants slot)) place.1
          ∙ ap (option_map (λ (g : Grant). g.start * world.platform.slot_cycles)) (standing_is slot grant.label grants so.apart.labelled ∙ ap (if_stands slot) own)
          ∙ start_if world grant (stands_at slot grant);
    }

-- what the tile keeps of a grant with a part there
pub record IsFound (world : World) (grant : Grant) (slot : ℕ) (part : Part) (tile : TileState) : Type 0 where
  pub log : log_of tile grant.label ≡ Some (view_by world slot tile.number (Some grant) (Some part)).log
  pub present : stands_at slot grant ≡ true → state_of world tile grant.label ≡ Some (view_by world slot tile.number (Some grant) (Some part))
  pub absent : stands_at slot grant ≡ false → state_of world tile grant.label ≡ None

pub tile_found : (world : World) (loads : List LoadName) (grants : List Grant) (at slot number : ℕ) (grant : Grant) (part : Part) (tile : TileState) → IsSettled world loads grants → slice_get grants at ≡ Some grant → FollowsOn world loads grants slot number tile → part_on world tile.number grant.bundle ≡ Some part → IsFound world grant slot part tile
tile_found world loads grants at slot number grant part tile so at_grant follows on =
    let is = there world loads grants at slot number grant part tile so at_grant follows on in
    let start = grant.start * world.platform.slot_cycles in
    let view = view_at world grants slot tile in
    let seen : view is.place ≡ view_by world slot tile.number (Some grant) (Some part) = ap₂ (view_by world slot tile.number) is.grant_is is.part_is in
    record {
      log = log_found world grants view tile is.place grant.label part follows.holds is.placed is.part_is ∙ ap (λ (s : PartState). Some s.log) seen;
      present = λ stands.
          state_found world grants view tile is.place start grant.label part follows.holds is.placed is.part_is (is.granted ∙ ap (λ b. cond b (Some start) None) stands)
          ∙ ap (λ (s : PartState). Some s) seen;
      absent = λ stays.
          state_none world grants view tile is.place grant.label part follows.holds is.placed is.part_is (is.granted ∙ ap (λ b. cond b (Some start) None) stays);
    }

-- a grant without a part on the tile has no place there
pub no_site : (world : World) (loads : List LoadName) (grants : List Grant) (at slot number : ℕ) (grant : Grant) (tile : TileState) → IsSettled world loads grants → slice_get grants at ≡ Some grant → FollowsOn world loads grants slot number tile → part_on world tile.number grant.bundle ≡ None → load_place tile grant.label ≡ None
no_site world loads grants at slot number grant tile so at_grant follows none =
    no_grant_place world loads grants tile at grant (site_in world loads grants slot number tile so follows) at_grant none
