-- The machine follows its grants: each tile holds its parts, each as it is alone, and each link carries what
-- flies on it alone.
use Rattle.std.proofs.Common.{◌≡◌, ℕ, ◌+◌, ◌<◌, List, slice_get, Option, Some, option_and_then, sym, subst, ap, ◌∙◌}
use Rattle.std.proofs.lemmas.Option.{option_and_then_some}
use Rattle.soc_base.specs.Port.{WordAndCredits, idle}
use Rattle.platform_model.specs.declared.link.Link.{Link}
use Rattle.bundle_model.specs.declared.bundle.Part.{Part}
use Rattle.bundle_model.specs.declared.world.World.{World}
use Rattle.bundle_model.specs.declared.world.LoadName.{LoadName}
use Rattle.bundle_model.specs.declared.world.Grant.{Grant}
use Rattle.bundle_model.specs.World.{same_label, part_on}
use Rattle.bundle_model.proofs.Laws.{found_place, same_so}
use Rattle.part_model.specs.Part.{PartState}
use Rattle.grant_tables.specs.Tables.{AreTabled}
use Rattle.grant_tables.specs.Law.{AreSound}
use Rattle.grant_tables.proofs.Laws.{deliveries_are_read, injects_are_read, tables_go_on}
use Rattle.tdm_network.specs.Rows.{injecting}
use Rattle.tdm_network.specs.Routing.{routed}
use Rattle.lockstep.specs.Lockstep.{Machine}
use Rattle.tile_core.specs.Tile.{TileState, load_part}
use Rattle.tile_core.specs.Cycle.{words_of}
use Rattle.tile_core.specs.Slot.{grant_of, with_grants, tile_slot}
use Rattle.tile_core.specs.Fit.{IsMadeFor, IsFit}
use Rattle.tile_core.specs.Views.{view_slot, views_slot, place_grant, slot_exchange}
use Rattle.tile_core.specs.Holds.{HoldsGranted}
use Rattle.tile_core.proofs.Laws.{IsSite, site_of, bundle_is, granted_alike, granted_tables, slot_goes_on, slot_holds}
use Rattle.event_core.proofs.Settled.{IsSettled}
use Rattle.event_core.proofs.Ports.{LinksCarry, inputs_on}
use Rattle.event_core.proofs.Views.{view_by, view_at}
use Rattle.event_core.proofs.Slots.{IsExchange, IsGrantOn, view_next}

-- a tile follows the grants, at the beginning of a slot
pub record FollowsOn (world : World) (loads : List LoadName) (grants : List Grant) (slot number : ℕ) (tile : TileState) : Type 0 where
  pub at : tile.at ≡ slot
  pub number_is : tile.number ≡ number
  pub made : IsMadeFor world loads tile
  pub fits : IsFit world grants tile
  pub holds : HoldsGranted world grants (view_at world grants slot tile) tile

-- and so does the machine
pub record Follows (world : World) (loads : List LoadName) (grants : List Grant) (slot : ℕ) (machine : Machine TileState WordAndCredits) : Type 0 where
  pub tiles : (number : ℕ) → number < world.platform.tiles → FollowsOn world loads grants slot number (machine.tile number)
  pub links : LinksCarry world grants slot machine.carried

-- what the loads, grants and number of a tile say
pub site_in : (world : World) (loads : List LoadName) (grants : List Grant) (slot number : ℕ) (tile : TileState) → IsSettled world loads grants → FollowsOn world loads grants slot number tile → IsSite world loads tile.loads grants tile.number
site_in world loads grants slot number tile so follows = site_of world loads grants tile so.sound so.apart so.of_loads follows.made

-- once the grants of its slot have ended and begun, it is still at the slot
pub ready_slot : (world : World) (loads : List LoadName) (grants : List Grant) (slot number : ℕ) (tile : TileState) → IsSettled world loads grants → FollowsOn world loads grants slot number tile → (with_grants world grants tile).at ≡ slot
ready_slot world loads grants slot number tile so follows = (granted_alike world loads grants tile so.sound.catalog follows.made).at ∙ follows.at

-- and its tables hold the entries of those that stand at the next
pub ready_sound : (world : World) (loads : List LoadName) (grants : List Grant) (slot number : ℕ) (tile : TileState) → IsSettled world loads grants → FollowsOn world loads grants slot number tile
    → AreSound world grants (slot + 1) number (with_grants world grants tile).tables
ready_sound world loads grants slot number tile so follows =
    let rows = (with_grants world grants tile).tables in
    let own : AreTabled world grants (tile.at + 1) tile.number rows = subst (AreTabled world grants (tile.at + 1) tile.number) (sym (granted_tables world loads grants tile so.sound.catalog follows.made)) (tables_go_on world grants tile.at tile.number tile.tables so.sound.catalog so.apart follows.fits.tables) in
    record {
      sound = so.sound.catalog;
      apart = so.apart;
      tabled = subst (λ n. AreTabled world grants (slot + 1) n rows) follows.number_is (subst (λ u. AreTabled world grants (u + 1) tile.number rows) follows.at own);
    }

-- what a tile holds goes by the views of its parts alone
granted_by : (world : World) (grants : List Grant) (view other : ℕ → PartState) (tile : TileState) → ((place : ℕ) (part : Part) → load_part world tile place ≡ Some part → other place ≡ view place) → HoldsGranted world grants view tile → HoldsGranted world grants other tile
granted_by world grants view other tile same held =
    let h = held.holds in
    record {
      starts = held.starts;
      holds = record {
        frame = h.frame;
        whole = h.whole;
        step = h.step;
        turn = h.turn;
        installed = h.installed;
        inside = h.inside;
        own = h.own;
        here = λ place part start is begins.
            let one = h.here place part start is begins in
            let seen = sym (same place part is) in
            record { words = one.words ∙ ap (λ (s : PartState). words_of s) seen; bytes = one.bytes ∙ ap (λ (s : PartState). s.bytes) seen; ports = one.ports ∙ ap (λ (s : PartState). s.ports) seen; start_is = one.start_is };
        logs = λ place part is.
            let one = h.logs place part is in
            record { inside = one.inside; is = one.is ∙ ap (λ (s : PartState). s.log) (sym (same place part is)) };
      };
    }

-- what a place is told by: the grant of its load, and its part
abbrev part_in : World → ℕ → List LoadName → ℕ → Option Part
part_in world number loads place = option_and_then (λ load. part_on world number load.bundle) (slice_get loads place)

abbrev view_in : World → List Grant → ℕ → ℕ → List LoadName → ℕ → PartState
view_in world grants slot number loads place = view_by world slot number (option_and_then (λ load. grant_of grants load.label) (slice_get loads place)) (part_in world number loads place)

parts_same : (world : World) (t after : TileState) (place : ℕ) → after.number ≡ t.number → after.loads ≡ t.loads → load_part world after place ≡ load_part world t place
parts_same world t after place number loads =
    ap (λ (ls : List LoadName). part_in world after.number ls place) loads ∙ ap (λ n. part_in world n t.loads place) number

places_same : (world : World) (grants : List Grant) (slot : ℕ) (t after : TileState) (place : ℕ) → after.number ≡ t.number → after.loads ≡ t.loads → view_at world grants slot after place ≡ view_at world grants slot t place
places_same world grants slot t after place number loads =
    ap (λ (ls : List LoadName). view_in world grants slot after.number ls place) loads
    ∙ ap (λ n. view_in world grants slot n t.loads place) number

-- the grant of the load at a place is of the bundle of the part there
pub grant_on : (world : World) (loads : List LoadName) (grants : List Grant) (tile : TileState) (place : ℕ) (part : Part) (grant : Grant) → IsSite world loads tile.loads grants tile.number → load_part world tile place ≡ Some part → place_grant grants tile place ≡ Some grant → IsGrantOn world grants tile.number part grant
grant_on world loads grants tile place part grant site is granted =
    option_and_then_some (λ (load : LoadName). part_on world tile.number load.bundle) (slice_get tile.loads place) part is (λ load there on.
    let of_load : grant_of grants load.label ≡ Some grant = sym (ap (option_and_then (λ (l : LoadName). grant_of grants l.label)) there) ∙ granted in
    let found = found_place (λ (g : Grant). same_label g.label load.label) grants grant of_load in
    let bundle = bundle_is world loads tile.loads grants tile.number place found.0 load grant site there found.1 (same_so grant.label load.label found.2) in
    record { index = found.0; granted = found.1; on = ap (part_on world tile.number) bundle ∙ on })

-- what the network does on the tile, by its own slot and number
own_exchange : (world : World) (loads : List LoadName) (grants : List Grant) (tile : TileState) (carried : Link → WordAndCredits) → IsSettled world loads grants → FollowsOn world loads grants tile.at tile.number tile
    → IsExchange world grants tile.at tile.number carried (slot_exchange world grants (inputs_on world carried tile.number) tile)
own_exchange world loads grants tile carried so follows =
    let rows = (with_grants world grants tile).tables in
    let inputs = inputs_on world carried tile.number in
    let sound = ready_sound world loads grants tile.at tile.number tile so follows in
    record {
      rows = rows;
      injects = injects_are_read world grants (tile.at + 1) tile.number rows tile.at sound;
      deliveries = deliveries_are_read world grants (tile.at + 1) tile.number rows tile.at inputs idle sound;
      sends = ap (λ rs. injecting rs tile.at) (sym (granted_tables world loads grants tile so.sound.catalog follows.made));
      receives = ap (λ rs. (routed rs tile.at inputs idle).deliver) (sym (granted_tables world loads grants tile so.sound.catalog follows.made));
    }

-- over its slot
own_next : (world : World) (loads : List LoadName) (grants : List Grant) (tile : TileState) (carried : Link → WordAndCredits) → IsSettled world loads grants → FollowsOn world loads grants tile.at tile.number tile → LinksCarry world grants tile.at carried
    → FollowsOn world loads grants (tile.at + 1) tile.number (tile_slot world grants (inputs_on world carried tile.number) tile)
own_next world loads grants tile carried so follows links =
    let inputs = inputs_on world carried tile.number in
    let after = tile_slot world grants inputs tile in
    let view = view_at world grants tile.at tile in
    let exchange = slot_exchange world grants inputs tile in
    let gone = slot_goes_on world loads grants inputs tile so.sound so.apart so.of_loads follows.made follows.fits in
    let done = slot_holds world loads grants inputs view tile so.sound so.apart so.of_loads follows.made follows.holds in
    let site = site_in world loads grants tile.at tile.number tile so follows in
    let network = own_exchange world loads grants tile carried so follows in
    record {
      at = gone.at;
      number_is = gone.number_same;
      made = gone.made;
      fits = gone.fits;
      holds = granted_by world grants (views_slot world grants inputs tile view) (view_at world grants (tile.at + 1) after) after (λ place part there.
          let was : load_part world tile place ≡ Some part = sym (parts_same world tile after place gone.number_same gone.loads_same) ∙ there in
          let grant = place_grant grants tile place in
          let P : Option Part → Type 0 = λ p. view_by world (tile.at + 1) tile.number grant p ≡ view_slot world tile.at exchange grant p (view_by world tile.at tile.number grant p) in
          places_same world grants (tile.at + 1) tile after place gone.number_same gone.loads_same
          ∙ subst P (sym was) (sym (view_next world grants tile.at so.apart so.sound.catalog carried links tile.number part grant exchange network (λ g is. grant_on world loads grants tile place part g site was is)))) done;
    }

pub tile_next : (world : World) (loads : List LoadName) (grants : List Grant) (slot number : ℕ) (tile : TileState) (carried : Link → WordAndCredits) → IsSettled world loads grants → FollowsOn world loads grants slot number tile → LinksCarry world grants slot carried
    → FollowsOn world loads grants (slot + 1) number (tile_slot world grants (inputs_on world carried number) tile)
tile_next world loads grants slot number tile carried so follows links =
    let at_own = subst (λ u. FollowsOn world loads grants u number tile) (sym follows.at) follows in
    let own = subst (λ n. FollowsOn world loads grants tile.at n tile) (sym follows.number_is) at_own in
    let links_own = subst (λ u. LinksCarry world grants u carried) (sym follows.at) links in
    let next = own_next world loads grants tile carried so own links_own in
    let numbered = subst (λ n. FollowsOn world loads grants (tile.at + 1) n (tile_slot world grants (inputs_on world carried n) tile)) follows.number_is next in
    subst (λ u. FollowsOn world loads grants (u + 1) number (tile_slot world grants (inputs_on world carried number) tile)) follows.at numbered
