-- What the links between the tiles carry, and what is delivered, where all tiles are in step.
use Rattle.std.specs.Prelude.{◌≡◌, ℕ, ◌+◌, ◌%◌, ◌<◌, ◌≤◌, List, length, slice_get, Option, Some}
use Rattle.soc_base.specs.Port.{WordAndCredits, idle}
use Rattle.platform_model.specs.declared.link.Link.{Link}
use Rattle.bundle_model.specs.declared.world.World.{World}
use Rattle.bundle_model.specs.declared.world.LoadName.{LoadName}
use Rattle.bundle_model.specs.declared.world.Grant.{Grant}
use Rattle.bundle_model.specs.Grants.{IsApart}
use Rattle.bundle_model.specs.World.{IsSoundWorld, AreOfLoads}
use Rattle.tdm_network.specs.declared.routing.Delivery.{Delivery}
use Rattle.grant_tables.specs.Claims.{Injection, Passage, Arrival}
use Rattle.alone_model.specs.Network.{flit_on}
use Rattle.alone_model.specs.App.{alone_at}
use Rattle.lockstep.specs.Lockstep.{inputs_of}
use Rattle.tile_core.specs.Tile.{TileState}
use Rattle.tile_core.specs.Slot.{with_grants, injected_flit, traffic}
use Rattle.tile_core.specs.Lockstep.{machine_at}

-- the flit of a standing grant's application alone on the link that it passes, at the beginning of a slot
abbrev pub passing : (world : World) (grants : List Grant) (slot row link : ℕ) → Passage world grants slot row link
    → WordAndCredits
passing world grants slot row link p =
    let x = p.injection in
    flit_on (alone_at world.platform x.holder.bundle x.holder.grant.start slot).flying slot x.number p.hop

-- What a link carries at the beginning of a slot: the flit of the standing grant that claims it for the
-- slot, as in its application alone; where none claims it, it is idle.
pub record LinkFollows (world : World) (grants : List Grant) (slot number : ℕ) (flit : WordAndCredits) : Type 0 where
  pub claimed : (p : Passage world grants slot (slot % world.platform.table_slots) number)
      → flit ≡ passing world grants slot (slot % world.platform.table_slots) number p
  pub free : (Passage world grants slot (slot % world.platform.table_slots) number → ⊥) → flit ≡ idle

-- Each link does, in every slot in which all tiles are in step.
abbrev pub LinksFollow : Type 0
LinksFollow =
    (world : World) (loads : List LoadName) (grants : List Grant) (slot number : ℕ) (link : Link)
    → IsSoundWorld world loads → IsApart world grants → AreOfLoads loads grants
    → slice_get world.platform.links number ≡ Some link
    → LinkFollows world grants slot number ((machine_at world loads grants slot).carried link)

-- a tile in a slot, once the grants of the slot have ended and begun
abbrev pub ready_at : World → List LoadName → List Grant → ℕ → ℕ → TileState
ready_at world loads grants slot tile = with_grants world grants ((machine_at world loads grants slot).tile tile)

-- what is delivered on a tile at the end of a slot
abbrev pub delivered_at : World → List LoadName → List Grant → ℕ → ℕ → Option Delivery
delivered_at world loads grants slot tile =
    let flits = inputs_of idle world.platform.links (machine_at world loads grants slot).carried tile in
    (traffic flits (ready_at world loads grants slot tile)).deliver

-- the flit that a tile injects in a slot
abbrev pub injected_at : World → List LoadName → List Grant → ℕ → ℕ → WordAndCredits
injected_at world loads grants slot tile = injected_flit (ready_at world loads grants slot tile)

-- Hop by hop equals delay: what a channel of h links injects in slot `since` is delivered to the port at
-- which it ends at the end of slot `since + h`, where its grant stands then.
abbrev pub HopsAreDelay : Type 0
HopsAreDelay =
    (world : World) (loads : List LoadName) (grants : List Grant) (since slot : ℕ)
    (x : Injection world grants (slot + 1)) → IsSoundWorld world loads → IsApart world grants
    → AreOfLoads loads grants → since + length x.way.path ≡ slot → x.holder.grant.start ≤ since
    → x.slot ≡ since % world.platform.table_slots
    → delivered_at world loads grants slot x.way.to.tile
    ≡ Some (record { port = x.way.to.port; flit = injected_at world loads grants since x.way.from.tile })

-- What is delivered on a tile is the flit of a channel of a standing grant that ends there: the one that it
-- injected as many slots before as its path has links; idle where the grant hadn't begun then.
pub record IsOwnDelivery (world : World) (loads : List LoadName) (grants : List Grant) (slot tile : ℕ)
    (delivery : Delivery) : Type 0 where
  pub arrival : Arrival world grants (slot + 1) (slot % world.platform.table_slots) tile
  pub port : arrival.injection.way.to.port ≡ delivery.port
  pub own : (since : ℕ) → since + length arrival.injection.way.path ≡ slot
      → arrival.injection.holder.grant.start ≤ since
      → delivery.flit ≡ injected_at world loads grants since arrival.injection.way.from.tile
  pub none : slot < arrival.injection.holder.grant.start + length arrival.injection.way.path
      → delivery.flit ≡ idle

-- Nothing else is ever delivered.
abbrev pub NothingElseArrives : Type 0
NothingElseArrives =
    (world : World) (loads : List LoadName) (grants : List Grant) (slot tile : ℕ) (delivery : Delivery)
    → IsSoundWorld world loads → IsApart world grants → AreOfLoads loads grants → tile < world.platform.tiles
    → delivered_at world loads grants slot tile ≡ Some delivery
    → IsOwnDelivery world loads grants slot tile delivery
