-- The laws of slot tables under grants: they hold the entries of the standing grants from the first slot on,
-- and what is looked up in them is what the channels of those grants claim.
use Rattle.std.specs.Prelude.{◌≡◌, ℕ, zero, suc, ◌+◌, ◌%◌, ◌⊎◌, List, get_or, slice_get, Some}
use Rattle.soc_base.specs.Port.{WordAndCredits, idle}
use Rattle.platform_model.specs.declared.link.Link.{Link}
use Rattle.platform_model.specs.declared.platform.Platform.{Platform}
use Rattle.bundle_model.specs.declared.world.World.{World}
use Rattle.bundle_model.specs.declared.world.Grant.{Grant}
use Rattle.bundle_model.specs.Grants.{IsApart}
use Rattle.bundle_model.specs.World.{IsSoundCatalog}
use Rattle.tdm_network.specs.declared.entries.Source.{Source}
use Rattle.tdm_network.specs.declared.entries.Source.TheVariants.{Local, Input}
use Rattle.tdm_network.specs.declared.rows.Row.{Row}
use Rattle.tdm_network.specs.declared.routing.Delivery.{Delivery}
use Rattle.tdm_network.specs.Rows.{free_rows, injecting}
use Rattle.tdm_network.specs.Routing.{from_source, routed}
use Rattle.grant_tables.specs.Entries.{link_of, last_input}
use Rattle.grant_tables.specs.Tables.{tables_after, AreTabled}
use Rattle.grant_tables.specs.Claims.{Departure, Passage, Arrival}

-- Before the first slot the tables are free, and no grant stands.
abbrev pub TablesBegin : Type 0
TablesBegin = (world : World) (grants : List Grant) (tile : ℕ) → AreTabled world grants 0 tile (free_rows world.platform.table_slots)

-- Once the grants of a slot have ended and begun, they hold the entries of those that stand at the next.
abbrev pub TablesGoOn : Type 0
TablesGoOn = (world : World) (grants : List Grant) (slot tile : ℕ) (rows : List Row) → IsSoundCatalog world
    → IsApart world grants → AreTabled world grants slot tile rows
    → AreTabled world grants (slot + 1) tile (tables_after world tile grants slot rows)

-- tables of a tile of a sound world that hold the entries of the grants that stand at slot `now`
pub record AreSound (world : World) (grants : List Grant) (now tile : ℕ) (rows : List Row) : Type 0 where
  pub sound : IsSoundCatalog world
  pub apart : IsApart world grants
  pub tabled : AreTabled world grants now tile rows

-- Where a channel of a standing grant injects in a slot, its port is named; and a port that is named is one
-- such.
pub record InjectsAre (world : World) (grants : List Grant) (now tile : ℕ) (rows : List Row) (slot : ℕ) : Type 0 where
  pub told : (d : Departure world grants now (slot % world.platform.table_slots) tile)
      → injecting rows slot ≡ Some d.injection.way.from.port
  pub known : (port : ℕ) → injecting rows slot ≡ Some port
      → (d : Departure world grants now (slot % world.platform.table_slots) tile)
      × (d.injection.way.from.port ≡ port)

-- where a link of a path has its flit from: the first from its tile, each next one from the link before
abbrev pub source_of : Platform → List ℕ → ℕ → Source
source_of platform path zero = Local
source_of platform path (suc hop) = Input (link_of platform (get_or path hop 0)).input

-- A link that leaves the tile gets, for the slot after, the flit that the passage of a standing grant brings,
-- and where it gets none of these it is idle.
pub record OutputsAre (world : World) (grants : List Grant) (now tile : ℕ) (rows : List Row) (slot : ℕ)
    (inputs : List WordAndCredits) (injected : WordAndCredits) : Type 0 where
  pub told : (number : ℕ) (link : Link) → slice_get world.platform.links number ≡ Some link → link.from ≡ tile
      → (p : Passage world grants now ((slot + 1) % world.platform.table_slots) number)
      → get_or (routed rows slot inputs injected).links link.out idle
      ≡ from_source inputs injected (source_of world.platform p.injection.way.path p.hop)
  pub known : (number : ℕ) (link : Link) → slice_get world.platform.links number ≡ Some link → link.from ≡ tile
      → Passage world grants now ((slot + 1) % world.platform.table_slots) number
      ⊎ (get_or (routed rows slot inputs injected).links link.out idle ≡ idle)

-- the flit of a channel that ends at the tile, on the input at which the last link of its path ends
abbrev pub arriving : (world : World) (grants : List Grant) (now row tile : ℕ) → List WordAndCredits
    → Arrival world grants now row tile → Delivery
arriving world grants now row tile inputs a = record {
  port = a.injection.way.to.port;
  flit = get_or inputs (last_input world.platform a.injection.way.path) idle;
}

-- Where a channel of a standing grant ends at the tile in a slot, its flit is delivered; and what is
-- delivered is one such.
pub record DeliveriesAre (world : World) (grants : List Grant) (now tile : ℕ) (rows : List Row) (slot : ℕ)
    (inputs : List WordAndCredits) (injected : WordAndCredits) : Type 0 where
  pub told : (a : Arrival world grants now (slot % world.platform.table_slots) tile)
      → (routed rows slot inputs injected).deliver
      ≡ Some (arriving world grants now (slot % world.platform.table_slots) tile inputs a)
  pub known : (delivery : Delivery) → (routed rows slot inputs injected).deliver ≡ Some delivery
      → (a : Arrival world grants now (slot % world.platform.table_slots) tile)
      × (arriving world grants now (slot % world.platform.table_slots) tile inputs a ≡ delivery)

-- the port that injects, as sound tables tell it, is that of the channel of a standing grant which claims it
abbrev pub InjectsAreRead : Type 0
InjectsAreRead = (world : World) (grants : List Grant) (now tile : ℕ) (rows : List Row) (slot : ℕ)
    → AreSound world grants now tile rows → InjectsAre world grants now tile rows slot

-- likewise what each output carries in the slot after
abbrev pub OutputsAreRead : Type 0
OutputsAreRead = (world : World) (grants : List Grant) (now tile : ℕ) (rows : List Row) (slot : ℕ)
    (inputs : List WordAndCredits) (injected : WordAndCredits) → AreSound world grants now tile rows
    → OutputsAre world grants now tile rows slot inputs injected

-- and likewise what is delivered
abbrev pub DeliveriesAreRead : Type 0
DeliveriesAreRead = (world : World) (grants : List Grant) (now tile : ℕ) (rows : List Row) (slot : ℕ)
    (inputs : List WordAndCredits) (injected : WordAndCredits) → AreSound world grants now tile rows
    → DeliveriesAre world grants now tile rows slot inputs injected
