-- The entries of a bundle in the slot tables of all tiles (dAElite): one for each claim of its channels, in
-- the order of the claims.
use Rattle.std.specs.Prelude.{ℕ, ◌+◌, ◌-◌, ◌%◌, ◌==◌, Bool, List, [], ◌∷◌, ◌++◌, filter, length, map, get_or}
use Rattle.std.specs.List.{flat_map}
use Rattle.std.specs.Option.{option_map_or}
use Rattle.platform_model.specs.declared.link.Link.{Link}
use Rattle.platform_model.specs.declared.platform.Platform.{Platform}
use Rattle.bundle_model.specs.declared.bundle.Bundle.{Bundle}
use Rattle.bundle_model.specs.declared.resource.Resource.{Resource}
use Rattle.bundle_model.specs.declared.resource.Resource.TheVariants.{Inject as InjectSlot, LinkSlot, Deliver as DeliverSlot}
use Rattle.bundle_model.specs.declared.world.World.{World}
use Rattle.bundle_model.specs.declared.world.Grant.{Grant}
use Rattle.bundle_model.specs.Ways.{Way, ways_of}
use Rattle.bundle_model.specs.Grants.{bundle_at}
use Rattle.tdm_network.specs.declared.entries.Source.{Source}
use Rattle.tdm_network.specs.declared.entries.Source.TheVariants.{Local, Input}
use Rattle.tdm_network.specs.declared.entries.TableEntry.{TableEntry}
use Rattle.tdm_network.specs.declared.entries.TableEntry.TheVariants.{Inject, Out, Deliver}

-- an entry, the tile whose tables hold it, and the resource that claims its place there
pub record Placed : Type 0 where
  pub tile : ℕ
  pub claim : Resource
  pub entry : TableEntry

-- the link of a number of the platform
abbrev pub link_of : Platform → ℕ → Link
link_of platform number = get_or platform.links number (record { from = 0; out = 0; to = 0; input = 0 })

-- The entries of the links of a path, of which a flit reaches the first in slot `at` and each next one a
-- slot later. The tile that a link leaves takes the flit from `source`: the first tile injects it, each next
-- one has it on the input at which the link before ends.
abbrev pub link_entries : Platform → ℕ → Source → List ℕ → List Placed
link_entries platform at source [] = []
link_entries platform at source (number ∷ rest) =
    let link = link_of platform number in
    let slot = at % platform.table_slots in
    record { tile = link.from; claim = LinkSlot number slot; entry = Out link.out slot source }
    ∷ link_entries platform (at + 1) (Input link.input) rest

-- the input at which the last link of a path ends
abbrev pub last_input : Platform → List ℕ → ℕ
last_input platform path = (link_of platform (get_or path (length path - 1) 0)).input

-- the entries of an injection slot of a channel: the injection, the links, the delivery
abbrev pub slot_entries : Platform → Way → ℕ → List Placed
slot_entries platform way slot =
    let due = (slot + length way.path) % platform.table_slots in
    record { tile = way.from.tile; claim = InjectSlot way.from.tile slot; entry = Inject slot way.from.port }
    ∷ link_entries platform (slot + 1) Local way.path
    ++ record {
      tile = way.to.tile;
      claim = DeliverSlot way.to.tile due;
      entry = Deliver due (last_input platform way.path) way.to.port;
    } ∷ []

-- the entries of a channel
abbrev pub way_entries : Platform → Way → List Placed
way_entries platform way = flat_map (slot_entries platform way) way.slots

-- the entries of a bundle
abbrev pub bundle_entries : Platform → Bundle → List Placed
bundle_entries platform bundle = flat_map (way_entries platform) (ways_of bundle)

-- the tile's tables hold the entry
abbrev pub is_on : ℕ → Placed → Bool
is_on tile placed = placed.tile == tile

-- those of the entries that a tile's tables hold
abbrev pub entries_on : ℕ → List Placed → List TableEntry
entries_on tile placed = map (λ p. p.entry) (filter (is_on tile) placed)

-- the entries of a grant in the tables of a tile
abbrev pub grant_entries : World → ℕ → Grant → List TableEntry
grant_entries world tile grant =
    option_map_or (λ bundle. entries_on tile (bundle_entries world.platform bundle)) (bundle_at world grant.bundle) []
