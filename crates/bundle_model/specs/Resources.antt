-- What a bundle holds of a platform, and which resources meet.
use Rattle.std.specs.Prelude.{ℕ, ◌+◌, ◌%◌, min, max, Bool, false, ◌&&◌, ◌||◌, ◌==◌, nat_lt, List, [], ◌∷◌, ◌++◌, map, length}
use Rattle.std.specs.List.{flat_map}
use Rattle.platform_model.specs.declared.platform.Platform.{Platform}
use Rattle.soc_base.specs.Slots.{slots_of}
use Rattle.bundle_model.specs.declared.bundle.Channel.{Channel}
use Rattle.bundle_model.specs.declared.bundle.Pair.{Pair}
use Rattle.bundle_model.specs.declared.bundle.Part.{Part}
use Rattle.bundle_model.specs.declared.bundle.Bundle.{Bundle}
use Rattle.bundle_model.specs.declared.resource.Resource.{Resource}
use Rattle.bundle_model.specs.declared.resource.Resource.TheVariants.{Partition, Span, Port, Inject, LinkSlot, Deliver}

-- what a part holds: its partition slots in ascending order, its region, its ports
abbrev pub part_resources : Part → List Resource
part_resources part =
    map (Partition part.tile) (slots_of part.slots)
    ++ Span part.tile part.region.base part.region.len ∷ map (Port part.tile) part.ports

-- the slots of the links of a path that a flit passes which reaches the first of them in slot `at`
-- and each next one a slot later, in tables of so many slots
abbrev pub link_claims : ℕ → ℕ → List ℕ → List Resource
link_claims table at [] = []
link_claims table at (link ∷ links) = LinkSlot link (at % table) ∷ link_claims table (at + 1) links

-- what an injection slot claims: the slot itself, a slot of each link of the path, one later each
-- time, and the slot of the delivery. In tables of 8 slots, slot 6 along the links 4, 2 and 9 claims
-- slot 7 of link 4, slot 0 of link 2, slot 1 of link 9, and is delivered in slot 1.
abbrev pub slot_claims : ℕ → ℕ → ℕ → List ℕ → ℕ → List Resource
slot_claims table from to path slot =
    Inject from slot ∷ link_claims table (slot + 1) path ++ Deliver to ((slot + length path) % table) ∷ []

-- what a channel claims from one tile to another, injection slot by injection slot
abbrev pub channel_claims : ℕ → ℕ → ℕ → Channel → List Resource
channel_claims table from to channel = flat_map (slot_claims table from to channel.path) channel.slots

-- what the channels of a pair claim, there and back
abbrev pub pair_resources : ℕ → Pair → List Resource
pair_resources table pair =
    channel_claims table pair.a.tile pair.b.tile pair.there ++ channel_claims table pair.b.tile pair.a.tile pair.back

-- what a bundle holds: what its parts hold, and then what its channel pairs claim, in the file's order
abbrev pub resources_of : Platform → Bundle → List Resource
resources_of platform bundle =
    flat_map part_resources bundle.parts ++ flat_map (pair_resources platform.table_slots) bundle.pairs

-- two resources are the same
abbrev pub is_same : Resource → Resource → Bool
is_same (Partition tile slot) (Partition other at) = tile == other && slot == at
is_same (Span tile base len) (Span other at size) = tile == other && base == at && len == size
is_same (Port tile port) (Port other at) = tile == other && port == at
is_same (Inject tile slot) (Inject other at) = tile == other && slot == at
is_same (LinkSlot link slot) (LinkSlot other at) = link == other && slot == at
is_same (Deliver tile slot) (Deliver other at) = tile == other && slot == at
is_same _ _ = false

-- two resources are spans of one tile that share a byte: the later first byte lies before the
-- earlier end
abbrev pub shares_byte : Resource → Resource → Bool
shares_byte (Span tile base len) (Span other at size) =
    tile == other && nat_lt (max base at) (min (base + len) (at + size))
shares_byte _ _ = false

-- two resources that two applications can't hold at one time
abbrev pub meets_of : Resource → Resource → Bool
meets_of a b = is_same a b || shares_byte a b
