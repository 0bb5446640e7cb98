-- The rules B4 to B14 over the raw values of a bundle file, for a platform, and the least that is
-- broken. A rule is judged over the whole file.
use Rattle.std.specs.Prelude.{ℕ, ◌*◌, ◌==◌, ℤ, pos, ◌+ℤ◌, ◌-ℤ◌, nat_abs, Bool, false, true, not, ◌&&◌, ◌||◌, nat_le, nat_lt, int_le, int_lt, List, [], ◌∷◌, filter, length, slice_get, slice_index_or, if◌then◌else◌, Option, Some, None}
use Rattle.std.specs.List.{list_any, list_all, find}
use Rattle.std.specs.Option.{option_map_or}
use Rattle.std.specs.Ordering.{int_eq}
use Rattle.std.specs.Str.{bytes_eq}
use Rattle.platform_model.specs.Limits.{is_within, is_multiple}
use Rattle.soc_base.specs.Twins.{has_twin}
use Rattle.soc_base.specs.declared.limits.TheConstants.{MOST_ROWS, MOST_PATH, MOST_RESOURCES}
use Rattle.platform_model.specs.declared.link.Link.{Link}
use Rattle.platform_model.specs.declared.platform.Platform.{Platform}
use Rattle.trace_log.specs.Kinds.{kind_text}
use Rattle.trace_log.specs.declared.row.Kind.TheVariants.{Word, Send, Recv, Step}
use Rattle.bundle_model.specs.declared.raw.RawChannel.{RawChannel}
use Rattle.bundle_model.specs.declared.raw.RawPair.{RawPair}
use Rattle.bundle_model.specs.declared.raw.RawPart.{RawPart}
use Rattle.bundle_model.specs.declared.raw.RawBundle.{RawBundle}
use Rattle.bundle_model.specs.declared.resource.Resource.{Resource}
use Rattle.bundle_model.specs.declared.rules.BRule.{BRule}
use Rattle.bundle_model.specs.declared.rules.BRule.TheVariants.{B1, B2, B3, B4, B5, B6, B7, B8, B9, B10, B11, B12, B13, B14}
use Rattle.bundle_model.specs.Bundle.{bundle_of}
use Rattle.bundle_model.specs.Resources.{resources_of, is_same}

-- the list has no item
abbrev pub is_empty : {Item : Type 0} → List Item → Bool
is_empty items = length items == 0

-- the part stands on a tile of the platform
abbrev pub has_tile : Platform → RawPart → Bool
has_tile platform part = int_le (pos 0) part.tile && int_lt part.tile (pos platform.tiles)

-- two parts stand on one tile
abbrev pub shares_tile : RawPart → RawPart → Bool
shares_tile one other = int_eq one.tile other.tile

-- each number is below the next
abbrev pub ascends : List ℤ → Bool
ascends [] = true
ascends (number ∷ []) = true
ascends (number ∷ next ∷ rest) = int_lt number next && ascends (next ∷ rest)

-- a partition slot of the platform
abbrev pub is_slot : Platform → ℤ → Bool
is_slot platform slot = int_le (pos 0) slot && int_lt slot (pos platform.partition_slots)

-- the part has slots, and they are partition slots of the platform, ascending
abbrev pub has_slots : Platform → RawPart → Bool
has_slots platform part = not (is_empty part.slots) && list_all (is_slot platform) part.slots && ascends part.slots

-- the part's region lies in the tile's memory, and its base and length are multiples of 16
abbrev pub has_region : Platform → RawPart → Bool
has_region platform part =
    int_le (pos 0) part.base && is_multiple part.base (pos 16)
    && int_le (pos 16) part.len && is_multiple part.len (pos 16)
    && int_le (part.base +ℤ part.len) (pos platform.mem_bytes)

-- there is an image, and its bytes fit in so many
abbrev pub image_fits : ℤ → Option (List ℕ) → Bool
image_fits len None = false
image_fits len (Some words) = int_le (pos (4 * length words)) len

-- the part has an image, and it fits its region
abbrev pub has_image : RawPart → Bool
has_image part = image_fits part.len part.image

-- the part begins at a word of its region
abbrev pub has_entry : RawPart → Bool
has_entry part = is_within part.entry (pos 0) (part.len -ℤ pos 4) && is_multiple part.entry (pos 4)

-- the name is the word of a kind of rows
abbrev pub is_kind : List ℕ → Bool
is_kind name =
    bytes_eq name (kind_text Word) || bytes_eq name (kind_text Send)
    || bytes_eq name (kind_text Recv) || bytes_eq name (kind_text Step)

-- the part keeps no more rows than the most, of different kinds
abbrev pub has_trace : RawPart → Bool
has_trace part =
    is_within part.trace (pos 0) (pos MOST_ROWS) && list_all is_kind part.kinds && not (has_twin bytes_eq part.kinds)

-- a port of the network interfaces of the platform
abbrev pub is_port : Platform → ℤ → Bool
is_port platform port = int_le (pos 0) port && int_lt port (pos platform.ports)

-- the part's ports are ports of its tile, and all different
abbrev pub has_ports : Platform → RawPart → Bool
has_ports platform part = list_all (is_port platform) part.ports && not (has_twin int_eq part.ports)

-- the end of a pair is two numbers, and they are this tile and this port
abbrev pub is_end_at : ℤ → ℤ → List ℤ → Bool
is_end_at tile port (one ∷ other ∷ []) = int_eq one tile && int_eq other port
is_end_at tile port _ = false

-- the end is a port of the part
abbrev pub is_end_of : List ℤ → RawPart → Bool
is_end_of end part = list_any (λ port. is_end_at part.tile port end) part.ports

-- the end is a port of some part
abbrev pub is_held_end : List RawPart → List ℤ → Bool
is_held_end parts end = list_any (is_end_of end) parts

-- the tile that an end states
abbrev pub end_tile : List ℤ → ℤ
end_tile end = slice_index_or end 0 (pos 0)

-- the pair joins ports of parts, on two tiles
abbrev pub joins_parts : List RawPart → RawPair → Bool
joins_parts parts pair =
    is_held_end parts pair.a && is_held_end parts pair.b && not (int_eq (end_tile pair.a) (end_tile pair.b))

-- a port is an end of the pair
abbrev pub has_end : ℤ → ℤ → RawPair → Bool
has_end tile port pair = is_end_at tile port pair.a || is_end_at tile port pair.b

-- each port of the part is an end of exactly one pair
abbrev pub is_paired : List RawPair → RawPart → Bool
is_paired pairs part = list_all (λ port. length (filter (has_end part.tile port) pairs) == 1) part.ports

-- ports and pairs fit together
abbrev pub fits_together : Platform → RawBundle → Bool
fits_together platform raw =
    list_all (has_ports platform) raw.parts && list_all (joins_parts raw.parts) raw.pairs
    && list_all (is_paired raw.pairs) raw.parts

-- the link of the platform that a number names, if there is one
abbrev pub link_at : Platform → ℤ → Option Link
link_at platform number = if int_le (pos 0) number then slice_get platform.links (nat_abs number) else None

-- the links lead from one tile to another, each from where the one before ends
abbrev pub leads : Platform → ℕ → ℕ → List ℤ → Bool
leads platform from to [] = from == to
leads platform from to (number ∷ rest) =
    option_map_or (λ link. link.from == from && leads platform link.to to rest) (link_at platform number) false

-- a path from one tile to another: at least one link, at most the most, that lead there
abbrev pub is_path : Platform → ℕ → ℕ → List ℤ → Bool
is_path platform from to path =
    not (is_empty path) && nat_le (length path) MOST_PATH && leads platform from to path

-- a slot of the platform's slot tables
abbrev pub is_table_slot : Platform → ℤ → Bool
is_table_slot platform slot = int_le (pos 0) slot && int_lt slot (pos platform.table_slots)

-- the channel has a path from one tile to another, and injection slots, which are slots of the tables,
-- ascending
abbrev pub is_channel : Platform → ℕ → ℕ → RawChannel → Bool
is_channel platform from to channel =
    is_path platform from to channel.path && not (is_empty channel.slots)
    && list_all (is_table_slot platform) channel.slots && ascends channel.slots

-- both channels of the pair lead from its one tile to its other
abbrev pub has_channels : Platform → RawPair → Bool
has_channels platform pair =
    let a = nat_abs (end_tile pair.a) in
    let b = nat_abs (end_tile pair.b) in
    is_channel platform a b pair.there && is_channel platform b a pair.back

-- what the bundle that the raw values mean holds
abbrev pub raw_resources : Platform → RawBundle → List Resource
raw_resources platform raw = resources_of platform (bundle_of raw)

-- whether the raw values break a rule on the platform; B1 to B3 speak of the file alone
abbrev pub breaks : BRule → Platform → RawBundle → Bool
breaks B4 platform raw = not (int_eq raw.version (pos 1))
breaks B5 platform raw =
    is_empty raw.parts || not (list_all (has_tile platform) raw.parts) || has_twin shares_tile raw.parts
breaks B6 platform raw = not (list_all (has_slots platform) raw.parts)
breaks B7 platform raw = not (list_all (has_region platform) raw.parts)
breaks B8 platform raw = not (list_all has_image raw.parts)
breaks B9 platform raw = not (list_all has_entry raw.parts)
breaks B10 platform raw = not (list_all has_trace raw.parts)
breaks B11 platform raw = not (fits_together platform raw)
breaks B12 platform raw = not (list_all (has_channels platform) raw.pairs)
breaks B13 platform raw = has_twin is_same (raw_resources platform raw)
breaks B14 platform raw = nat_lt MOST_RESOURCES (length (raw_resources platform raw))
breaks B1 platform raw = false
breaks B2 platform raw = false
breaks B3 platform raw = false

-- the rules of the raw values, in their order
abbrev pub value_rules : List BRule
value_rules = B4 ∷ B5 ∷ B6 ∷ B7 ∷ B8 ∷ B9 ∷ B10 ∷ B11 ∷ B12 ∷ B13 ∷ B14 ∷ []

-- the least rule that the raw values break
abbrev pub first_rule : Platform → RawBundle → Option BRule
first_rule platform raw = find (λ rule. breaks rule platform raw) value_rules
