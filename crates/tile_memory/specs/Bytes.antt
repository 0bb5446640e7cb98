-- A tile's memory as the list of its bytes, and the regions that parts see. Numbers are little-endian.
use Rattle.std.specs.Prelude.{ℕ, ◌+◌, ◌-◌, ◌*◌, ◌%◌, ◌≤◌, ◌==◌, List, ◌++◌, length, take, drop, replicate, nat_lt, nat_le, not, if◌then◌else◌, Option, Some, None, Result, Ok, Err}
use Rattle.std.specs.List.{flat_map}
use Rattle.byteorder.specs.Endian.{little_number, little_bytes}
use Rattle.soc_base.specs.declared.region.Region.{Region}
use Rattle.soc_base.specs.declared.region.Width.{Width}
use Rattle.soc_base.specs.Widths.{width_bytes}
use Rattle.tile_memory.specs.declared.memory.MemFault.{MemFault}
use Rattle.tile_memory.specs.declared.memory.MemFault.TheVariants.{Align, Outside}

-- the region lies in the memory
abbrev pub IsInside : List ℕ → Region → Type 0
IsInside memory region = region.base + region.len ≤ length memory

-- the bytes of a region, the first of which is its address 0
abbrev pub region_bytes : List ℕ → Region → List ℕ
region_bytes memory region = take region.len (drop region.base memory)

-- the memory with other bytes in a region
abbrev pub with_region : List ℕ → Region → List ℕ → List ℕ
with_region memory region bytes = take region.base memory ++ (bytes ++ drop (region.base + region.len) memory)

-- a region of so many bytes that begins with the words of an image and goes on with zeros
abbrev pub filled_bytes : ℕ → List ℕ → List ℕ
filled_bytes len image = flat_map (little_bytes 4) image ++ replicate (len - 4 * length image) 0

-- why an access to a region of so many bytes is refused, if it is
abbrev pub refusal_of : ℕ → ℕ → Width → Option MemFault
refusal_of len addr width =
    if not (addr % width_bytes width == 0) then Some Align
    else if nat_lt len (addr + width_bytes width) then Some Outside
    else None

-- the answer of an access: a value, or why it was refused
abbrev pub answered : {T : Type 0} → Option MemFault → T → Result T MemFault
answered None value = Ok value
answered (Some fault) value = Err fault

-- what a load from a region answers: the number at its address
abbrev pub load_of : List ℕ → ℕ → Width → Result ℕ MemFault
load_of bytes addr width =
    answered (refusal_of (length bytes) addr width) (little_number (width_bytes width) (drop addr bytes))

-- the word at an address of a region, whatever the address is a multiple of; none where its four bytes
-- aren't all there
abbrev pub fetch_of : List ℕ → ℕ → Option ℕ
fetch_of bytes addr = if nat_le (addr + 4) (length bytes) then Some (little_number 4 (drop addr bytes)) else None

-- what a store to a region answers
abbrev pub store_answer_of : List ℕ → ℕ → Width → Result Unit MemFault
store_answer_of bytes addr width = answered (refusal_of (length bytes) addr width) tt

-- what a store that isn't refused leaves in a region: the low bytes of the value at its address
abbrev pub stored_bytes : List ℕ → ℕ → Width → ℕ → List ℕ
stored_bytes bytes addr width value =
    take addr bytes ++ (little_bytes (width_bytes width) value ++ drop (addr + width_bytes width) bytes)

-- the memory after such a store to a region
abbrev pub stored_memory : List ℕ → Region → ℕ → Width → ℕ → List ℕ
stored_memory memory region addr width value =
    with_region memory region (stored_bytes (region_bytes memory region) addr width value)

-- the word whose first byte is byte 4 * index
abbrev pub word_of : List ℕ → ℕ → ℕ
word_of memory index = little_number 4 (drop (4 * index) memory)
