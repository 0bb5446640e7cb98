-- The platform file and the bundle files of a workload, as the documents that they are.
use Rattle.std.specs.Prelude.{ℕ, ◌+◌, ◌-◌, ◌*◌, ◌%◌, ◌^◌, List, [], ◌∷◌, ◌++◌, codes, map, pos}
use Rattle.std.specs.List.{flat_map, range_with_len}
use Rattle.toml.specs.Data.{Data, Members, no_members, member, string, integer, array, table}
use Rattle.toml.specs.View.{items_of}
use Rattle.hex.specs.Hex.{encode_lower}
use Rattle.byteorder.specs.Endian.{little_bytes}
use Rattle.workload.specs.declared.drawn.Drawn.{Drawn}

-- a table with these keys, which are in the order of their bytes
abbrev pub with_keys : List (List ℕ × Data) → Members
with_keys [] = no_members
with_keys (entry ∷ entries) = member entry.0 entry.1 (with_keys entries)

-- a number as the value of a key
abbrev pub number : ℕ → Data
number value = integer (pos value)

-- numbers as the value of a key
abbrev pub numbers : List ℕ → Data
numbers values = array (items_of (map number values))

-- tables as the value of a key
abbrev pub tables : List Members → Data
tables all = array (items_of (map table all))

-- a link between two tiles of which the second is the next on the ring
abbrev pub link_table : ℕ → ℕ → ℕ → Members
link_table from to side = with_keys (
    (codes "from", number from)
    ∷ (codes "input", number side)
    ∷ (codes "out", number side)
    ∷ (codes "to", number to)
    ∷ [])

-- the links of the ring of 16 tiles: those to the next tile, and then those back
abbrev pub ring_links : List Members
ring_links =
    map (λ tile. link_table tile ((tile + 1) % 16) 0) (range_with_len 0 16)
    ++ map (λ tile. link_table ((tile + 1) % 16) tile 1) (range_with_len 0 16)

-- the platform, a ring of 16 tiles
unfoldable pub platform_document : Members
platform_document = with_keys (
    (codes "kernel_cycles", number 72)
    ∷ (codes "link", tables ring_links)
    ∷ (codes "mem_bytes", number 4096)
    ∷ (codes "partition_cycles", number 56)
    ∷ (codes "partition_slots", number 4)
    ∷ (codes "ports", number 4)
    ∷ (codes "queue", number 4)
    ∷ (codes "slot_cycles", number 8)
    ∷ (codes "table_slots", number 8)
    ∷ (codes "tiles", number 16)
    ∷ [])

-- the program of a bundle's first part: it sends so many words and ends with the number of its session
abbrev pub sending_words : ℕ → ℕ → List ℕ
sending_words session count =
    -- lui x6, 0x80000
    2147484471
    -- addi x5, x0, count
    ∷ (count * 2 ^ 20 + 659)
    -- sw x5, 256(x6)
    ∷ 273883171
    -- addi x5, x5, -1
    ∷ 4294083219
    -- bne x5, x0, -8
    ∷ 4261584099
    -- addi x10, x0, session
    ∷ (session * 2 ^ 20 + 1299)
    -- ecall
    ∷ 115
    ∷ []

-- the program of its second part: it receives as many words and traces each
abbrev pub receiving_words : ℕ → List ℕ
receiving_words count =
    -- lui x6, 0x80000
    2147484471
    -- addi x5, x0, count
    ∷ (count * 2 ^ 20 + 659)
    -- lw x7, 260(x6)
    ∷ 272835459
    -- sw x7, 0(x6)
    ∷ 7544867
    -- addi x5, x5, -1
    ∷ 4294083219
    -- bne x5, x0, -12
    ∷ 4261583587
    -- ecall
    ∷ 115
    ∷ []

-- the text of an image: its bytes in hexadecimal digits, each word's lowest byte first
abbrev pub image_text : List ℕ → List ℕ
image_text words = encode_lower (flat_map (little_bytes 4) words)

-- a part on a tile, with the rows of one kind traced. Its partition slot gives its region and its port too.
abbrev pub part_table : ℕ → ℕ → List ℕ → List ℕ → Members
part_table tile slot kind words = with_keys (
    (codes "base", number (256 * slot))
    ∷ (codes "entry", number 0)
    ∷ (codes "image", string (image_text words))
    ∷ (codes "kinds", array (items_of (string kind ∷ [])))
    ∷ (codes "len", number 256)
    ∷ (codes "ports", numbers (slot ∷ []))
    ∷ (codes "slots", numbers (slot ∷ []))
    ∷ (codes "tile", number tile)
    ∷ (codes "trace", number 256)
    ∷ [])

-- a channel over these links that injects in one slot
abbrev pub channel_table : List ℕ → ℕ → Members
channel_table path slot = with_keys ((codes "path", numbers path) ∷ (codes "slots", numbers (slot ∷ [])) ∷ [])

-- the tile of the second part
abbrev pub far_tile : Drawn → ℕ
far_tile d = (d.tile + d.hops) % 16

-- the links from the first part's tile to the second's
abbrev pub there_path : Drawn → List ℕ
there_path d = map (λ n. (d.tile + n) % 16) (range_with_len 0 d.hops)

-- those from the second part's tile back to the first's
abbrev pub back_path : Drawn → List ℕ
back_path d = map (λ n. 16 + (d.tile + d.hops - 1 - n) % 16) (range_with_len 0 d.hops)

-- the pair of channels between the two parts
abbrev pub pair_table : Drawn → Members
pair_table d = with_keys (
    (codes "a", numbers (d.tile ∷ d.slot ∷ []))
    ∷ (codes "b", numbers (far_tile d ∷ d.slot ∷ []))
    ∷ (codes "back", table (channel_table (back_path d) d.back))
    ∷ (codes "there", table (channel_table (there_path d) d.there))
    ∷ [])

-- a bundle of a session: a part that sends, a part that receives, and the pair of channels between them
unfoldable pub bundle_document : ℕ → Drawn → Members
bundle_document session d = with_keys (
    (codes "pair", tables (pair_table d ∷ []))
    ∷ (
      codes "part",
      tables (
          part_table d.tile d.slot (codes "send") (sending_words session d.words)
          ∷ part_table (far_tile d) d.slot (codes "word") (receiving_words d.words) ∷ []),
    )
    ∷ (codes "version", number 1)
    ∷ [])
