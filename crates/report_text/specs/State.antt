-- The state of the tiles as text, and the sum over it.
use Rattle.std.specs.Prelude.{ℕ, ◌+◌, ◌*◌, ◌/◌, ◌%◌, ◌^◌, ◌&&◌, ◌==◌, Bool, List, [], ◌++◌, codes, decimal, get_or, length, map, sum_by, if◌then◌else◌, Option, Some, None}
use Rattle.std.specs.List.{flat_map, list_all, list_any, range_with_len}
use Rattle.std.specs.Option.{option_and_then, option_map_or}
use Rattle.soc_base.specs.Text.{hex_text}
use Rattle.soc_base.specs.declared.label.Label.{Label}
use Rattle.platform_model.specs.declared.platform.Platform.{Platform}
use Rattle.comik.specs.declared.context.Context.{Context}
use Rattle.comik.specs.Context.{word_at}
use Rattle.comik.specs.Kernel.{frame_at}
use Rattle.tile_memory.specs.Bytes.{word_of}
use Rattle.ni_port.specs.SizedPort.{SizedPort}
use Rattle.tile_mmio.specs.Ports.{no_port}
use Rattle.tdm_network.specs.declared.entries.Source.{Source}
use Rattle.tdm_network.specs.declared.entries.Source.TheVariants.{Local, Input}
use Rattle.tdm_network.specs.declared.entries.TableEntry.{TableEntry}
use Rattle.tdm_network.specs.declared.entries.TableEntry.TheVariants.{Inject, Out, Deliver}
use Rattle.tdm_network.specs.Spots.{told}
use Rattle.tile_core.specs.Tile.{TileState, owner_of}
use Rattle.report_text.specs.Rows.{line_end}
use Rattle.report_text.specs.Commands.{label_text, pair_text}

-- the 33 words of a context: pc, x1 to x31, `left`
abbrev pub context_words : Context → List ℕ
context_words context = map (word_at context) (range_with_len 0 33)

-- the words of a memory
abbrev pub memory_words : List ℕ → List ℕ
memory_words memory = map (word_of memory) (range_with_len 0 (length memory / 4))

-- the sum of numbers
abbrev pub total : List ℕ → ℕ
total numbers = sum_by (λ number. number) numbers

-- the sum of a tile: of the words of its register file, of its context frames and of its memory, and of how
-- many flits its outputs carried
abbrev pub tile_sum : TileState → ℕ
tile_sum tile =
    total (context_words tile.kernel.file) + sum_by (λ frame. total (context_words frame)) tile.kernel.frames
    + total (memory_words tile.memory) + total tile.carried

-- the sum over all tiles, each counted one time more than its number: 32 bits of it
abbrev pub platform_sum : List TileState → ℕ
platform_sum tiles = sum_by (λ tile. (tile.number + 1) * tile_sum tile) tiles % 2 ^ 32

-- the line of this sum, as in `platform 80c32686`
abbrev pub platform_line : List TileState → List ℕ
platform_line tiles = codes "platform " ++ hex_text (platform_sum tiles) ++ line_end

-- words, each in eight hexadecimal digits after a space
abbrev pub words_text : List ℕ → List ℕ
words_text words = flat_map (λ word. codes " " ++ hex_text word) words

-- who owns something: a load, or nobody
abbrev pub owner_text : Option Label → List ℕ
owner_text (Some label) = label_text label
owner_text None = codes "none"

-- the load of the part with a number, where there is a number
abbrev pub owner_if : TileState → Option ℕ → Option Label
owner_if tile number = option_and_then (owner_of tile) number

-- a tile, its next slot, the loads whose parts are held and latched, as in `tile 0 slot 48 held 1.1 next none`
unfoldable pub tile_line : TileState → List ℕ
tile_line tile =
    codes "tile " ++ decimal tile.number ++ codes " slot " ++ decimal tile.at
    ++ codes " held " ++ owner_text (owner_if tile tile.kernel.held)
    ++ codes " next " ++ owner_text (owner_if tile tile.kernel.next) ++ line_end

-- the register file of a tile
unfoldable pub file_line : TileState → List ℕ
file_line tile = codes "file " ++ decimal tile.number ++ words_text (context_words tile.kernel.file) ++ line_end

-- a context frame of a tile, by its number
unfoldable pub frame_line : TileState → ℕ → List ℕ
frame_line tile number =
    codes "frame " ++ pair_text tile.number number ++ words_text (context_words (frame_at tile.kernel number))
    ++ line_end

-- the four words of a row of 16 bytes of memory, the rows being counted from 0
abbrev pub row_words : TileState → ℕ → List ℕ
row_words tile row = map (word_of tile.memory) (range_with_len (4 * row) 4)

-- a row of memory, with the address of its first byte; nothing where all of it is zero
unfoldable pub memory_line : TileState → ℕ → List ℕ
memory_line tile row =
    if list_all (λ word. word == 0) (row_words tile row) then []
    else codes "mem " ++ pair_text tile.number (16 * row) ++ words_text (row_words tile row) ++ line_end

-- where an output takes its flit from
abbrev pub source_text : Source → List ℕ
source_text Local = codes "local"
source_text (Input input) = codes "in " ++ decimal input

-- what an entry of a tile's slot tables says, as in `inject 0 1 0`, `out 0 0 2 local` and `deliver 1 2 0 0`:
-- the tile, and the slot and the port; or the output, the slot and the source; or the slot, the input and the
-- port
abbrev pub entry_role_text : ℕ → TableEntry → List ℕ
entry_role_text tile (Inject slot port) = codes "inject " ++ pair_text tile slot ++ codes " " ++ decimal port
entry_role_text tile (Out out slot source) =
    codes "out " ++ pair_text tile out ++ codes " " ++ decimal slot ++ codes " " ++ source_text source
entry_role_text tile (Deliver slot input port) =
    codes "deliver " ++ pair_text tile slot ++ codes " " ++ pair_text input port

-- the same with the load that holds the entry's place
unfoldable pub place_line : ℕ → Label → TableEntry → List ℕ
place_line tile label entry = entry_role_text tile entry ++ codes " " ++ label_text label ++ line_end

-- the occupied places of a table of a tile, or of one output's row of it, by ascending slots
abbrev pub table_text : TileState → ℕ → ℕ → List ℕ
table_text tile table row =
    flat_map (λ slot. option_map_or (λ place. place_line tile.number place.0 place.1) (told table row slot tile.tables) [])
    (range_with_len 0 (length tile.tables))

-- the slot tables of a tile: who injects, what each output carries, what is delivered
abbrev pub tables_text : TileState → List ℕ
tables_text tile = table_text tile 0 0 ++ flat_map (table_text tile 1) (range_with_len 0 7) ++ table_text tile 2 0

-- a port of a tile: how many words wait in its two queues, its credit and what it owes, as in
-- `port 0 0 send 0 recv 0 credit 0 owed 0`
unfoldable pub port_line : ℕ → ℕ → SizedPort → List ℕ
port_line tile number sized =
    codes "port " ++ pair_text tile number ++ codes " send " ++ decimal (length sized.port.send)
    ++ codes " recv " ++ decimal (length sized.port.recv) ++ codes " credit " ++ decimal sized.port.credit
    ++ codes " owed " ++ decimal sized.port.owed ++ line_end

-- a word in a queue of a port, as in `sendword 0 0 80000000`
unfoldable pub queued_line : List ℕ → ℕ → ℕ → ℕ → List ℕ
queued_line queue tile number word = queue ++ codes " " ++ pair_text tile number ++ codes " " ++ hex_text word ++ line_end

-- a port and the words in its queues, the oldest first
abbrev pub port_text : ℕ → ℕ → SizedPort → List ℕ
port_text tile number sized =
    port_line tile number sized ++ flat_map (queued_line (codes "sendword") tile number) sized.port.send
    ++ flat_map (queued_line (codes "recvword") tile number) sized.port.recv

-- the ports of a tile
abbrev pub ports_text : TileState → List ℕ
ports_text tile = flat_map (λ number. port_text tile.number number (get_or tile.ports number no_port))
    (range_with_len 0 (length tile.ports))

-- a link leaves this output of a tile
abbrev pub is_linked : Platform → ℕ → ℕ → Bool
is_linked platform tile out = list_any (λ link. link.from == tile && link.out == out) platform.links

-- how many flits other than idle an output carried, as in `carried 0 0 2`; nothing where no link leaves it
unfoldable pub carried_line : Platform → TileState → ℕ → List ℕ
carried_line platform tile out =
    if is_linked platform tile.number out
    then codes "carried " ++ pair_text tile.number out ++ codes " " ++ decimal (get_or tile.carried out 0) ++ line_end
    else []

-- the state of a tile
abbrev pub tile_text : Platform → TileState → List ℕ
tile_text platform tile =
    tile_line tile ++ file_line tile ++ flat_map (frame_line tile) (range_with_len 0 tile.kernel.times.slots)
    ++ flat_map (memory_line tile) (range_with_len 0 (length tile.memory / 16))
    ++ tables_text tile ++ ports_text tile
    ++ flat_map (carried_line platform tile) (range_with_len 0 7)

-- the state of all tiles, in their order
abbrev pub state_text : Platform → List TileState → List ℕ
state_text platform tiles = flat_map (tile_text platform) tiles
