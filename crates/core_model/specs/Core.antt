-- The core: one history, tiles at different slots, and the flits that were put on each link and not yet
-- taken. It goes on event by event: a session's next command is answered, or a tile takes its next slot.
use Rattle.std.specs.Prelude.{ℕ, not, ◌&&◌, ◌||◌, ◌==◌, nat_lt, nat_le, Bool, List, [], ◌∷◌, ◌++◌, length, map, drop, fold, find, position, get_or, slice_get, slice_set, if◌then◌else◌, Option, Some, None}
use Rattle.std.specs.Option.{option_map_or}
use Rattle.std.specs.List.{range_with_len, list_all}
use Rattle.platform_model.specs.declared.link.Link.{Link}
use Rattle.vep_manager.specs.declared.setup.Setup.{Setup}
use Rattle.vep_manager.specs.declared.reply.Entry.{Entry}
use Rattle.vep_manager.specs.History.{horizon_of, grants_of}
use Rattle.vep_manager.specs.Replies.{next_entry}
use Rattle.lockstep.specs.Hardware.{Hardware}
use Rattle.lockstep.specs.Lockstep.{enters}

-- a link, and the flits that were put on it and not yet taken, the oldest first
pub record Line (Flit : Type 0) : Type 0 where
  pub link : Link
  pub flits : List Flit

-- the history, the tiles in their order, and the links in the platform's order
pub record CoreState (Tile Flit : Type 0) : Type 0 where
  pub history : List Entry
  pub tiles : List Tile
  pub lines : List (Line Flit)

-- the next command of a session; the next slot of a tile
pub data Happening : Type 0 where
  Command : ℕ → Happening
  Slot : ℕ → Happening

-- a link before the first slot: the idle flit of slot 0 is on it
abbrev pub fresh_line : {Flit : Type 0} → Flit → Link → Line Flit
fresh_line idle link = record { link = link; flits = idle ∷ [] }

-- the core before its first event
abbrev pub fresh_core : {Tile Flit : Type 0} → Hardware Tile Flit → Setup → CoreState Tile Flit
fresh_core hardware setup = record {
  history = [];
  tiles = map hardware.fresh (range_with_len 0 setup.world.platform.tiles);
  lines = map (fresh_line hardware.idle) setup.world.platform.links;
}

-- the flit that the reader of a link takes next
abbrev pub waiting : {Flit : Type 0} → Flit → Line Flit → Flit
waiting idle line = get_or line.flits 0 idle

-- the flits at the inputs 0 to 6 of a tile
abbrev pub line_inputs : {Flit : Type 0} → Flit → List (Line Flit) → ℕ → List Flit
line_inputs idle lines tile =
    map (λ input. option_map_or (waiting idle) (find (λ line. enters tile input line.link) lines) idle)
    (range_with_len 0 7)

-- the link holds a flit, if it leads to the tile
abbrev pub is_fed : {Flit : Type 0} → ℕ → Line Flit → Bool
is_fed tile line = not (line.link.to == tile) || nat_lt 0 (length line.flits)

-- a link after a slot of a tile, which took its oldest flit if it leads there, and put one on it if it
-- leaves there
abbrev pub passed : {Flit : Type 0} → Flit → ℕ → List Flit → Line Flit → Line Flit
passed idle tile outputs line = record line {
  flits = (if line.link.to == tile then drop 1 line.flits else line.flits)
      ++ (if line.link.from == tile then get_or outputs line.link.out idle ∷ [] else []);
}

-- a tile may take its next slot: it lies below the horizon, and each flit for it is there
abbrev pub may_go : {Tile Flit : Type 0} → Hardware Tile Flit → Setup → CoreState Tile Flit → ℕ → Tile → Bool
may_go hardware setup core number tile =
    nat_lt (hardware.at tile) (horizon_of setup core.history) && list_all (is_fed number) core.lines

-- the core after a slot of a tile
abbrev pub after_slot : {Tile Flit : Type 0} → Hardware Tile Flit → Setup → CoreState Tile Flit → ℕ → Tile → CoreState Tile Flit
after_slot hardware setup core number tile =
    let grants = grants_of setup core.history in
    let inputs = line_inputs hardware.idle core.lines number in
    record core {
      tiles = slice_set core.tiles number (hardware.after grants inputs tile);
      lines = map (passed hardware.idle number (hardware.puts grants inputs tile)) core.lines;
    }

-- the same, where there is such a tile and it may take its slot
abbrev pub slot_taken : {Tile Flit : Type 0} → Hardware Tile Flit → Setup → CoreState Tile Flit → ℕ → Option Tile → CoreState Tile Flit
slot_taken hardware setup core number None = core
slot_taken hardware setup core number (Some tile) =
    if may_go hardware setup core number tile then after_slot hardware setup core number tile else core

-- the core after an entry, if there is one
abbrev pub answered : {Tile Flit : Type 0} → CoreState Tile Flit → Option Entry → CoreState Tile Flit
answered core None = core
answered core (Some entry) = record core { history = core.history ++ entry ∷ [] }

-- the core after an event; one that isn't enabled changes nothing
unfoldable pub happens : {Tile Flit : Type 0} → Hardware Tile Flit → Setup → CoreState Tile Flit → Happening → CoreState Tile Flit
happens hardware setup core (Command session) = answered core (next_entry setup core.history session)
happens hardware setup core (Slot number) =
    slot_taken hardware setup core number (slice_get core.tiles number)

-- the core after events, one after the other
unfoldable pub core_after : {Tile Flit : Type 0} → Hardware Tile Flit → Setup → List Happening → CoreState Tile Flit
core_after hardware setup events = fold (happens hardware setup) (fresh_core hardware setup) events

-- no tile is at a lower slot, and the slot lies below the horizon
abbrev pub is_least : {Tile Flit : Type 0} → Hardware Tile Flit → Setup → CoreState Tile Flit → Tile → Bool
is_least hardware setup core tile =
    nat_lt (hardware.at tile) (horizon_of setup core.history)
    && list_all (λ other. nat_le (hardware.at tile) (hardware.at other)) core.tiles

-- the first tile of least slot, where that lies below the horizon
abbrev pub least_ready : {Tile Flit : Type 0} → Hardware Tile Flit → Setup → CoreState Tile Flit → Option ℕ
least_ready hardware setup core = position (is_least hardware setup core) core.tiles
