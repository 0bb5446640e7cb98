-- All tiles of a platform in step, and one tile by itself over given flits.
use Rattle.std.specs.Prelude.{ℕ, ◌&&◌, ◌==◌, Bool, List, map, find, get_or}
use Rattle.std.specs.List.{range_with_len}
use Rattle.std.specs.Option.{option_map_or}
use Rattle.soc_base.specs.Steps.{after_steps}
use Rattle.platform_model.specs.declared.link.Link.{Link}
use Rattle.bundle_model.specs.declared.world.Grant.{Grant}
use Rattle.lockstep.specs.Hardware.{Hardware}

-- the link leads to an input of a tile
abbrev pub enters : ℕ → ℕ → Link → Bool
enters tile input link = link.to == tile && link.input == input

-- the flits at the inputs 0 to 6 of a tile, where each link carries what a function says; an input without
-- a link is idle
abbrev pub inputs_of : {Flit : Type 0} → Flit → List Link → (Link → Flit) → ℕ → List Flit
inputs_of idle links carried tile =
    map (λ input. option_map_or carried (find (enters tile input) links) idle) (range_with_len 0 7)

-- the tiles by number, and the flit that each link carries
pub record Machine (Tile Flit : Type 0) : Type 0 where
  pub tile : ℕ → Tile
  pub carried : Link → Flit

-- the machine before its first slot: every link is idle
abbrev pub fresh_machine : {Tile Flit : Type 0} → Hardware Tile Flit → Machine Tile Flit
fresh_machine hardware = record { tile = hardware.fresh; carried = λ link. hardware.idle }

-- the machine after a slot of each tile
abbrev pub machine_slot : {Tile Flit : Type 0} → Hardware Tile Flit → List Link → List Grant → Machine Tile Flit → Machine Tile Flit
machine_slot hardware links grants machine = record {
  tile = λ number.
      hardware.after grants (inputs_of hardware.idle links machine.carried number) (machine.tile number);
  carried = λ link.
      get_or (hardware.puts grants (inputs_of hardware.idle links machine.carried link.from) (machine.tile link.from))
      link.out hardware.idle;
}

-- all tiles in step, at the beginning of a slot
unfoldable pub lockstep : {Tile Flit : Type 0} → Hardware Tile Flit → List Link → List Grant → ℕ → Machine Tile Flit
lockstep hardware links grants slots =
    after_steps (λ slot machine. machine_slot hardware links grants machine) 0 slots (fresh_machine hardware)

-- one tile after so many slots, where each link carries in each slot what a function says
unfoldable pub tile_run : {Tile Flit : Type 0} → Hardware Tile Flit → List Link → List Grant → (Link → ℕ → Flit) → ℕ → ℕ → Tile
tile_run hardware links grants flits number slots =
    after_steps (λ slot tile. hardware.after grants (inputs_of hardware.idle links (λ link. flits link slot) number) tile)
    0 slots (hardware.fresh number)

-- the flit that one tile by itself puts on a link in a slot, for the slot after
abbrev pub run_puts : {Tile Flit : Type 0} → Hardware Tile Flit → List Link → List Grant → (Link → ℕ → Flit) → Link → ℕ → Flit
run_puts hardware links grants flits link slot =
    get_or (hardware.puts grants (inputs_of hardware.idle links (λ other. flits other slot) link.from)
    (tile_run hardware links grants flits link.from slot)) link.out hardware.idle
