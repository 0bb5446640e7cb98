-- What was done stays: a slot depends on no grant that begins later and on no end that comes later.
use Rattle.std.specs.Prelude.{◌≡◌, ℕ, ◌+◌, ◌≤◌, List}
use Rattle.platform_model.specs.declared.link.Link.{Link}
use Rattle.bundle_model.specs.declared.world.Grant.{Grant}
use Rattle.lockstep.specs.Hardware.{Hardware}
use Rattle.lockstep.specs.Lockstep.{lockstep, tile_run}
use Rattle.lockstep.specs.Seen.{grants_seen, AreSeenAlike}

-- A tile begins at slot 0, takes slot after slot, and in each looks at no grant that begins later and at no
-- end that comes later.
pub record IsPaced (Tile Flit : Type 0) (hardware : Hardware Tile Flit) : Type 0 where
  pub begins : (number : ℕ) → hardware.at (hardware.fresh number) ≡ 0
  pub goes_on : (grants : List Grant) (inputs : List Flit) (tile : Tile)
      → hardware.at (hardware.after grants inputs tile) ≡ hardware.at tile + 1
  pub same_after : (grants other : List Grant) (inputs : List Flit) (tile : Tile)
      → grants_seen (hardware.at tile) grants ≡ grants_seen (hardware.at tile) other
      → hardware.after grants inputs tile ≡ hardware.after other inputs tile
  pub same_puts : (grants other : List Grant) (inputs : List Flit) (tile : Tile)
      → grants_seen (hardware.at tile) grants ≡ grants_seen (hardware.at tile) other
      → hardware.puts grants inputs tile ≡ hardware.puts other inputs tile

-- the machine in step is the same up to the slot below which the grants are known alike
abbrev pub DoneStays : (Tile Flit : Type 0) → Type 0
DoneStays Tile Flit = (hardware : Hardware Tile Flit) (links : List Link) (grants other : List Grant)
    (horizon slot : ℕ) → IsPaced Tile Flit hardware → AreSeenAlike horizon grants other → slot ≤ horizon
    → lockstep hardware links grants slot ≡ lockstep hardware links other slot

-- and so is one tile by itself
abbrev pub RunsStay : (Tile Flit : Type 0) → Type 0
RunsStay Tile Flit = (hardware : Hardware Tile Flit) (links : List Link) (grants other : List Grant)
    (flits : Link → ℕ → Flit) (horizon number slot : ℕ) → IsPaced Tile Flit hardware
    → AreSeenAlike horizon grants other → slot ≤ horizon
    → tile_run hardware links grants flits number slot ≡ tile_run hardware links other flits number slot
