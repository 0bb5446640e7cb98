-- Tiles that are run one by one, and what they have in common with all tiles in step.
use Rattle.std.specs.Prelude.{◌≡◌, ℕ, ◌+◌, ◌<◌, List, ◌∷◌, ◌++◌, length, map, get_or, Contains}
use Rattle.std.specs.List.{range_with_len}
use Rattle.platform_model.specs.declared.link.Link.{Link}
use Rattle.bundle_model.specs.declared.world.Grant.{Grant}
use Rattle.lockstep.specs.Hardware.{Hardware}
use Rattle.lockstep.specs.Lockstep.{lockstep, tile_run, run_puts}

-- a tile of the machine in step is that tile by itself, over the flits of the machine's links
abbrev pub TilesRunAlone : (Tile Flit : Type 0) → Type 0
TilesRunAlone Tile Flit = (hardware : Hardware Tile Flit) (links : List Link) (grants : List Grant) (number slots : ℕ)
    → tile_run hardware links grants (λ link slot. (lockstep hardware links grants slot).carried link) number slots
    ≡ (lockstep hardware links grants slots).tile number

-- Tiles by themselves, each to a slot of its own (`until`), over flits of which each is idle in slot 0, and
-- in each slot after what the tile that writes the link put there, that tile having come so far.
pub record AreJoined (Tile Flit : Type 0) (hardware : Hardware Tile Flit) (links : List Link) (grants : List Grant)
    (until : ℕ → ℕ) (flits : Link → ℕ → Flit) : Type 0 where
  pub first : (link : Link) → Contains links link → 0 < until link.to → flits link 0 ≡ hardware.idle
  pub written : (link : Link) (slot : ℕ) → Contains links link → slot + 1 < until link.to → slot < until link.from
  pub next : (link : Link) (slot : ℕ) → Contains links link → slot + 1 < until link.to
      → flits link (slot + 1) ≡ run_puts hardware links grants flits link slot

-- such tiles are those of the machine in step
abbrev pub OneSolution : (Tile Flit : Type 0) → Type 0
OneSolution Tile Flit = (hardware : Hardware Tile Flit) (links : List Link) (grants : List Grant)
    (until : ℕ → ℕ) (flits : Link → ℕ → Flit) → AreJoined Tile Flit hardware links grants until flits → (number : ℕ)
    → tile_run hardware links grants flits number (until number)
    ≡ (lockstep hardware links grants (until number)).tile number

-- and so is what they put on their links
abbrev pub OnePassage : (Tile Flit : Type 0) → Type 0
OnePassage Tile Flit = (hardware : Hardware Tile Flit) (links : List Link) (grants : List Grant)
    (until : ℕ → ℕ) (flits : Link → ℕ → Flit) → AreJoined Tile Flit hardware links grants until flits
    → (link : Link) (slot : ℕ) → slot < until link.from
    → run_puts hardware links grants flits link slot ≡ (lockstep hardware links grants (slot + 1)).carried link

-- what was taken from the links, as flits of slots
abbrev pub flits_in : {Flit : Type 0} → Flit → (Link → List Flit) → Link → ℕ → Flit
flits_in idle taken link slot = get_or (taken link) slot idle

-- Tiles by themselves, each to a slot of its own, with what was put on each link and what was taken from it:
-- a flit for each slot of the reader, of the idle flit and what was put the first ones; and put was what the
-- writer gave in each of its slots.
pub record AreRings (Tile Flit : Type 0) (hardware : Hardware Tile Flit) (links : List Link) (grants : List Grant)
    (until : ℕ → ℕ) (put taken : Link → List Flit) : Type 0 where
  pub took : (link : Link) → Contains links link → length (taken link) ≡ until link.to
  pub front : (link : Link) → Contains links link
      → (rest : List Flit) × (hardware.idle ∷ put link ≡ taken link ++ rest)
  pub written : (link : Link) → Contains links link
      → put link ≡ map (run_puts hardware links grants (flits_in hardware.idle taken) link)
      (range_with_len 0 (until link.from))

-- such tiles are those of the machine in step
abbrev pub RingTilesAgree : (Tile Flit : Type 0) → Type 0
RingTilesAgree Tile Flit = (hardware : Hardware Tile Flit) (links : List Link) (grants : List Grant)
    (until : ℕ → ℕ) (put taken : Link → List Flit) → AreRings Tile Flit hardware links grants until put taken
    → (number : ℕ) → tile_run hardware links grants (flits_in hardware.idle taken) number (until number)
    ≡ (lockstep hardware links grants (until number)).tile number

-- and the idle flit and then what was put on a link are what the link carries there
abbrev pub RingFlitsAgree : (Tile Flit : Type 0) → Type 0
RingFlitsAgree Tile Flit = (hardware : Hardware Tile Flit) (links : List Link) (grants : List Grant)
    (until : ℕ → ℕ) (put taken : Link → List Flit) → AreRings Tile Flit hardware links grants until put taken
    → (link : Link) → Contains links link
    → hardware.idle ∷ put link
    ≡ map (λ slot. (lockstep hardware links grants slot).carried link) (range_with_len 0 (until link.from + 1))
