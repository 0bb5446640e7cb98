-- Tiles by themselves, over what their writers put, are those of the machine in step.
use Rattle.std.proofs.Common.{◌≡◌, ℕ, zero, suc, ◌+◌, ◌<◌, ◌≤◌, List, get_or, Contains, sym, ap, ap₂, subst, ◌∙◌, arith}
use Rattle.platform_model.specs.declared.link.Link.{Link}
use Rattle.bundle_model.specs.declared.world.Grant.{Grant}
use Rattle.lockstep.specs.Hardware.{Hardware}
use Rattle.lockstep.specs.Lockstep.{inputs_of, Machine, lockstep, tile_run}
use Rattle.lockstep.specs.Solution.{TilesRunAlone, AreJoined, OneSolution, OnePassage}
use Rattle.lockstep.proofs.Steps.{lockstep_none, lockstep_more, run_none, run_more}
use Rattle.lockstep.proofs.Inputs.{inputs_same}

-- ---- a tile of the machine in step is that tile by itself

pub tiles_run_alone : {Tile Flit : Type 0} → TilesRunAlone Tile Flit
tiles_run_alone {Tile} {Flit} hardware links grants number zero =
    let flits = λ (link : Link) (slot : ℕ). (lockstep hardware links grants slot).carried link in
    run_none hardware links grants flits number ∙ sym (ap (λ (m : Machine Tile Flit). m.tile number) (lockstep_none hardware links grants))
tiles_run_alone {Tile} {Flit} hardware links grants number (suc slot) =
    let flits = λ (link : Link) (slot : ℕ). (lockstep hardware links grants slot).carried link in
    let one : suc slot ≡ slot + 1 = omega arith in
    let inputs = inputs_of hardware.idle links (λ link. flits link slot) number in
    ap (tile_run hardware links grants flits number) one
    ∙ run_more hardware links grants flits number slot
    ∙ ap (hardware.after grants inputs) (tiles_run_alone hardware links grants number slot)
    ∙ sym (ap (λ (m : Machine Tile Flit). m.tile number) (ap (lockstep hardware links grants) one ∙ lockstep_more hardware links grants slot))

-- ---- one solution

-- tiles by themselves are as the machine in step up to a slot
record AsFarAs {Tile Flit : Type 0} (hardware : Hardware Tile Flit) (links : List Link) (grants : List Grant) (until : ℕ → ℕ) (flits : Link → ℕ → Flit) (slot : ℕ) : Type 0 where
  tiles : (number : ℕ) → slot ≤ until number → tile_run hardware links grants flits number slot ≡ (lockstep hardware links grants slot).tile number
  carried : (link : Link) → Contains links link → slot < until link.to → flits link slot ≡ (lockstep hardware links grants slot).carried link

at_first : {Tile Flit : Type 0} (hardware : Hardware Tile Flit) (links : List Link) (grants : List Grant) (until : ℕ → ℕ) (flits : Link → ℕ → Flit) → AreJoined Tile Flit hardware links grants until flits → AsFarAs hardware links grants until flits 0
at_first {Tile} {Flit} hardware links grants until flits joined = record {
  tiles = λ number low. run_none hardware links grants flits number ∙ sym (ap (λ (m : Machine Tile Flit). m.tile number) (lockstep_none hardware links grants));
  carried = λ link inside low. joined.first link inside low ∙ sym (ap (λ (m : Machine Tile Flit). m.carried link) (lockstep_none hardware links grants));
}

-- the inputs of a tile below its number
inputs_there : {Tile Flit : Type 0} (hardware : Hardware Tile Flit) (links : List Link) (grants : List Grant) (until : ℕ → ℕ) (flits : Link → ℕ → Flit) (slot number : ℕ) → AsFarAs hardware links grants until flits slot → slot < until number → inputs_of hardware.idle links (λ link. flits link slot) number ≡ inputs_of hardware.idle links (lockstep hardware links grants slot).carried number
inputs_there hardware links grants until flits slot number here low =
    inputs_same hardware.idle links (λ link. flits link slot) (lockstep hardware links grants slot).carried number
    (λ link inside is. here.carried link inside (subst (λ (n : ℕ). slot < until n) (sym is) low))

one_further : {Tile Flit : Type 0} (hardware : Hardware Tile Flit) (links : List Link) (grants : List Grant) (until : ℕ → ℕ) (flits : Link → ℕ → Flit) → AreJoined Tile Flit hardware links grants until flits → (slot : ℕ) → AsFarAs hardware links grants until flits slot → AsFarAs hardware links grants until flits (slot + 1)
one_further {Tile} {Flit} hardware links grants until flits joined slot here =
    let machine = lockstep hardware links grants slot in
    let more = lockstep_more hardware links grants slot in
    record {
      tiles = λ number low.
          run_more hardware links grants flits number slot
          ∙ ap₂ (hardware.after grants) (inputs_there hardware links grants until flits slot number here (omega arith)) (here.tiles number (omega arith))
          ∙ sym (ap (λ (m : Machine Tile Flit). m.tile number) more);
      carried = λ link inside low.
          let far = joined.written link slot inside low in
          joined.next link slot inside low
          ∙ ap₂ (λ (inputs : List Flit) (tile : Tile). get_or (hardware.puts grants inputs tile) link.out hardware.idle) (inputs_there hardware links grants until flits slot link.from here far) (here.tiles link.from (omega arith))
          ∙ sym (ap (λ (m : Machine Tile Flit). m.carried link) more);
    }

all_slots : {Tile Flit : Type 0} (hardware : Hardware Tile Flit) (links : List Link) (grants : List Grant) (until : ℕ → ℕ) (flits : Link → ℕ → Flit) → AreJoined Tile Flit hardware links grants until flits → (slot : ℕ) → AsFarAs hardware links grants until flits slot
all_slots hardware links grants until flits joined zero = at_first hardware links grants until flits joined
all_slots hardware links grants until flits joined (suc slot) =
    let one : slot + 1 ≡ suc slot = omega arith in
    subst (AsFarAs hardware links grants until flits) one (one_further hardware links grants until flits joined slot (all_slots hardware links grants until flits joined slot))

pub one_solution : {Tile Flit : Type 0} → OneSolution Tile Flit
one_solution hardware links grants until flits joined number = (all_slots hardware links grants until flits joined (until number)).tiles number (omega arith)

-- and what such a tile puts on a link is what the link carries in the slot after
pub one_passage : {Tile Flit : Type 0} → OnePassage Tile Flit
one_passage {Tile} {Flit} hardware links grants until flits joined link slot low =
    let here = all_slots hardware links grants until flits joined slot in
    ap₂ (λ (inputs : List Flit) (tile : Tile). get_or (hardware.puts grants inputs tile) link.out hardware.idle) (inputs_there hardware links grants until flits slot link.from here low) (here.tiles link.from (omega arith))
    ∙ sym (ap (λ (m : Machine Tile Flit). m.carried link) (lockstep_more hardware links grants slot))
