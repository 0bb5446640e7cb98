-- The machine in step and one tile by itself, slot by slot.
use Rattle.std.proofs.Common.{◌≡◌, ℕ, suc, ◌+◌, List, refl, ap, ◌∙◌, arith}
use Rattle.soc_base.specs.Steps.{after_steps}
use Rattle.platform_model.specs.declared.link.Link.{Link}
use Rattle.bundle_model.specs.declared.world.Grant.{Grant}
use Rattle.lockstep.specs.Hardware.{Hardware}
use Rattle.lockstep.specs.Lockstep.{inputs_of, fresh_machine, machine_slot, lockstep, tile_run}

pub lockstep_none : {Tile Flit : Type 0} (hardware : Hardware Tile Flit) (links : List Link) (grants : List Grant) → lockstep hardware links grants 0 ≡ fresh_machine hardware
unfolding lockstep after_steps
lockstep_none hardware links grants = refl

pub lockstep_more : {Tile Flit : Type 0} (hardware : Hardware Tile Flit) (links : List Link) (grants : List Grant) (slot : ℕ) → lockstep hardware links grants (slot + 1) ≡ machine_slot hardware links grants (lockstep hardware links grants slot)
unfolding lockstep after_steps
lockstep_more hardware links grants slot = let one : slot + 1 ≡ suc slot = omega arith in ap (lockstep hardware links grants) one

pub run_none : {Tile Flit : Type 0} (hardware : Hardware Tile Flit) (links : List Link) (grants : List Grant) (flits : Link → ℕ → Flit) (number : ℕ) → tile_run hardware links grants flits number 0 ≡ hardware.fresh number
unfolding tile_run after_steps
run_none hardware links grants flits number = refl

pub run_more : {Tile Flit : Type 0} (hardware : Hardware Tile Flit) (links : List Link) (grants : List Grant) (flits : Link → ℕ → Flit) (number slot : ℕ) → tile_run hardware links grants flits number (slot + 1) ≡ hardware.after grants (inputs_of hardware.idle links (λ link. flits link slot) number) (tile_run hardware links grants flits number slot)
unfolding tile_run after_steps
run_more hardware links grants flits number slot =
    let one : slot + 1 ≡ suc slot = omega arith in
    let same : 0 + slot ≡ slot = omega arith in
    ap (tile_run hardware links grants flits number) one
    ∙ ap (λ (k : ℕ). hardware.after grants (inputs_of hardware.idle links (λ link. flits link k) number) (tile_run hardware links grants flits number slot)) same
