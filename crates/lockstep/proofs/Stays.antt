-- What was done stays: machines by grants that are known alike below a slot are alike up to it.
use Rattle.std.proofs.Common.{◌≡◌, ℕ, zero, suc, ◌+◌, List, get_or, sym, ap, ap₂, subst, ◌∙◌, arith}
use Rattle.std.proofs.Math.Path.{fun_ext}
use Rattle.platform_model.specs.declared.link.Link.{Link}
use Rattle.bundle_model.specs.declared.world.Grant.{Grant}
use Rattle.lockstep.specs.Hardware.{Hardware}
use Rattle.lockstep.specs.Lockstep.{inputs_of, Machine, machine_slot, lockstep, tile_run}
use Rattle.lockstep.specs.Seen.{grants_seen}
use Rattle.lockstep.specs.Stays.{IsPaced, DoneStays, RunsStay}
use Rattle.lockstep.proofs.Steps.{lockstep_none, lockstep_more, run_none, run_more}

-- each tile is at the slot that the machine is at
pub lockstep_at : {Tile Flit : Type 0} (hardware : Hardware Tile Flit) → IsPaced Tile Flit hardware → (links : List Link) (grants : List Grant) (slot number : ℕ) → hardware.at ((lockstep hardware links grants slot).tile number) ≡ slot
lockstep_at {Tile} {Flit} hardware paced links grants zero number = ap (λ (m : Machine Tile Flit). hardware.at (m.tile number)) (lockstep_none hardware links grants) ∙ paced.begins number
lockstep_at {Tile} {Flit} hardware paced links grants (suc slot) number =
    let one : suc slot ≡ slot + 1 = omega arith in
    let machine = lockstep hardware links grants slot in
    ap (λ (m : Machine Tile Flit). hardware.at (m.tile number)) (ap (lockstep hardware links grants) one ∙ lockstep_more hardware links grants slot)
    ∙ paced.goes_on grants (inputs_of hardware.idle links machine.carried number) (machine.tile number)
    ∙ ap (λ (n : ℕ). n + 1) (lockstep_at hardware paced links grants slot number) ∙ sym one

pub run_at : {Tile Flit : Type 0} (hardware : Hardware Tile Flit) → IsPaced Tile Flit hardware → (links : List Link) (grants : List Grant) (flits : Link → ℕ → Flit) (number slot : ℕ) → hardware.at (tile_run hardware links grants flits number slot) ≡ slot
run_at hardware paced links grants flits number zero = ap hardware.at (run_none hardware links grants flits number) ∙ paced.begins number
run_at hardware paced links grants flits number (suc slot) =
    let one : suc slot ≡ slot + 1 = omega arith in
    ap hardware.at (ap (tile_run hardware links grants flits number) one ∙ run_more hardware links grants flits number slot)
    ∙ paced.goes_on grants (inputs_of hardware.idle links (λ link. flits link slot) number) (tile_run hardware links grants flits number slot)
    ∙ ap (λ (n : ℕ). n + 1) (run_at hardware paced links grants flits number slot) ∙ sym one

-- one slot, of tiles that are all at it
slot_same : {Tile Flit : Type 0} (hardware : Hardware Tile Flit) → IsPaced Tile Flit hardware → (links : List Link) (grants other : List Grant) (machine : Machine Tile Flit) (slot : ℕ) → ((number : ℕ) → hardware.at (machine.tile number) ≡ slot) → grants_seen slot grants ≡ grants_seen slot other → machine_slot hardware links grants machine ≡ machine_slot hardware links other machine
slot_same {Tile} {Flit} hardware paced links grants other machine slot all seen =
    let inputs = inputs_of hardware.idle links machine.carried in
    let seen_at : (number : ℕ) → grants_seen (hardware.at (machine.tile number)) grants ≡ grants_seen (hardware.at (machine.tile number)) other = λ number.
    subst (λ (n : ℕ). grants_seen n grants ≡ grants_seen n other) (sym (all number)) seen in
    ap₂ (λ (tile : ℕ → Tile) (carried : Link → Flit). let m : Machine Tile Flit = record { tile = tile; carried = carried } in m)
    (fun_ext (λ number. paced.same_after grants other (inputs number) (machine.tile number) (seen_at number)))
    (fun_ext (λ link. ap (λ (flits : List Flit). get_or flits link.out hardware.idle) (paced.same_puts grants other (inputs link.from) (machine.tile link.from) (seen_at link.from))))

-- the machine in step, up to a slot
pub lockstep_stays : {Tile Flit : Type 0} → DoneStays Tile Flit
lockstep_stays hardware links grants other horizon zero paced seen low = lockstep_none hardware links grants ∙ sym (lockstep_none hardware links other)
lockstep_stays hardware links grants other horizon (suc slot) paced seen low =
    let one : suc slot ≡ slot + 1 = omega arith in
    ap (lockstep hardware links grants) one ∙ lockstep_more hardware links grants slot
    ∙ slot_same hardware paced links grants other (lockstep hardware links grants slot) slot (lockstep_at hardware paced links grants slot) (seen slot (omega arith))
    ∙ ap (machine_slot hardware links other) (lockstep_stays hardware links grants other horizon slot paced seen (omega arith))
    ∙ sym (ap (lockstep hardware links other) one ∙ lockstep_more hardware links other slot)

-- one tile by itself, likewise
pub run_stays : {Tile Flit : Type 0} → RunsStay Tile Flit
run_stays hardware links grants other flits horizon number zero paced seen low = run_none hardware links grants flits number ∙ sym (run_none hardware links other flits number)
run_stays hardware links grants other flits horizon number (suc slot) paced seen low =
    let one : suc slot ≡ slot + 1 = omega arith in
    let inputs = inputs_of hardware.idle links (λ link. flits link slot) number in
    let tile = tile_run hardware links grants flits number slot in
    let seen_at : grants_seen (hardware.at tile) grants ≡ grants_seen (hardware.at tile) other =
    subst (λ (n : ℕ). grants_seen n grants ≡ grants_seen n other) (sym (run_at hardware paced links grants flits number slot)) (seen slot (omega arith)) in
    ap (tile_run hardware links grants flits number) one ∙ run_more hardware links grants flits number slot
    ∙ paced.same_after grants other inputs tile seen_at
    ∙ ap (hardware.after other inputs) (run_stays hardware links grants other flits horizon number slot paced seen (omega arith))
    ∙ sym (ap (tile_run hardware links other flits number) one ∙ run_more hardware links other flits number slot)
