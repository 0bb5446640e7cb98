-- Tiles over what was put on rings and taken from them.
use Rattle.std.proofs.Common.{◌≡◌, ℕ, zero, suc, ◌+◌, ◌<◌, List, [], ◌∷◌, ◌++◌, length, map, get_or, Contains, refl, sym, ap, ap₂, ◌∙◌, arith, length-append}
use Rattle.std.specs.List.{range_with_len}
use Rattle.std.proofs.lemmas.List.FromFn.{get_or-map-range_with_len, length-map-range_with_len}
use Rattle.platform_model.specs.declared.link.Link.{Link}
use Rattle.bundle_model.specs.declared.world.Grant.{Grant}
use Rattle.lockstep.specs.Hardware.{Hardware}
use Rattle.lockstep.specs.Lockstep.{Machine, lockstep, run_puts}
use Rattle.lockstep.specs.Solution.{AreJoined, AreRings, RingTilesAgree, RingFlitsAgree, flits_in}
use Rattle.lockstep.proofs.Steps.{lockstep_none}
use Rattle.lockstep.proofs.Joined.{one_solution, one_passage}

-- functions that agree where they are read make one list
pub made_same : {X : Type 0} (f g : ℕ → X) (from n : ℕ) → ((k : ℕ) → k < from + n → f k ≡ g k) → map f (range_with_len from n) ≡ map g (range_with_len from n)
made_same f g from zero same = refl
made_same f g from (suc n) same = ap₂ (λ x xs. x ∷ xs) (same from (omega arith)) (made_same f g (from + 1) n (λ k low. same k (omega arith)))

-- a list of what comes one later
made_later : {X : Type 0} (f : ℕ → X) (from n : ℕ) → map (λ k. f (k + 1)) (range_with_len from n) ≡ map f (range_with_len (from + 1) n)
made_later f from zero = refl
made_later f from (suc n) = ap (λ xs. f (from + 1) ∷ xs) (made_later f (from + 1) n)

front_at : {X : Type 0} (xs ys : List X) (i : ℕ) (d : X) → i < length xs → get_or (xs ++ ys) i d ≡ get_or xs i d
front_at [] ys i d low = absurd (omega arith)
front_at (x ∷ xs) ys zero d low = refl
front_at (x ∷ xs) ys (suc i) d low = front_at xs ys i d (omega arith)

-- what was taken is what was put, one slot later
taken_at : {Flit : Type 0} (idle : Flit) (put taken rest : List Flit) (i : ℕ) → idle ∷ put ≡ taken ++ rest → i < length taken → get_or taken i idle ≡ get_or (idle ∷ put) i idle
taken_at {Flit} idle put taken rest i is low = sym (front_at taken rest i idle low) ∙ sym (ap (λ (l : List Flit). get_or l i idle) is)

-- so they are joined
pub rings_join : {Tile Flit : Type 0} (hardware : Hardware Tile Flit) (links : List Link) (grants : List Grant) (until : ℕ → ℕ) (put taken : Link → List Flit) → AreRings Tile Flit hardware links grants until put taken → AreJoined Tile Flit hardware links grants until (flits_in hardware.idle taken)
rings_join {Tile} {Flit} hardware links grants until put taken rings =
    let flits = flits_in hardware.idle taken in
    let far : (link : Link) (slot : ℕ) → Contains links link → slot + 1 < until link.to → slot < until link.from = λ link slot inside low.
    let took = rings.took link inside in
    let front = rings.front link inside in
    let long = ap length front.1 ∙ length-append (taken link) front.0 in
    let count = ap length (rings.written link inside) ∙ length-map-range_with_len (run_puts hardware links grants flits link) 0 (until link.from) in
    omega (arith, took, long, count) in
    record {
      first = λ link inside low.
          let took = rings.took link inside in
          let front = rings.front link inside in
          taken_at hardware.idle (put link) (taken link) front.0 0 front.1 (omega (arith, took));
      written = far;
      next = λ link slot inside low.
          let took = rings.took link inside in
          let front = rings.front link inside in
          let one : slot + 1 ≡ suc slot = omega arith in
          taken_at hardware.idle (put link) (taken link) front.0 (slot + 1) front.1 (omega (arith, took))
          ∙ ap (λ (k : ℕ). get_or (hardware.idle ∷ put link) k hardware.idle) one
          ∙ ap (λ (l : List Flit). get_or l slot hardware.idle) (rings.written link inside)
          ∙ get_or-map-range_with_len (run_puts hardware links grants flits link) 0 (until link.from) slot slot hardware.idle (far link slot inside low) (omega arith);
    }

pub ring_tiles_agree : {Tile Flit : Type 0} → RingTilesAgree Tile Flit
ring_tiles_agree hardware links grants until put taken rings number =
    one_solution hardware links grants until (flits_in hardware.idle taken) (rings_join hardware links grants until put taken rings) number

pub ring_flits_agree : {Tile Flit : Type 0} → RingFlitsAgree Tile Flit
ring_flits_agree {Tile} {Flit} hardware links grants until put taken rings link inside =
    let flits = flits_in hardware.idle taken in
    let joined = rings_join hardware links grants until put taken rings in
    let carried = λ (slot : ℕ). (lockstep hardware links grants slot).carried link in
    let one : suc (until link.from) ≡ until link.from + 1 = omega arith in
    ap₂ (λ (flit : Flit) (rest : List Flit). flit ∷ rest)
    (sym (ap (λ (m : Machine Tile Flit). m.carried link) (lockstep_none hardware links grants)))
    (rings.written link inside
    ∙ made_same (run_puts hardware links grants flits link) (λ slot. carried (slot + 1)) 0 (until link.from) (λ slot low. one_passage hardware links grants until flits joined link slot (omega arith))
    ∙ made_later carried 0 (until link.from))
    ∙ ap (λ n. map carried (range_with_len 0 n)) one
