-- The owners of the partition slots, after a part has come or left.
use Rattle.std.proofs.Common.{◌≡◌, ℕ, zero, suc, ◌+◌, ◌-◌, ◌<◌, ◌≤◌, ◌==◌, Bool, true, false, cond, ◌&&◌, nat_lt, List, [], ◌∷◌, ◌++◌, take, drop, map, length, get_or, slice_set, Option, Some, None, refl, sym, subst, ap, ◌∙◌, inl, inr, arith}
use Rattle.std.specs.Int.{bit_at}
use Rattle.std.proofs.lemmas.Bool.{cases_eq, lt-ltb, le-ltb}
use Rattle.std.proofs.lemmas.Bool.Decides.{nat_tests}
use Rattle.std.proofs.lemmas.List.{get_or-set_same, get_or-set_other, length-set, take_at}
use Rattle.std.proofs.lemmas.List.Elements.{All-set, All-map, All-weaker}
use Rattle.std.proofs.lemmas.List.Elements.{All-same}
use Rattle.soc_base.proofs.Laws.{steps_more}
use Rattle.soc_base.specs.Steps.{after_steps}
use Rattle.comik.specs.Kernel.{IsBelow, AreBelow, without}
use Rattle.comik.specs.Parts.{claimed_slot, claimed}

pub below_without : (bound part : ℕ) (place : Option ℕ) → IsBelow bound place → IsBelow bound (without part place)
below_without bound part None below = tt
below_without bound part (Some other) below =
    let P : Bool → Type 0 = λ b. IsBelow bound (cond b None (Some other)) in
    let both : (b : Bool) → P b = λ b. elim b as P [ true ↦ tt | false ↦ below ] in
    both (other == part)

pub below_freed : (bound part : ℕ) (owners : List (Option ℕ)) → AreBelow bound owners → AreBelow bound (map (without part) owners)
below_freed bound part owners below =
    All-map (IsBelow bound) (without part) owners (All-weaker (IsBelow bound) (λ place. IsBelow bound (without part place)) (λ place b. below_without bound part place b) owners below)

below_slot : (bound slots part slot : ℕ) (owners : List (Option ℕ)) (b : Bool) → part < bound → AreBelow bound owners → AreBelow bound (cond b (slice_set owners slot (Some part)) owners)
below_slot bound slots part slot owners true low below = All-set (IsBelow bound) owners slot (Some part) low below
below_slot bound slots part slot owners false low below = below

below_steps : (bound slots part n : ℕ) (owners : List (Option ℕ)) → part < bound → AreBelow bound owners → AreBelow bound (after_steps (claimed_slot slots part) 0 n owners)
unfolding after_steps
below_steps bound slots part zero owners low below = below
below_steps bound slots part (suc n) owners low below = below_slot bound slots part (0 + n) (after_steps (claimed_slot slots part) 0 n owners) (bit_at slots (0 + n) == 1) low (below_steps bound slots part n owners low below)

pub below_claimed : (bound slots part : ℕ) (owners : List (Option ℕ)) → part < bound → AreBelow bound owners → AreBelow bound (claimed slots part owners)
below_claimed bound slots part owners low below = below_steps bound slots part (length owners) owners low below

length_slot : (slot part : ℕ) (owners : List (Option ℕ)) (b : Bool) → length (cond b (slice_set owners slot (Some part)) owners) ≡ length owners
length_slot slot part owners true = length-set owners slot (Some part)
length_slot slot part owners false = refl

length_steps : (slots part n : ℕ) (owners : List (Option ℕ)) → length (after_steps (claimed_slot slots part) 0 n owners) ≡ length owners
unfolding after_steps
length_steps slots part zero owners = refl
length_steps slots part (suc n) owners = length_slot (0 + n) part (after_steps (claimed_slot slots part) 0 n owners) (bit_at slots (0 + n) == 1) ∙ length_steps slots part n owners

pub length_claimed : (slots part : ℕ) (owners : List (Option ℕ)) → length (claimed slots part owners) ≡ length owners
length_claimed slots part owners = length_steps slots part (length owners) owners

-- one slot more
pub claimed_more : (slots part n : ℕ) (owners : List (Option ℕ)) → after_steps (claimed_slot slots part) 0 (n + 1) owners ≡ claimed_slot slots part n (after_steps (claimed_slot slots part) 0 n owners)
claimed_more slots part n owners =
    let same : n - 0 ≡ n = omega arith in
    steps_more (claimed_slot slots part) 0 n (n + 1) owners (omega arith) (omega arith)
    ∙ ap (λ k. claimed_slot slots part n (after_steps (claimed_slot slots part) 0 k owners)) same

-- a vector whose items were written through a slice
pub below_taken : (bound len : ℕ) (new items : List (Option ℕ)) → length new ≡ len → AreBelow bound new → AreBelow bound (take len (new ++ drop (length new) items))
below_taken bound len new items same below = All-same (IsBelow bound) (take len (new ++ drop (length new) items)) new (take_at new (drop (length new) items) len same) below

pub length_taken : (len : ℕ) (new items : List (Option ℕ)) → length new ≡ len → length (take len (new ++ drop (length new) items)) ≡ len
length_taken len new items same = ap length (take_at new (drop (length new) items) len same) ∙ same

-- the owner of a slot after a part has left
pub freed_at : (part : ℕ) (owners : List (Option ℕ)) (slot : ℕ) → get_or (map (without part) owners) slot None ≡ without part (get_or owners slot None)
freed_at part [] slot = refl
freed_at part (owner ∷ owners) zero = refl
freed_at part (owner ∷ owners) (suc slot) = freed_at part owners slot

-- the owner of a slot after a part has come
step_here : (part slot : ℕ) (owners : List (Option ℕ)) (b : Bool) (before : Option ℕ) → slot < length owners → get_or owners slot None ≡ before → get_or (cond b (slice_set owners slot (Some part)) owners) slot None ≡ cond b (Some part) before
step_here part slot owners true before inside e = get_or-set_same owners slot (Some part) None inside
step_here part slot owners false before inside e = e

step_there : (part slot other : ℕ) (owners : List (Option ℕ)) (b : Bool) → (other ≡ slot → ⊥) → get_or (cond b (slice_set owners slot (Some part)) owners) other None ≡ get_or owners other None
step_there part slot other owners true apart = get_or-set_other owners slot other (Some part) None apart
step_there part slot other owners false apart = refl

steps_at : (slots part n : ℕ) (owners : List (Option ℕ)) (slot : ℕ) → n ≤ length owners → get_or (after_steps (claimed_slot slots part) 0 n owners) slot None ≡ cond (nat_lt slot n && bit_at slots slot == 1) (Some part) (get_or owners slot None)
unfolding after_steps
steps_at slots part zero owners slot low =
    let none : nat_lt slot 0 ≡ false = le-ltb slot 0 (omega arith) in
    sym (ap (λ b. cond (b && bit_at slots slot == 1) (Some part) (get_or owners slot None)) none)
steps_at slots part (suc n) owners slot low = elim (cases_eq slot n) [
  | inl same ↦
      let zero_more : 0 + n ≡ n = omega arith in
      let done = after_steps (claimed_slot slots part) 0 n owners in
      let inside : n < length done = omega (arith, length_steps slots part n owners) in
      let before : get_or done n None ≡ get_or owners n None =
      let none : nat_lt n n ≡ false = le-ltb n n (omega arith) in
      steps_at slots part n owners n (omega arith) ∙ ap (λ b. cond (b && bit_at slots n == 1) (Some part) (get_or owners n None)) none in
      let now : nat_lt n (suc n) ≡ true = lt-ltb n (suc n) (omega arith) in
      let P : ℕ → Type 0 = λ m. get_or (claimed_slot slots part (0 + n) done) m None ≡ cond (nat_lt m (suc n) && bit_at slots m == 1) (Some part) (get_or owners m None) in
      let Q : ℕ → Type 0 = λ m. get_or (claimed_slot slots part m done) n None ≡ cond (nat_lt n (suc n) && bit_at slots n == 1) (Some part) (get_or owners n None) in
      subst P (sym same) (subst Q (sym zero_more) (step_here part n done (bit_at slots n == 1) (get_or owners n None) inside before ∙ sym (ap (λ b. cond (b && bit_at slots n == 1) (Some part) (get_or owners n None)) now)))
  | inr apart ↦
      let done = after_steps (claimed_slot slots part) 0 n owners in
      let order : nat_lt slot n ≡ nat_lt slot (suc n) = grind (arith, nat_tests) in
      step_there part (0 + n) slot done (bit_at slots (0 + n) == 1) (λ e. apart (omega arith))
      ∙ steps_at slots part n owners slot (omega arith)
      ∙ ap (λ b. cond (b && bit_at slots slot == 1) (Some part) (get_or owners slot None)) order
]

pub claimed_at : (slots part : ℕ) (owners : List (Option ℕ)) (slot : ℕ) → get_or (claimed slots part owners) slot None ≡ cond (nat_lt slot (length owners) && bit_at slots slot == 1) (Some part) (get_or owners slot None)
claimed_at slots part owners slot = steps_at slots part (length owners) owners slot (omega arith)
