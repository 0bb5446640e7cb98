-- How the parts that are held and next follow the owners.
use Rattle.std.proofs.Common.{◌≡◌, ℕ, ◌+◌, ◌*◌, ◌%◌, ◌<◌, ◌≤◌, ◌==◌, Bool, true, false, cond, ◌&&◌, nat_lt, nat_le, List, get_or, map, length, Option, Some, None, IfSome, refl, sym, subst, ap, ◌∙◌, inl, inr, arith}
use Rattle.std.specs.Int.{bit_at}
use Rattle.std.proofs.lemmas.Bool.{cases_eq, cases_Bool, eq-eqb, ne_eqb, eqb-true, le-leb, lt-leb, and_parts}
use Rattle.std.proofs.lemmas.Option.{IfSome_then}
use Rattle.soc_base.specs.Time.{FrameTimes, instance_cycles, instance_at, offset_at, served_at, is_among, runs}
use Rattle.soc_base.specs.Frame.{IsFrame}
use Rattle.comik.specs.Kernel.{KernelState, AreFree, least_slot, without, has, owner_at, fresh_kernel}
use Rattle.comik.specs.Parts.{prepared, cleared}
use Rattle.comik.specs.Table.{kernel_cycle}
use Rattle.comik.specs.Turn.{if_began, part_of_instance, InTurn, TurnOf}
use Rattle.comik.proofs.Times.{next_cycle, cycle_split}
use Rattle.comik.proofs.Owners.{claimed_at, freed_at}
use Rattle.comik.proofs.Rows.{row_parts}
use Rattle.comik.proofs.Whole.{none_at}

began_all : (starts : ℕ → ℕ) (at : ℕ) (place : Option ℕ) → IfSome place (λ part. starts part ≤ at) → if_began starts at place ≡ place
began_all starts at None begun = refl
began_all starts at (Some part) begun = let e : nat_le (starts part) at ≡ true = le-leb (starts part) at begun in rw e

-- a row
row_turn : (times : FrameTimes) (owners : List (Option ℕ)) (held next : Option ℕ) (starts : ℕ → ℕ) (c : ℕ) → IsFrame times → InTurn times owners held next starts c → InTurn times owners (cond (offset_at times c == 33) next held) (cond (offset_at times c == 0) (get_or owners (served_at times c) None) next) starts (c + 1)
row_turn times owners held next starts c frame turn =
    let o = offset_at times c in
    let n = instance_at times c in
    let goes = next_cycle times c frame in
    let latch : cond (o == 0) (get_or owners (served_at times c) None) next ≡ part_of_instance times owners starts n = elim (cases_eq o 0) [
      | inl first ↦
          let test : (o == 0) ≡ true = eq-eqb o 0 first in
          let begins : c ≡ n * instance_cycles times = omega (arith, cycle_split times c, first) in
          let P : ℕ → Type 0 = λ at. if_began starts at (get_or owners (served_at times c) None) ≡ get_or owners (served_at times c) None in
          ap (λ t. cond t (get_or owners (served_at times c) None) next) test ∙ sym (subst P begins (began_all starts c (get_or owners (served_at times c) None) (turn.begun (served_at times c))))
      | inr later ↦
          let test : (o == 0) ≡ false = ne_eqb o 0 later in
          ap (λ t. cond t (get_or owners (served_at times c) None) next) test ∙ turn.next_is (omega arith)
    ] in
    let swap : 33 ≤ o → cond (o == 33) next held ≡ part_of_instance times owners starts n = λ high. elim (cases_eq o 33) [
      | inl now ↦
          let test : (o == 33) ≡ true = eq-eqb o 33 now in
          ap (λ t. cond t next held) test ∙ turn.next_is (omega arith)
      | inr other ↦
          let test : (o == 33) ≡ false = ne_eqb o 33 other in
          ap (λ t. cond t next held) test ∙ turn.held_is (omega arith)
    ] in
    record {
      next_is = λ some. elim goes [
        | inl same ↦ latch ∙ sym (ap (part_of_instance times owners starts) same.0)
        | inr begins ↦ let none = begins.1 in absurd (omega arith)
      ];
      held_is = λ late. elim goes [
        | inl same ↦ let more = same.1 in swap (omega arith) ∙ sym (ap (part_of_instance times owners starts) same.0)
        | inr begins ↦ let none = begins.1 in absurd (omega arith)
      ];
      begun = λ slot. IfSome_then (get_or owners slot None) (turn.begun slot) (λ part by. let low : starts part ≤ c = by in omega arith);
    }

pub turn_cycle : (k : KernelState) (starts : ℕ → ℕ) (c : ℕ) → IsFrame k.times → TurnOf k starts c → TurnOf (kernel_cycle k c) starts (c + 1)
turn_cycle k starts c frame turn =
    let parts = row_parts k (served_at k.times c) (offset_at k.times c) in
    let done = row_turn k.times k.owners k.held k.next starts c frame turn in
    let after = kernel_cycle k c in
    let one = subst (λ (t : FrameTimes). InTurn t k.owners (cond (offset_at k.times c == 33) k.next k.held) (cond (offset_at k.times c == 0) (owner_at k (served_at k.times c)) k.next) starts (c + 1)) (sym parts.times) done in
    let two = subst (λ (os : List (Option ℕ)). InTurn after.times os (cond (offset_at k.times c == 33) k.next k.held) (cond (offset_at k.times c == 0) (owner_at k (served_at k.times c)) k.next) starts (c + 1)) (sym parts.owners) one in
    let three = subst (λ (h : Option ℕ). InTurn after.times after.owners h (cond (offset_at k.times c == 0) (owner_at k (served_at k.times c)) k.next) starts (c + 1)) (sym parts.held) two in
    subst (λ (n : Option ℕ). InTurn after.times after.owners after.held n starts (c + 1)) (sym parts.next) three

-- a part that leaves
began_without : (starts : ℕ → ℕ) (at part : ℕ) (place : Option ℕ) → if_began starts at (without part place) ≡ without part (if_began starts at place)
began_without starts at part None = refl
began_without starts at part (Some other) =
    let both : (same by : Bool) → (by ≡ nat_le (starts other) at) → (same ≡ (other == part)) → if_began starts at (cond same None (Some other)) ≡ without part (cond by (Some other) None) = λ same by. elim same as (λ same. (by ≡ nat_le (starts other) at) → (same ≡ (other == part)) → if_began starts at (cond same None (Some other)) ≡ without part (cond by (Some other) None)) [
      | true ↦ elim by as (λ by. (by ≡ nat_le (starts other) at) → (true ≡ (other == part)) → None ≡ without part (cond by (Some other) None)) [
        | true ↦ λ p q. ap (λ t. cond t None (Some other)) q
        | false ↦ λ p q. refl
      ]
      | false ↦ elim by as (λ by. (by ≡ nat_le (starts other) at) → (false ≡ (other == part)) → cond (nat_le (starts other) at) (Some other) None ≡ without part (cond by (Some other) None)) [
        | true ↦ λ p q. sym (ap (λ t. cond t (Some other) None) p) ∙ ap (λ t. cond t None (Some other)) q
        | false ↦ λ p q. sym (ap (λ t. cond t (Some other) None) p)
      ]
    ] in
    both (other == part) (nat_le (starts other) at) refl refl

instance_without : (times : FrameTimes) (owners : List (Option ℕ)) (starts : ℕ → ℕ) (part n : ℕ) → part_of_instance times (map (without part) owners) starts n ≡ without part (part_of_instance times owners starts n)
instance_without times owners starts part n =
    ap (if_began starts (n * instance_cycles times)) (freed_at part owners (n % times.slots))
    ∙ began_without starts (n * instance_cycles times) part (get_or owners (n % times.slots) None)

without_weaker : (P : ℕ → Type 0) (part : ℕ) (place : Option ℕ) → IfSome place P → IfSome (without part place) P
without_weaker P part None holds = tt
without_weaker P part (Some other) holds = elim (other == part) as (λ b. IfSome (cond b None (Some other)) P) [ true ↦ tt | false ↦ holds ]

pub turn_cleared : (k : KernelState) (starts : ℕ → ℕ) (part c : ℕ) → TurnOf k starts c → TurnOf (cleared k part) starts c
turn_cleared k starts part c turn = record {
  next_is = λ some. ap (without part) (turn.next_is some) ∙ sym (instance_without k.times k.owners starts part (instance_at k.times c));
  held_is = λ late. ap (without part) (turn.held_is late) ∙ sym (instance_without k.times k.owners starts part (instance_at k.times c));
  begun = λ slot.
      let P : Option ℕ → Type 0 = λ place. IfSome place (λ p. starts p ≤ c) in
      subst P (sym (freed_at part k.owners slot)) (without_weaker (λ p. starts p ≤ c) part (get_or k.owners slot None) (turn.begun slot));
}

IfSome_and : (P Q R : ℕ → Type 0) (place : Option ℕ) → IfSome place P → IfSome place Q → ((p : ℕ) → P p → Q p → R p) → IfSome place R
IfSome_and P Q R None p q both = tt
IfSome_and P Q R (Some part) p q both = both part p q

-- a part that comes
began_late : (starts : ℕ → ℕ) (at part : ℕ) → at < starts part → if_began starts at (Some part) ≡ None
began_late starts at part late = let e : nat_le (starts part) at ≡ false = lt-leb (starts part) at late in rw e

began_same : (starts later : ℕ → ℕ) (at : ℕ) (place : Option ℕ) → IfSome place (λ part. later part ≡ starts part) → if_began later at place ≡ if_began starts at place
began_same starts later at None same = refl
began_same starts later at (Some part) same = ap (λ (s : ℕ). cond (nat_le s at) (Some part) None) same

instance_prepared : (k : KernelState) (starts later : ℕ → ℕ) (slots c n : ℕ) → AreFree k slots → later (least_slot slots) ≡ c → ((slot : ℕ) → IfSome (owner_at k slot) (λ part. later part ≡ starts part)) → n * instance_cycles k.times < c → part_of_instance k.times (prepared k slots 0).owners later n ≡ part_of_instance k.times k.owners starts n
instance_prepared k starts later slots c n free now same before =
    let slot = n % k.times.slots in
    let at = n * instance_cycles k.times in
    let part = least_slot slots in
    ap (if_began later at) (claimed_at slots part k.owners slot)
    ∙ elim (cases_Bool (nat_lt slot (length k.owners) && bit_at slots slot == 1)) [
      | inl taken ↦
          let bit : bit_at slots slot ≡ 1 = eqb-true (bit_at slots slot) 1 (and_parts (nat_lt slot (length k.owners)) (bit_at slots slot == 1) taken).1 in
          let none : owner_at k slot ≡ None = free slot bit in
          ap (λ b. if_began later at (cond b (Some part) (owner_at k slot))) taken
          ∙ began_late later at part (omega arith)
          ∙ sym (ap (if_began starts at) none)
      | inr left ↦
          ap (λ b. if_began later at (cond b (Some part) (owner_at k slot))) left
          ∙ began_same starts later at (owner_at k slot) (same slot)
    ]

pub turn_prepared : (k : KernelState) (starts later : ℕ → ℕ) (slots entry c : ℕ) → AreFree k slots → later (least_slot slots) ≡ c → ((slot : ℕ) → IfSome (owner_at k slot) (λ part. later part ≡ starts part)) → TurnOf k starts c → TurnOf (prepared k slots entry) later c
turn_prepared k starts later slots entry c free now same turn =
    let part = least_slot slots in
    let within : 0 < offset_at k.times c → instance_at k.times c * instance_cycles k.times < c = λ some. omega (arith, cycle_split k.times c) in
    record {
      next_is = λ some. turn.next_is some ∙ sym (instance_prepared k starts later slots c (instance_at k.times c) free now same (within some));
      held_is = λ late. turn.held_is late ∙ sym (instance_prepared k starts later slots c (instance_at k.times c) free now same (within (omega arith)));
      begun = λ slot.
          let P : Option ℕ → Type 0 = λ place. IfSome place (λ p. later p ≤ c) in
          let old : P (owner_at k slot) = IfSome_and (λ p. later p ≡ starts p) (λ p. starts p ≤ c) (λ p. later p ≤ c) (owner_at k slot) (same slot) (turn.begun slot) (λ p e low. let s : later p ≡ starts p = e in let l : starts p ≤ c = low in omega arith) in
          let new : later part ≤ c = omega arith in
          let both : (b : Bool) → P (cond b (Some part) (owner_at k slot)) = λ b. elim b as (λ b. P (cond b (Some part) (owner_at k slot))) [ true ↦ new | false ↦ old ] in
          subst P (sym (claimed_at slots part k.owners slot)) (both (nat_lt slot (length k.owners) && bit_at slots slot == 1));
    }

-- the part that is held past the microkernel's cycles is the one that runs
has_began : (starts : ℕ → ℕ) (at part : ℕ) (place : Option ℕ) → has part (if_began starts at place) ≡ (has part place && nat_le (starts part) at)
has_began starts at part None = refl
has_began starts at part (Some other) = elim (cases_eq other part) [
  | inl same ↦
      let P : ℕ → Type 0 = λ q. has part (if_began starts at (Some q)) ≡ (has part (Some q) && nat_le (starts part) at) in
      let here : (part == part) ≡ true = eq-eqb part part refl in
      let both : (b : Bool) → has part (cond b (Some part) None) ≡ (cond b (part == part) false) = λ b. elim b as (λ b. has part (cond b (Some part) None) ≡ (cond b (part == part) false)) [ true ↦ refl | false ↦ refl ] in
      let then : (b : Bool) → cond b (part == part) false ≡ ((part == part) && b) = λ b. elim b as (λ b. cond b (part == part) false ≡ ((part == part) && b)) [ true ↦ here ∙ sym (ap (λ t. t && true) here) | false ↦ sym (ap (λ t. t && false) here) ] in
      subst P (sym same) (both (nat_le (starts part) at) ∙ then (nat_le (starts part) at))
  | inr differs ↦
      let there : (other == part) ≡ false = ne_eqb other part differs in
      let both : (b : Bool) → has part (cond b (Some other) None) ≡ false = λ b. elim b as (λ b. has part (cond b (Some other) None) ≡ false) [ true ↦ there | false ↦ refl ] in
      both (nat_le (starts other) at) ∙ sym (ap (λ t. t && nat_le (starts part) at) there)
]

pub held_runs : (times : FrameTimes) (owners : List (Option ℕ)) (held next : Option ℕ) (starts : ℕ → ℕ) (slots : List ℕ) (part c : ℕ) → IsFrame times → InTurn times owners held next starts c → times.kernel ≤ offset_at times c → has part (get_or owners (served_at times c) None) ≡ is_among (served_at times c) slots → has part held ≡ runs times slots (starts part) c
held_runs times owners held next starts slots part c frame turn past owns =
    let least = frame.kernel_least in
    let at = instance_at times c * instance_cycles times in
    let test : nat_le times.kernel (offset_at times c) ≡ true = le-leb times.kernel (offset_at times c) past in
    ap (has part) (turn.held_is (omega arith))
    ∙ has_began starts at part (get_or owners (served_at times c) None)
    ∙ ap (λ b. b && nat_le (starts part) at) owns
    ∙ sym (ap (λ b. b && is_among (served_at times c) slots && nat_le (starts part) at) test)

-- before the first cycle
pub turn_fresh : (times : FrameTimes) (starts : ℕ → ℕ) → TurnOf (fresh_kernel times) starts 0
turn_fresh times starts =
    let first : offset_at times 0 ≡ 0 = omega arith in
    record {
      next_is = λ some. absurd (omega arith);
      held_is = λ some. absurd (omega arith);
      begun = λ slot. subst (λ (o : Option ℕ). IfSome o (λ part. starts part ≤ 0)) (sym (none_at times slot)) tt;
    }
