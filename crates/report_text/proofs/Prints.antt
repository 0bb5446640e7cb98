-- How what was printed goes on.
use Rattle.std.proofs.Common.{◌≡◌, ℕ, Bool, List, [], ◌++◌, Option, append-nil, append_assoc, subst, sym}
use Rattle.soc_io.specs.Writing.{Printed}

-- behind every text that was printed so far one more is printed: the sink held `mid` with so many faults,
-- and holds `new` then
abbrev pub GoesOn : List ℕ → Option (List ℕ) → ℕ → Bool → Option (List ℕ) → ℕ → Bool → Type 0
GoesOn more mid between stopped new now failed =
    (text : List ℕ) (old : Option (List ℕ)) (before : ℕ)
    → Printed text old before mid between stopped → Printed (text ++ more) old before new now failed

-- one text and then another
pub prints_then : (one other : List ℕ) (mid : Option (List ℕ)) (between : ℕ) (stopped : Bool) (late : Option (List ℕ))
    (later : ℕ) (over : Bool) (new : Option (List ℕ)) (now : ℕ) (failed : Bool)
    → GoesOn one mid between stopped late later over → GoesOn other late later over new now failed
    → GoesOn (one ++ other) mid between stopped new now failed
prints_then one other mid between stopped late later over new now failed first next =
    λ text old before so_far. let P : List ℕ → Type 0 =
    λ t. Printed t old before new now failed in subst P (append_assoc text one other)
    (next (text ++ one) old before (first text old before so_far))

-- the same text
pub prints_same : (one other : List ℕ) (mid : Option (List ℕ)) (between : ℕ) (stopped : Bool) (new : Option (List ℕ))
    (now : ℕ) (failed : Bool)
    → one ≡ other → GoesOn one mid between stopped new now failed → GoesOn other mid between stopped new now failed
prints_same one other mid between stopped new now failed e prints =
    let P : List ℕ → Type 0 = λ t. GoesOn t mid between stopped new now failed in subst P e prints

-- no text
pub prints_none : (mid : Option (List ℕ)) (between : ℕ) (stopped : Bool)
    → GoesOn [] mid between stopped mid between stopped
prints_none mid between stopped =
    λ text old before so_far. let P : List ℕ → Type 0 =
    λ t. Printed t old before mid between stopped in subst P (sym (append-nil text)) so_far
