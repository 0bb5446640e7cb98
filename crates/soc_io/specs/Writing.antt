-- What reaches a sink, where that is told.
use Rattle.std.specs.Prelude.{◌≡◌, ℕ, ◌≤◌, Bool, List, ◌++◌, Option, Some, None, Result, Ok, Err, MatchBool}
use Rattle.soc_io.specs.declared.sink.SinkFault.{SinkFault}
use Rattle.soc_io.specs.Counts.{Rose}

-- all of the bytes were appended
abbrev pub Appends : Option (List ℕ) → List ℕ → Option (List ℕ) → Type 0
Appends (Some old) bytes new = new ≡ Some (old ++ bytes)
Appends None bytes new = new ≡ None

-- a front of the bytes was appended, maybe none of them, maybe all
abbrev pub AppendsFront : Option (List ℕ) → List ℕ → Option (List ℕ) → Type 0
AppendsFront (Some old) bytes new =
    (front : List ℕ) × (rest : List ℕ) × (bytes ≡ front ++ rest) × (new ≡ Some (old ++ front))
AppendsFront None bytes new = new ≡ None

-- what a write may answer, where the sink holds `old` before and `new` after, and its count of
-- faults goes from `before` to `now`
abbrev pub Writes : List ℕ → Option (List ℕ) → ℕ → Option (List ℕ) → ℕ → Result Unit SinkFault → Type 0
Writes bytes old before new now (Ok done) = Appends old bytes new
Writes bytes old before new now (Err fault) = AppendsFront old bytes new × Rose before now

-- a text was printed in as many writes as it took: whole, or, where one of them failed, a front of it
pub record Printed (text : List ℕ) (old : Option (List ℕ)) (before : ℕ)
    (new : Option (List ℕ)) (now : ℕ) (failed : Bool) : Type 0 where
  pub counted : before ≤ now
  pub so_far : MatchBool failed (AppendsFront old text new × Rose before now) (Appends old text new)
