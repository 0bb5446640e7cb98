-- How what was printed goes on.
use Rattle.std.proofs.Common.{◌≡◌, ℕ, ◌≤◌, Bool, true, false, List, [], ◌++◌, take, drop, Option, Some, None, Result, Ok, Err, is_err, if◌then◌else◌, append-nil, append_assoc, refl, sym, subst, ◌∙◌, ap, arith}
use Rattle.std.proofs.lemmas.List.{take-append-drop}
use Rattle.soc_io.specs.declared.sink.SinkFault.{SinkFault}
use Rattle.soc_io.specs.declared.sink.SinkFault.TheVariants.{Failed}
use Rattle.soc_io.specs.Writing.{Appends, AppendsFront, Writes, Printed}

-- the first n of the bytes are a front of them
pub front_taken : (old bytes : List ℕ) (n : ℕ) (new : List ℕ) → new ≡ old ++ take n bytes → AppendsFront (Some old) bytes (Some new)
front_taken old bytes n new e = (take n bytes, drop n bytes, sym (take-append-drop n bytes), ap Some e)

-- appending nothing changes nothing
pub appends_nothing : (old : Option (List ℕ)) → Appends old [] old
appends_nothing (Some old) = ap Some (sym (append-nil old))
appends_nothing None = refl

-- what is appended after a text comes behind it
pub appends_then : (old : Option (List ℕ)) (text : List ℕ) (mid : Option (List ℕ)) (bytes : List ℕ) (new : Option (List ℕ)) → Appends old text mid → Appends mid bytes new → Appends old (text ++ bytes) new
appends_then (Some old) text mid bytes new first next =
    let P : Option (List ℕ) → Type 0 = λ m. Appends m bytes new in
    subst P first next ∙ ap Some (append_assoc old text bytes)
appends_then None text mid bytes new first next =
    let P : Option (List ℕ) → Type 0 = λ m. Appends m bytes new in
    subst P first next

-- a front of what comes behind a text
pub appends_then_front : (old : Option (List ℕ)) (text : List ℕ) (mid : Option (List ℕ)) (bytes : List ℕ) (new : Option (List ℕ)) → Appends old text mid → AppendsFront mid bytes new → AppendsFront old (text ++ bytes) new
appends_then_front (Some old) text mid bytes new first next =
    let P : Option (List ℕ) → Type 0 = λ m. AppendsFront m bytes new in
    let (front, rest, whole, is) = subst P first next in
    (text ++ front, rest, ap (λ b. text ++ b) whole ∙ sym (append_assoc text front rest), is ∙ ap Some (append_assoc old text front))
appends_then_front None text mid bytes new first next =
    let P : Option (List ℕ) → Type 0 = λ m. AppendsFront m bytes new in
    subst P first next

-- a front of a text is a front of a longer one
pub front_of_longer : (old : Option (List ℕ)) (text bytes : List ℕ) (new : Option (List ℕ)) → AppendsFront old text new → AppendsFront old (text ++ bytes) new
front_of_longer (Some old) text bytes new (front, rest, whole, is) = (front, rest ++ bytes, ap (λ t. t ++ bytes) whole ∙ append_assoc front rest bytes, is)
front_of_longer None text bytes new e = e

-- before the first write nothing is printed
pub printed_nothing : (old : Option (List ℕ)) (before : ℕ) → Printed [] old before old before false
printed_nothing old before = record { counted = omega arith; so_far = appends_nothing old }

-- a write of more of a text
pub printed_then : (text : List ℕ) (old : Option (List ℕ)) (before : ℕ) (mid : Option (List ℕ)) (between : ℕ) (bytes : List ℕ) (new : Option (List ℕ)) (now : ℕ) (result : Result Unit SinkFault) → Printed text old before mid between false → between ≤ now → Writes bytes mid between new now result → Printed (text ++ bytes) old before new now (is_err result)
printed_then text old before mid between bytes new now (Ok done) so_far later wrote =
    record { counted = omega (arith, so_far.counted, later); so_far = appends_then old text mid bytes new so_far.so_far wrote }
printed_then text old before mid between bytes new now (Err fault) so_far later wrote =
    record { counted = omega (arith, so_far.counted, later); so_far = (appends_then_front old text mid bytes new so_far.so_far wrote.0, omega (arith, so_far.counted, wrote.1)) }

-- nothing is written after a failure, so what was printed is a front of the longer text too
pub printed_stopped : (text : List ℕ) (old : Option (List ℕ)) (before : ℕ) (bytes : List ℕ) (new : Option (List ℕ)) (now : ℕ) → Printed text old before new now true → Printed (text ++ bytes) old before new now true
printed_stopped text old before bytes new now so_far =
    record { counted = so_far.counted; so_far = (front_of_longer old text bytes new so_far.so_far.0, so_far.so_far.1) }

-- what a caller's function that prints pieces ensures: the text was printed
pub writes_of_printed : (text : List ℕ) (old : Option (List ℕ)) (before : ℕ) (new : Option (List ℕ)) (now : ℕ) (failed : Bool) → Printed text old before new now failed → Writes text old before new now (if failed then Err Failed else Ok (tt {0}))
writes_of_printed text old before new now true so_far = so_far.so_far
writes_of_printed text old before new now false so_far = so_far.so_far
