-- What the lines so far say of a whole script.
use Rattle.std.proofs.Common.{◌≡◌, ℕ, ◌+◌, ◌<◌, ◌≤◌, Bool, true, false, List, [], ◌∷◌, ◌++◌, length, map, take, drop, get_or, min, cond, nat_lt, Option, Some, None, Result, Ok, Err, refl, sym, ap, ◌∙◌, append_assoc, length-append, arith}
use Rattle.std.specs.List.{slice_split, cons_option}
use Rattle.std.specs.Str.Lines.{strip_carriage_return}
use Rattle.std.proofs.lemmas.Bool.{lt-ltb, le-ltb, ltb-true, ltb-false}
use Rattle.std.proofs.lemmas.List.{append-nil, take-append-le, take_all, drop_more, at_drop_all}
use Rattle.std.proofs.lemmas.List.Splits.{length-slice_split}
use Rattle.std.proofs.lemmas.List.Sums.{count_by-le-length}
use Rattle.script_file.specs.Lines.{is_line_feed, without_empty_end, lines_of}
use Rattle.script_file.specs.Commands.{first_fault, fault_or, commands_in_lines, command_in, line_meaning, script_meant, unless_fault, within_room}
use Rattle.script_file.specs.inner.Keeping.{kept_with}
use Rattle.script_file.specs.declared.command.Command.{Command}
use Rattle.script_file.specs.declared.rules.SRule.{SRule}
use Rattle.script_file.specs.declared.rules.ScriptFault.{ScriptFault}
use Rattle.script_file.specs.declared.rules.ScriptFault.TheVariants.{Line, TooMany}

abbrev pub pieces_of : List ℕ → List (List ℕ)
pieces_of bytes = slice_split is_line_feed bytes

-- the first fault of the lines that pieces are
abbrev pub fault_in : ℕ → List (List ℕ) → Option ScriptFault
fault_in number pieces = first_fault number (map strip_carriage_return pieces)

-- the commands of the lines that pieces are
abbrev pub commands_in : List (List ℕ) → List Command
commands_in pieces = commands_in_lines (map strip_carriage_return pieces)

-- the last empty piece is a blank line
fault_of_all : (number : ℕ) (pieces : List (List ℕ))
    → fault_in number (without_empty_end pieces) ≡ fault_in number pieces
fault_of_all number [] = refl
fault_of_all number ([] ∷ []) = refl
fault_of_all number ((byte ∷ bytes) ∷ []) =
    ap (λ full. fault_in number (cond full ((byte ∷ bytes) ∷ []) [])) (lt-ltb 0 (length (byte ∷ bytes)) (omega arith))
fault_of_all number (piece ∷ next ∷ pieces) =
    ap (fault_or (line_meaning (strip_carriage_return piece)) number) (fault_of_all (number + 1) (next ∷ pieces))

commands_of_all : (pieces : List (List ℕ)) → commands_in (without_empty_end pieces) ≡ commands_in pieces
commands_of_all [] = refl
commands_of_all ([] ∷ []) = refl
commands_of_all ((byte ∷ bytes) ∷ []) =
    ap (λ full. commands_in (cond full ((byte ∷ bytes) ∷ []) [])) (lt-ltb 0 (length (byte ∷ bytes)) (omega arith))
commands_of_all (piece ∷ next ∷ pieces) =
    ap (cons_option (command_in (line_meaning (strip_carriage_return piece)))) (commands_of_all (next ∷ pieces))

abbrev meant_by : Option ScriptFault → ℕ → List Command → Result (List Command) ScriptFault
meant_by fault room commands = unless_fault fault (within_room room commands)

whole : (bytes : List ℕ) (room : ℕ)
    → script_meant bytes room ≡ meant_by (fault_in 1 (pieces_of bytes)) room (commands_in (pieces_of bytes))
unfolding script_meant
whole bytes room =
    ap (λ fault. meant_by fault room (commands_in_lines (lines_of bytes))) (fault_of_all 1 (pieces_of bytes))
    ∙ ap (meant_by (fault_in 1 (pieces_of bytes)) room) (commands_of_all (pieces_of bytes))

pub few_pieces : (bytes : List ℕ) → length (pieces_of bytes) ≤ length bytes + 1
few_pieces bytes =
    let same = length-slice_split is_line_feed bytes in
    let few = count_by-le-length is_line_feed bytes in
    omega (arith, same, few)

-- so many pieces were read: none breaks a rule, and they have so many commands, of which those are
-- kept that there is room for
pub record IsRead (bytes : List ℕ) (room done number count : ℕ) (commands : List Command) : Type 0 where
  pub numbered : number ≡ done + 1
  pub few : count ≤ done
  pub fault : fault_in 1 (pieces_of bytes) ≡ fault_in number (drop done (pieces_of bytes))
  pub counted : length (commands_in (pieces_of bytes)) ≡ count + length (commands_in (drop done (pieces_of bytes)))
  pub kept : take room (commands_in (pieces_of bytes))
      ≡ take room (commands ++ commands_in (drop done (pieces_of bytes)))
  pub full : length commands ≡ min count room

pub read_none : (bytes : List ℕ) (room : ℕ) → IsRead bytes room 0 1 0 []
read_none bytes room =
    record {
      numbered = refl;
      few = omega arith;
      fault = refl;
      counted = omega arith;
      kept = refl;
      full = omega arith;
    }

count_more : (command : Option Command) (tail : List Command)
    → length (cons_option command tail) ≡ length (cons_option command []) + length tail
count_more None tail = omega arith
count_more (Some command) tail = omega arith

at_most_one : (command : Option Command) → length (cons_option command []) ≤ 1
at_most_one None = omega arith
at_most_one (Some command) = omega arith

more_kept : (room count : ℕ) (commands tail : List Command) (command : Option Command) (has_room : Bool)
    → nat_lt count room ≡ has_room → length commands ≡ min count room
    → take room (commands ++ cons_option command tail)
    ≡ take room (cond has_room (commands ++ cons_option command []) commands ++ tail)
more_kept room count commands tail None true is full = ap (λ l. take room (l ++ tail)) (sym (append-nil commands))
more_kept room count commands tail None false is full = refl
more_kept room count commands tail (Some command) true is full =
    ap (take room) (sym (append_assoc commands (command ∷ []) tail))
more_kept room count commands tail (Some command) false is full =
    let over = ltb-false count room is in
    let long : room ≤ length commands = omega (arith, over, full) in
    take-append-le room commands (command ∷ tail) long ∙ sym (take-append-le room commands tail long)

more_full : (room count : ℕ) (commands : List Command) (command : Option Command) (has_room : Bool)
    → nat_lt count room ≡ has_room → length commands ≡ min count room
    → length (cond has_room (commands ++ cons_option command []) commands)
    ≡ min (count + length (cons_option command [])) room
more_full room count commands command true is full =
    let under = ltb-true count room is in
    let one = at_most_one command in
    let long = length-append commands (cons_option command []) in
    omega (arith, under, one, long, full)
more_full room count commands command false is full =
    let over = ltb-false count room is in
    omega (arith, over, full)

abbrev pub IsNext : List ℕ → ℕ → List ℕ → Type 0
IsNext bytes done piece = (done < length (pieces_of bytes)) × (piece ≡ get_or (pieces_of bytes) done piece)

left_at : (bytes : List ℕ) (done : ℕ) (piece : List ℕ) → IsNext bytes done piece
    → drop done (pieces_of bytes) ≡ piece ∷ drop (done + 1) (pieces_of bytes)
left_at bytes done piece next =
    drop_more (pieces_of bytes) done piece next.0 ∙ ap (λ p. p ∷ drop (done + 1) (pieces_of bytes)) (sym next.1)

pub read_more : (bytes : List ℕ) (room done number count : ℕ) (commands : List Command) (piece : List ℕ)
    (command : Option Command)
    → IsRead bytes room done number count commands → IsNext bytes done piece
    → line_meaning (strip_carriage_return piece) ≡ Ok command
    → IsRead bytes room (done + 1) (number + 1) (count + length (cons_option command []))
    (kept_with commands count room command)
read_more bytes room done number count commands piece command read next meant =
    let at = left_at bytes done piece next in
    let tail = drop (done + 1) (pieces_of bytes) in
    let one = at_most_one command in
    let more = count_more command (commands_in tail) in
    let commands_at : commands_in (drop done (pieces_of bytes)) ≡ cons_option command (commands_in tail) =
    ap commands_in at ∙ ap (λ m. cons_option (command_in m) (commands_in tail)) meant in
    record {
      numbered = omega (arith, read.numbered);
      few = omega (arith, read.few, one);
      fault = read.fault ∙ ap (fault_in number) at ∙ ap (λ m. fault_or m number (fault_in (number + 1) tail)) meant;
      counted = read.counted ∙ ap (λ l. count + length l) commands_at ∙ omega (arith, more);
      kept = read.kept ∙ ap (λ l. take room (commands ++ l)) commands_at
          ∙ more_kept room count commands (commands_in tail) command (nat_lt count room) refl read.full;
      full = more_full room count commands command (nat_lt count room) refl read.full;
    }

pub read_fault : (bytes : List ℕ) (room done number count : ℕ) (commands : List Command) (piece : List ℕ)
    (rule : SRule)
    → IsRead bytes room done number count commands → IsNext bytes done piece
    → line_meaning (strip_carriage_return piece) ≡ Err rule → script_meant bytes room ≡ Err (Line number rule)
read_fault bytes room done number count commands piece rule read next meant =
    let at = left_at bytes done piece next in
    let tail = drop (done + 1) (pieces_of bytes) in
    let fault : fault_in 1 (pieces_of bytes) ≡ Some (Line number rule) =
    read.fault ∙ ap (fault_in number) at ∙ ap (λ m. fault_or m number (fault_in (number + 1) tail)) meant in
    whole bytes room ∙ ap (λ f. meant_by f room (commands_in (pieces_of bytes))) fault

no_fault : (bytes : List ℕ) (room done number count : ℕ) (commands : List Command)
    → IsRead bytes room done number count commands → done ≡ length (pieces_of bytes)
    → script_meant bytes room ≡ within_room room (commands_in (pieces_of bytes))
no_fault bytes room done number count commands read all =
    whole bytes room ∙ ap (λ f. meant_by f room (commands_in (pieces_of bytes))) (read.fault
    ∙ at_drop_all (fault_in number) (pieces_of bytes) done (omega (arith, all)))

count_all : (bytes : List ℕ) (room done number count : ℕ) (commands : List Command)
    → IsRead bytes room done number count commands → done ≡ length (pieces_of bytes)
    → length (commands_in (pieces_of bytes)) ≡ count
count_all bytes room done number count commands read all =
    let none = at_drop_all (λ pieces. length (commands_in pieces)) (pieces_of bytes) done (omega (arith, all)) in
    read.counted ∙ ap (λ n. count + n) none ∙ omega arith

pub read_too_many : (bytes : List ℕ) (room done number count : ℕ) (commands : List Command)
    → IsRead bytes room done number count commands → done ≡ length (pieces_of bytes) → room < count
    → script_meant bytes room ≡ Err TooMany
read_too_many bytes room done number count commands read all over =
    let same = count_all bytes room done number count commands read all in
    no_fault bytes room done number count commands read all
    ∙ ap (λ full. cond full (Err TooMany) (Ok (commands_in (pieces_of bytes))))
    (lt-ltb room _ (omega (arith, same, over)))

pub read_all : (bytes : List ℕ) (room done number count : ℕ) (commands : List Command)
    → IsRead bytes room done number count commands → done ≡ length (pieces_of bytes) → count ≤ room
    → script_meant bytes room ≡ Ok commands
read_all bytes room done number count commands read all within =
    let same = count_all bytes room done number count commands read all in
    let none = at_drop_all (λ pieces. take room (commands ++ commands_in pieces)) (pieces_of bytes) done
    (omega (arith, all)) in
    let kept : commands_in (pieces_of bytes) ≡ commands =
    sym (take_all room (commands_in (pieces_of bytes)) (omega (arith, same, within))) ∙ read.kept ∙ none
    ∙ ap (take room) (append-nil commands) ∙ take_all room commands (omega (arith, read.full, within)) in
    no_fault bytes room done number count commands read all
    ∙ ap (λ full. cond full (Err TooMany) (Ok (commands_in (pieces_of bytes))))
    (le-ltb room _ (omega (arith, same, within))) ∙ ap Ok kept
