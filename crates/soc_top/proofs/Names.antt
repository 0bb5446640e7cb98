-- The bundle files that commands name, one command after another.
use Rattle.std.proofs.Common.{◌≡◌, ℕ, ◌+◌, ◌≤◌, Bool, true, false, cond, ◌||◌, List, [], ◌∷◌, ◌++◌, length, length-append, fold, take, Option, Some, None, All, refl, ap, ◌∙◌, arith}
use Rattle.std.specs.List.{cons_option}
use Rattle.std.specs.Str.{bytes_eq}
use Rattle.std.proofs.lemmas.Slice.Eq.{bytes_eq-Decides}
use Rattle.std.proofs.lemmas.List.{take_all}
use Rattle.std.proofs.lemmas.List.Folds.{list_any-append}
use Rattle.std.proofs.lemmas.List.Elements.{All-nil, All-cons}
use Rattle.bundle_model.specs.Sets.{names}
use Rattle.script_file.specs.declared.command.Command.{Command}
use Rattle.script_file.specs.declared.command.Script.{Script}
use Rattle.vep_manager.specs.Loads.{loaded_name, loaded_names}
use Rattle.soc_top.specs.Run.{with_name, bundle_names}
use Rattle.soc_top.specs.inner.Naming.{with_loaded, with_command, all_commands}

-- naming one command after another names each name once
named_then : (known : List (List ℕ)) (found : Option (List ℕ)) (later : List (List ℕ))
    → fold with_name (with_loaded known found) later ≡ fold with_name known (cons_option found later)
named_then known (Some name) later = refl
named_then known None later = refl

named_from : (known : List (List ℕ)) (commands : List Command)
    → fold with_command known commands ≡ fold with_name known (loaded_names commands)
named_from known [] = refl
named_from known (command ∷ commands) =
    named_from (with_command known command) commands ∙ named_then known (loaded_name command) (loaded_names commands)

pub named_end : (scripts : List Script) (i : ℕ) (known : List (List ℕ)) → length scripts ≤ i
    → known ≡ fold with_command [] (all_commands (take i scripts)) → known ≡ bundle_names (all_commands scripts)
named_end scripts i known whole is =
    is ∙ ap (λ some. fold with_command [] (all_commands some)) (take_all i scripts whole)
    ∙ named_from [] (all_commands scripts)

-- no more names than commands
few_with : (b : Bool) (known : List (List ℕ)) (name : List ℕ)
    → length (cond b known (known ++ name ∷ [])) ≤ length known + 1
few_with true known name = omega arith
few_with false known name = omega (arith, length-append known (name ∷ []))

few_from : (known all : List (List ℕ)) → length (fold with_name known all) ≤ length known + length all
few_from known [] = omega arith
few_from known (name ∷ all) =
    let step = few_with (names known name) known name in
    let rest = few_from (with_name known name) all in
    omega arith

few_found : (found : Option (List ℕ)) (later : List (List ℕ)) → length (cons_option found later) ≤ 1 + length later
few_found (Some name) later = omega arith
few_found None later = omega arith

few_loaded : (commands : List Command) → length (loaded_names commands) ≤ length commands
few_loaded [] = omega arith
few_loaded (command ∷ commands) =
    let step = few_found (loaded_name command) (loaded_names commands) in
    let rest = few_loaded commands in
    omega arith

pub few_names : (commands : List Command) → length (bundle_names commands) ≤ length commands
few_names commands =
    let once = few_from [] (loaded_names commands) in
    let loads = few_loaded commands in
    omega arith

-- each name that is named is among the names
or_left : (a b : Bool) → a ≡ true → (a || b) ≡ true
or_left a b e = rw e refl

kept_with : (b : Bool) (known : List (List ℕ)) (name other : List ℕ) → names known other ≡ true
    → names (cond b known (known ++ name ∷ [])) other ≡ true
kept_with true known name other here = here
kept_with false known name other here =
    list_any-append (λ known_name. bytes_eq known_name other) known (name ∷ []) ∙ or_left (names known other) _ here

kept_from : (known all : List (List ℕ)) (other : List ℕ) → names known other ≡ true
    → names (fold with_name known all) other ≡ true
kept_from known [] other here = here
kept_from known (name ∷ all) other here =
    kept_from (with_name known name) all other (kept_with (names known name) known name other here)

or_right : (a : Bool) → (a || (true || false)) ≡ true
or_right true = refl
or_right false = refl

added_with : (b : Bool) (known : List (List ℕ)) (name : List ℕ) → names known name ≡ b
    → names (cond b known (known ++ name ∷ [])) name ≡ true
added_with true known name here = here
added_with false known name here =
    let last : names (name ∷ []) name ≡ (true || false) =
    ap (λ b. b || false) ((bytes_eq-Decides name name).1 refl) in
    list_any-append (λ known_name. bytes_eq known_name name) known (name ∷ []) ∙ ap (λ b. names known name || b) last
    ∙ or_right (names known name)

pub named_among : (known all : List (List ℕ)) → All (λ name. names (fold with_name known all) name ≡ true) all
named_among known [] = All-nil (λ name. names known name ≡ true)
named_among known (name ∷ all) =
    All-cons (λ other. names (fold with_name (with_name known name) all) other ≡ true) name all
    (kept_from (with_name known name) all name (added_with (names known name) known name refl))
    (named_among (with_name known name) all)
