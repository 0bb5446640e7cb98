-- The loads of a setup: how many there are, that no two have one label, and that each load command's
-- label is one of theirs.
use Rattle.std.proofs.Common.{◌≡◌, ◌≢◌, ℕ, zero, suc, ◌+◌, ◌-◌, ◌<◌, ◌≤◌, cond, List, [], ◌∷◌, ◌++◌, length, take, drop, get_or, Option, Some, None, refl, sym, ap, ap₂, subst, ◌∙◌, arith, append_assoc, length-append}
use Rattle.std.specs.Prelude.{nat_lt}
use Rattle.std.specs.Option.{option_map_or, option_to_list}
use Rattle.std.specs.List.{All, AllPairs, Contains, cons_option, slice_get, sum_by}
use Rattle.std.proofs.lemmas.Bool.{ltb-true, ne_eqb}
use Rattle.std.proofs.lemmas.List.{take-append-drop, append-nil, take_more, length-take-le}
use Rattle.std.proofs.lemmas.List.Elements.{All-nil, All-cons, All-append, All-weaker, filter_map-append, Contains-append_left, Contains-append_right}
use Rattle.std.proofs.lemmas.List.Sums.{sum_by-append, AllPass-from_list_all}
use Rattle.soc_base.specs.declared.label.Label.{Label}
use Rattle.bundle_model.specs.declared.world.Named.{Named}
use Rattle.bundle_model.specs.declared.world.LoadName.{LoadName}
use Rattle.bundle_model.specs.World.{IsSoundWorld}
use Rattle.script_file.specs.declared.command.Command.{Command}
use Rattle.script_file.specs.declared.command.Script.{Script}
use Rattle.vep_manager.specs.declared.setup.Setup.{Setup}
use Rattle.vep_manager.specs.Loads.{catalog_place, loaded_name, loaded_names, loads_from, session_loads, loads_of}
use Rattle.vep_manager.specs.Setup.{IsSound}
use Rattle.vep_manager.specs.History.{numbered, commands_of}
use Rattle.vep_manager.specs.Replies.{next_label}
use Rattle.vep_manager.proofs.Growth.{take_next, next_of, loads_more}
use Rattle.vep_manager.proofs.Lists.{pairs_none, pairs_cons, pairs_append}

length-loads_from : (catalog : List Named) (session number : ℕ) (names : List (List ℕ))
    → length (loads_from catalog session number names) ≡ length names
length-loads_from catalog session number [] = refl
length-loads_from catalog session number (name ∷ names) =
    ap suc (length-loads_from catalog session (number + 1) names)

loads_from-session : (catalog : List Named) (session number : ℕ) (names : List (List ℕ))
    → All (λ load. load.label.session ≡ session) (loads_from catalog session number names)
loads_from-session catalog session number [] = All-nil (λ load. load.label.session ≡ session)
loads_from-session catalog session number (name ∷ names) =
    All-cons (λ load. load.label.session ≡ session) _ (loads_from catalog session (number + 1) names) refl
    (loads_from-session catalog session (number + 1) names)

loads_from-numbers : (catalog : List Named) (session number : ℕ) (names : List (List ℕ))
    → All (λ load. number ≤ load.label.load) (loads_from catalog session number names)
loads_from-numbers catalog session number [] = All-nil (λ load. number ≤ load.label.load)
loads_from-numbers catalog session number (name ∷ names) =
    All-cons (λ load. number ≤ load.label.load) _ (loads_from catalog session (number + 1) names) (omega arith)
    (All-weaker (λ (load : LoadName). number + 1 ≤ load.label.load) (λ load. number ≤ load.label.load)
    (λ load above. omega arith) (loads_from catalog session (number + 1) names)
    (loads_from-numbers catalog session (number + 1) names))

loads_from-apart : (catalog : List Named) (session number : ℕ) (names : List (List ℕ))
    → AllPairs (λ one other. one.label ≢ other.label) (loads_from catalog session number names)
loads_from-apart catalog session number [] = pairs_none (λ (one other : LoadName). one.label ≢ other.label)
loads_from-apart catalog session number (name ∷ names) =
    let R : LoadName → LoadName → Type 0 = λ one other. one.label ≢ other.label in
    let first : LoadName =
    record { label = record { session = session; load = number }; bundle = catalog_place catalog name } in
    pairs_cons R first (loads_from catalog session (number + 1) names)
    (All-weaker (λ (load : LoadName). number + 1 ≤ load.label.load) (R first) (λ load above is. let same : number
    ≡ load.label.load = ap (λ (l : Label). l.load) is in omega arith)
    (loads_from catalog session (number + 1) names) (loads_from-numbers catalog session (number + 1) names))
    (loads_from-apart catalog session (number + 1) names)

session_loads-sessions : (catalog : List Named) (session : ℕ) (scripts : List Script)
    → All (λ load. session ≤ load.label.session) (session_loads catalog session scripts)
session_loads-sessions catalog session [] = All-nil (λ load. session ≤ load.label.session)
session_loads-sessions catalog session (script ∷ scripts) =
    All-append (λ load. session ≤ load.label.session) (loads_from catalog session 1 (loaded_names script.commands))
    (session_loads catalog (session + 1) scripts)
    (All-weaker (λ (load : LoadName). load.label.session ≡ session) (λ load. session ≤ load.label.session)
    (λ load same. omega (arith, same)) (loads_from catalog session 1 (loaded_names script.commands))
    (loads_from-session catalog session 1 (loaded_names script.commands)))
    (All-weaker (λ (load : LoadName). session + 1 ≤ load.label.session) (λ load. session ≤ load.label.session)
    (λ load above. omega arith) (session_loads catalog (session + 1) scripts)
    (session_loads-sessions catalog (session + 1) scripts))

session_loads-apart : (catalog : List Named) (session : ℕ) (scripts : List Script)
    → AllPairs (λ one other. one.label ≢ other.label) (session_loads catalog session scripts)
session_loads-apart catalog session [] = pairs_none (λ (one other : LoadName). one.label ≢ other.label)
session_loads-apart catalog session (script ∷ scripts) =
    let R : LoadName → LoadName → Type 0 = λ one other. one.label ≢ other.label in
    let here : List LoadName = loads_from catalog session 1 (loaded_names script.commands) in
    let later : List LoadName = session_loads catalog (session + 1) scripts in
    let from : (one : LoadName) → one.label.session ≡ session → All (R one) later = λ one at.
    All-weaker (λ (load : LoadName). session + 1 ≤ load.label.session) (R one)
    (λ load above is. let same : one.label.session
    ≡ load.label.session =
    ap (λ (l : Label). l.session) is in omega (arith, at)) later
    (session_loads-sessions catalog (session + 1) scripts) in
    pairs_append R here later (loads_from-apart catalog session 1 (loaded_names script.commands))
    (session_loads-apart catalog (session + 1) scripts)
    (All-weaker (λ (load : LoadName). load.label.session ≡ session) (λ load. All (R load) later) from here
    (loads_from-session catalog session 1 (loaded_names script.commands)))

one_or_none : {X : Type 0} (o : Option X) (xs : List X) (n : ℕ) → length xs ≤ n → length (cons_option o xs) ≤ suc n
one_or_none None xs n few = omega arith
one_or_none (Some x) xs n few = omega arith

-- the load commands are no more than the commands
pub few_names : (commands : List Command) → length (loaded_names commands) ≤ length commands
few_names [] = omega arith
few_names (command ∷ commands) =
    one_or_none (loaded_name command) (loaded_names commands) (length commands) (few_names commands)

few_loads : (catalog : List Named) (session : ℕ) (scripts : List Script)
    → length (session_loads catalog session scripts) ≤ sum_by (λ script. length script.commands) scripts
few_loads catalog session [] = omega arith
few_loads catalog session (script ∷ scripts) =
    let first = length-loads_from catalog session 1 (loaded_names script.commands) in
    let sum = sum_by-append (λ (s : Script). length s.commands) (script ∷ []) scripts in
    omega (
      arith,
      first,
      sum,
      few_names script.commands,
      few_loads catalog (session + 1) scripts,
      length-append
          (loads_from catalog session 1 (loaded_names script.commands)) (session_loads catalog (session + 1) scripts),
    )

-- each load names a file of the catalog
pub loads_known : (setup : Setup) → All (λ load. load.bundle < length setup.world.catalog) setup.loads
loads_known setup = λ k d below. ltb-true (get_or setup.loads k d).bundle (length setup.world.catalog)
    (AllPass-from_list_all (λ load. nat_lt load.bundle (length setup.world.catalog)) setup.loads setup.loads_known k d
    below)

-- the loads of a sound setup, and its catalog, are sound
pub sound_world : (setup : Setup) → IsSound setup → IsSoundWorld setup.world setup.loads
unfolding loads_of
sound_world setup sound =
    let few : length setup.loads ≤ 256 =
    omega (
      arith,
      ap length setup.loads_named,
      few_loads setup.world.catalog 1 setup.scripts,
      sound.few_commands,
    ) in
    record {
      catalog = sound.catalog;
      few = few;
      labelled = subst (λ (loads : List LoadName). AllPairs (λ one other. one.label ≢ other.label) loads)
          (sym setup.loads_named) (session_loads-apart setup.world.catalog 1 setup.scripts);
      known = loads_known setup;
    }

-- a load with this label stands among loads
abbrev pub HasLabel : List LoadName → Label → Type 0
HasLabel loads label = (load : LoadName) × Contains loads load × (load.label ≡ label)

label_from : (catalog : List Named) (session number : ℕ) (names : List (List ℕ)) (i : ℕ) → i < length names
    → HasLabel (loads_from catalog session number names) (record { session = session; load = number + i })
label_from catalog session number [] i below = absurd (omega arith)
label_from catalog session number (name ∷ names) zero below =
    let first : LoadName =
    record { label = record { session = session; load = number }; bundle = catalog_place catalog name } in
    let same : number ≡ number + 0 = omega arith in (
      first,
      (0, omega arith, refl),
      ap
          (λ (n : ℕ). let label : Label = record { session = session; load = n } in label) same,
    )
label_from catalog session number (name ∷ names) (suc i) below =
    let first : LoadName =
    record { label = record { session = session; load = number }; bundle = catalog_place catalog name } in
    let rest = label_from catalog session (number + 1) names i (omega arith) in
    let same : number + 1 + i ≡ number + suc i = omega arith in (
      rest.0,
      Contains-append_right (first ∷ []) (loads_from catalog session (number + 1) names) rest.0 rest.1,
      rest.2
          ∙ ap (λ (n : ℕ). let label : Label = record { session = session; load = n } in label) same,
    )

label_in : (catalog : List Named) (from : ℕ) (scripts : List Script) (place : ℕ) (script : Script) (i : ℕ)
    → slice_get scripts place ≡ Some script → i < length (loaded_names script.commands)
    → HasLabel (session_loads catalog from scripts) (record { session = from + place; load = 1 + i })
label_in catalog from [] place script i at below = cc
label_in catalog from (first ∷ scripts) zero script i at below =
    let is : first ≡ script = cc in
    let low : i < length (loaded_names first.commands) =
    subst (λ (s : Script). i < length (loaded_names s.commands)) (sym is) below in
    let here = label_from catalog from 1 (loaded_names first.commands) i low in
    let same : from ≡ from + 0 = omega arith in (
      here.0,
      Contains-append_left (loads_from catalog from 1 (loaded_names first.commands))
          (session_loads catalog (from + 1) scripts) here.0 here.1,
      here.2
          ∙ ap (λ (s : ℕ). let label : Label = record { session = s; load = 1 + i } in label) same,
    )
label_in catalog from (first ∷ scripts) (suc place) script i at below =
    let later = label_in catalog (from + 1) scripts place script i at below in
    let same : from + 1 + place ≡ from + suc place = omega arith in (
      later.0,
      Contains-append_right (loads_from catalog from 1 (loaded_names first.commands))
          (session_loads catalog (from + 1) scripts) later.0 later.1,
      later.2
          ∙ ap (λ (s : ℕ). let label : Label = record { session = s; load = 1 + i } in label) same,
    )

-- a session with a command is one of the setup's
pub record IsScript (setup : Setup) (session : ℕ) (script : Script) : Type 0 where
  pub counted : 0 < session
  pub there : slice_get setup.scripts (session - 1) ≡ Some script
  pub commands : commands_of setup session ≡ script.commands

numbered_is : {X : Type 0} (xs : List X) (n : ℕ) → 0 < n → numbered xs n ≡ slice_get xs (n - 1)
numbered_is xs n low = ap (λ b. cond b None (slice_get xs (n - 1))) (ne_eqb n 0 (λ e. omega arith))

-- the item of the next number
pub numbered_next : {X : Type 0} (xs : List X) (n : ℕ) → numbered xs (n + 1) ≡ slice_get xs n
numbered_next xs n =
    let less : n + 1 - 1 ≡ n = omega arith in
    numbered_is xs (n + 1) (omega arith) ∙ ap (slice_get xs) less

script_at : (setup : Setup) (session n : ℕ) (command : Command) (o : Option Script)
    → numbered setup.scripts session ≡ o
    → slice_get (option_map_or (λ (s : Script). s.commands) o []) n ≡ Some command
    → (script : Script) × (numbered setup.scripts session ≡ Some script)
script_at setup session n command None is at = cc
script_at setup session n command (Some script) is at = (script, is)

pub script_of : (setup : Setup) (session n : ℕ) (command : Command)
    → slice_get (commands_of setup session) n ≡ Some command → (script : Script) × IsScript setup session script
script_of setup zero n command at = cc
script_of setup (suc s) n command at =
    let it = script_at setup (suc s) n command (numbered setup.scripts (suc s)) refl at in (
      it.0,
      record {
        counted = omega arith;
        there = sym (numbered_is setup.scripts (suc s) (omega arith)) ∙ it.1;
        commands = ap (λ o. option_map_or (λ (x : Script). x.commands) o []) it.1;
      },
    )

one_loaded : {X : Type 0} (o : Option X) (xs : List X) → o ≢ None → length (cons_option o xs) ≡ suc (length xs)
one_loaded None xs loads = absurd (loads refl)
one_loaded (Some x) xs loads = refl

-- one more load stands in a script's front that ends with a load
pub loads_next : (commands : List Command) (n : ℕ) (command : Command) → slice_get commands n ≡ Some command
    → loaded_name command ≢ None
    → length (loaded_names (take (n + 1) commands)) ≡ length (loaded_names (take n commands)) + 1
loads_next commands n command at loads =
    let split = ap loaded_names (take_next commands n command at)
    ∙ filter_map-append loaded_name (take n commands) (command ∷ []) in
    ap length split ∙ length-append (loaded_names (take n commands)) (loaded_names (command ∷ []))
    ∙ ap (λ k. length (loaded_names (take n commands)) + k) (one_loaded (loaded_name command) [] loads)

-- the loads of a front are among all
pub front_loads : (commands : List Command) (n : ℕ)
    → length (loaded_names (take n commands)) ≤ length (loaded_names commands)
front_loads commands n =
    let both = ap (λ l. length (loaded_names l)) (take-append-drop n commands) in
    let parts = ap length (filter_map-append loaded_name (take n commands) (drop n commands)) in
    omega (arith, both, parts, length-append (loaded_names (take n commands)) (loaded_names (drop n commands)))

-- the load command that comes next has its label among the loads
pub next_is_known : (setup : Setup) (session n : ℕ) (command : Command)
    → slice_get (commands_of setup session) n ≡ Some command → loaded_name command ≢ None
    → HasLabel setup.loads (next_label setup session n)
unfolding loads_of
next_is_known setup session n command at loads =
    let it = script_of setup session n command at in
    let script : Script = it.0 in
    let count : ℕ = length (loaded_names (take n (commands_of setup session))) in
    let whole = front_loads (commands_of setup session) (n + 1) in
    let below : count < length (loaded_names script.commands) =
    omega (
      arith,
      whole,
      loads_next (commands_of setup session) n command at loads,
      ap
          (λ (l : List Command). length (loaded_names l)) it.1.commands,
    ) in
    let label = label_in setup.world.catalog 1 setup.scripts (session - 1) script count it.1.there below in
    let same : 1 + (session - 1) ≡ session = omega (arith, it.1.counted) in
    let load : 1 + count ≡ count + 1 = omega arith in
    let P : List LoadName → Type 0 = λ loads. HasLabel loads (next_label setup session n) in
    subst P (sym setup.loads_named) (
      label.0,
      label.1,
      label.2
          ∙ ap₂ (λ (s l : ℕ). let label : Label = record { session = s; load = l } in label) same load,
    )

loads_from-append : (catalog : List Named) (session number : ℕ) (xs ys : List (List ℕ))
    → loads_from catalog session number (xs ++ ys) ≡ loads_from catalog session number xs
    ++ loads_from catalog session (number + length xs) ys
loads_from-append catalog session number [] ys = let same : number ≡ number + 0 =
    omega arith in ap (λ n. loads_from catalog session n ys) same
loads_from-append catalog session number (x ∷ xs) ys =
    let same : number + 1 + length xs ≡ number + length (x ∷ xs) = omega arith in
    ap (λ l. record { label = record { session = session; load = number }; bundle = catalog_place catalog x } ∷ l)
    (loads_from-append catalog session (number + 1) xs ys
    ∙ ap (λ n. loads_from catalog session (number + 1) xs ++ loads_from catalog session n ys) same)

session_loads-append : (catalog : List Named) (session : ℕ) (xs ys : List Script)
    → session_loads catalog session (xs ++ ys) ≡ session_loads catalog session xs
    ++ session_loads catalog (session + length xs) ys
session_loads-append catalog session [] ys = let same : session ≡ session + 0 =
    omega arith in ap (λ n. session_loads catalog n ys) same
session_loads-append catalog session (x ∷ xs) ys =
    let same : session + 1 + length xs ≡ session + length (x ∷ xs) = omega arith in
    let here : List LoadName = loads_from catalog session 1 (loaded_names x.commands) in
    ap (λ l. here ++ l) (session_loads-append catalog (session + 1) xs ys
    ∙ ap (λ n. session_loads catalog (session + 1) xs ++ session_loads catalog n ys) same)
    ∙ sym (append_assoc here (session_loads catalog (session + 1) xs)
    (session_loads catalog (session + length (x ∷ xs)) ys))

-- the loads of one command more
pub command_loads : (catalog : List Named) (session load i : ℕ) (commands : List Command) (command : Command)
    (before loads after : List LoadName)
    → i < length commands → command ≡ get_or commands i command → load ≡ 1 + length (loaded_names (take i commands))
    → loads ≡ before ++ loads_from catalog session 1 (loaded_names (take i commands))
    → after ≡ loads ++ loads_from catalog session load (option_to_list (loaded_name command))
    → after ≡ before ++ loads_from catalog session 1 (loaded_names (take (i + 1) commands))
command_loads catalog session load i commands command before loads after below is number listed grown =
    let names : List (List ℕ) = loaded_names (take i commands) in
    let more : List (List ℕ) = option_to_list (loaded_name command) in
    grown ∙ ap₂ (λ l n. l ++ loads_from catalog session n more) listed number
    ∙ append_assoc before (loads_from catalog session 1 names) (loads_from catalog session (1 + length names) more)
    ∙ ap (λ l. before ++ l) (sym (loads_from-append catalog session 1 names more)
    ∙ ap (loads_from catalog session 1) (sym (next_of loaded_name commands i command below is)))

one_most : {X : Type 0} (o : Option X) → length (option_to_list o) ≤ 1
one_most None = omega arith
one_most (Some x) = omega arith

-- the number of the next load after one command more
pub command_number : (load next i : ℕ) (commands : List Command) (command : Command) → i < length commands
    → command ≡ get_or commands i command → load ≡ 1 + length (loaded_names (take i commands)) → load ≤ 1 + i
    → next ≡ load + length (option_to_list (loaded_name command))
    → (next ≡ 1 + length (loaded_names (take (i + 1) commands))) × (next ≤ 1 + (i + 1))
command_number load next i commands command below is number low grown =
    let more = loads_more commands i command below is in
    (omega (arith, more, number, grown), omega (arith, one_most (loaded_name command), low, grown))

-- the loads of one session more
pub script_loads : (catalog : List Named) (session i : ℕ) (scripts : List Script) (script : Script)
    (loads after : List LoadName)
    → i < length scripts → script ≡ get_or scripts i script → session ≡ 1 + i
    → loads ≡ session_loads catalog 1 (take i scripts)
    → after ≡ loads ++ loads_from catalog session 1 (loaded_names script.commands)
    → after ≡ session_loads catalog 1 (take (i + 1) scripts)
script_loads catalog session i scripts script loads after below is number listed grown =
    let front : List Script = take i scripts in
    let count : 1 + length front ≡ 1 + i = omega (arith, length-take-le i scripts (omega arith)) in
    let one : List LoadName = loads_from catalog session 1 (loaded_names script.commands) in
    grown ∙ ap₂ (λ l n. l ++ loads_from catalog n 1 (loaded_names script.commands)) listed (number ∙ sym count)
    ∙ ap (λ l. session_loads catalog 1 front ++ l)
    (sym (append-nil (loads_from catalog (1 + length front) 1 (loaded_names script.commands))))
    ∙ sym (session_loads-append catalog 1 front (script ∷ []))
    ∙ ap (session_loads catalog 1) (ap (λ s. front ++ s ∷ []) is ∙ sym (take_more scripts i script below))
