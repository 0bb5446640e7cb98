-- The loads of scripts name bundle files of its catalog.
use Rattle.std.proofs.Common.{◌≡◌, ℕ, ◌+◌, ◌<◌, ◌≤◌, Bool, true, false, cond, not, ◌||◌, ◌&&◌, List, [], ◌∷◌, ◌++◌, length, length-append, nat_lt, All, refl, sym, ap, ◌∙◌, subst, arith}
use Rattle.std.specs.List.{list_all}
use Rattle.std.specs.Str.{bytes_eq}
use Rattle.std.proofs.lemmas.Bool.{le-leb}
use Rattle.std.proofs.lemmas.List.{length-map}
use Rattle.std.proofs.lemmas.List.Concat.{flat_map-cons}
use Rattle.std.proofs.lemmas.List.Folds.{list_all-append}
use Rattle.std.proofs.lemmas.List.Elements.{filter_map-append, All-nil, All-cons, All-head, All-tail}
use Rattle.bundle_model.specs.Sets.{names}
use Rattle.bundle_model.specs.declared.world.Named.{Named}
use Rattle.bundle_model.specs.declared.world.LoadName.{LoadName}
use Rattle.script_file.specs.declared.command.Command.{Command}
use Rattle.script_file.specs.declared.command.Script.{Script}
use Rattle.vep_manager.specs.Loads.{loaded_name, loaded_names, loads_from, session_loads, loads_of, catalog_place}
use Rattle.soc_top.specs.Run.{bundle_names}
use Rattle.soc_top.specs.inner.Naming.{all_commands, catalog_names}
use Rattle.soc_top.proofs.Names.{named_among, few_names}

-- a name of the catalog has a place in it
place_in : (b : Bool) (named : Named) (catalog : List Named) (name : List ℕ)
    → (names (catalog_names catalog) name ≡ true → catalog_place catalog name < length catalog)
    → (b || names (catalog_names catalog) name) ≡ true
    → cond (not b) (1 + catalog_place catalog name) 0 < length (named ∷ catalog)
place_in true named catalog name later here = omega arith
place_in false named catalog name later here =
    let below = later here in
    omega arith

place_below : (catalog : List Named) (name : List ℕ) → names (catalog_names catalog) name ≡ true
    → catalog_place catalog name < length catalog
place_below [] name here = cc
place_below (named ∷ catalog) name here =
    place_in (bytes_eq named.name name) named catalog name (place_below catalog name) here

both_true : (a b : Bool) → a ≡ true → b ≡ true → (a && b) ≡ true
both_true a b e f = cc

loads_below : (catalog : List Named) (session number : ℕ) (all : List (List ℕ))
    → All (λ name. names (catalog_names catalog) name ≡ true) all
    → list_all (λ load. nat_lt load.bundle (length catalog)) (loads_from catalog session number all) ≡ true
loads_below catalog session number [] known = refl
loads_below catalog session number (name ∷ all) known =
    let P : List ℕ → Type 0 = λ other. names (catalog_names catalog) other ≡ true in
    let here = place_below catalog name (All-head P name all known) in
    both_true (nat_lt (catalog_place catalog name) (length catalog)) _ (le-leb _ _ here)
    (loads_below catalog session (number + 1) all (All-tail P name all known))

all_parts : (P : List ℕ → Type 0) (xs ys : List (List ℕ)) → All P (xs ++ ys) → All P xs × All P ys
all_parts P [] ys all = (All-nil P, all)
all_parts P (x ∷ xs) ys all =
    let (front, back) = all_parts P xs ys (All-tail P x (xs ++ ys) all) in
    (All-cons P x xs (All-head P x (xs ++ ys) all) front, back)

-- likewise the loads of several scripts
scripts_below : (catalog : List Named) (session : ℕ) (scripts : List Script)
    → All (λ name. names (catalog_names catalog) name ≡ true) (loaded_names (all_commands scripts))
    → list_all (λ load. nat_lt load.bundle (length catalog)) (session_loads catalog session scripts) ≡ true
scripts_below catalog session [] known = refl
scripts_below catalog session (script ∷ scripts) known =
    let P : List ℕ → Type 0 = λ name. names (catalog_names catalog) name ≡ true in
    let split : loaded_names (all_commands (script ∷ scripts))
    ≡ loaded_names script.commands ++ loaded_names (all_commands scripts) =
    ap loaded_names (flat_map-cons (λ (s : Script). s.commands) script scripts)
    ∙ filter_map-append loaded_name script.commands (all_commands scripts) in
    let (front, back) = all_parts P (loaded_names script.commands) (loaded_names (all_commands scripts))
    (subst (All P) split known) in
    list_all-append (λ load. nat_lt load.bundle (length catalog))
    (loads_from catalog session 1 (loaded_names script.commands)) (session_loads catalog (session + 1) scripts)
    ∙ both_true _ _
    (loads_below catalog session 1 (loaded_names script.commands) front)
    (scripts_below catalog (session + 1) scripts back)

pub each_few : (scripts : List Script) (most : ℕ) → length (all_commands scripts) ≤ most
    → All (λ (script : Script). length script.commands ≤ most) scripts
each_few [] most few = All-nil (λ (script : Script). length script.commands ≤ most)
each_few (script ∷ scripts) most few =
    let sum : length (all_commands (script ∷ scripts)) ≡ length script.commands + length (all_commands scripts) =
    ap length (flat_map-cons (λ (s : Script). s.commands) script scripts)
    ∙ length-append script.commands (all_commands scripts) in
    All-cons (λ (s : Script). length s.commands ≤ most) script scripts (omega (arith, sum, few))
    (each_few scripts most (omega (arith, sum, few)))

pub few_bundles : (catalog : List Named) (commands : List Command) (most : ℕ)
    → catalog_names catalog ≡ bundle_names commands → length commands ≤ most → length catalog ≤ most
few_bundles catalog commands most same few =
    let named : length catalog ≡ length (bundle_names commands) =
    sym (length-map catalog (λ named. named.name)) ∙ ap length same in
    let once = few_names commands in
    omega arith

-- what the type of a setup says of its loads
pub loads_known : (catalog bundles : List Named) (scripts : List Script) (loads : List LoadName) → bundles ≡ catalog
    → loads ≡ loads_of catalog scripts → catalog_names catalog ≡ bundle_names (all_commands scripts)
    → list_all (λ load. nat_lt load.bundle (length bundles)) loads ≡ true
unfolding loads_of
loads_known catalog bundles scripts loads same are named =
    let among = named_among [] (loaded_names (all_commands scripts)) in
    rw (same, are) (scripts_below catalog 1 scripts (rw named among))
