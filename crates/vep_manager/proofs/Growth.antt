-- A history that one entry more is added to.
use Rattle.std.proofs.Common.{◌≡◌, ℕ, zero, suc, ◌+◌, ◌-◌, ◌<◌, ◌≤◌, Bool, true, false, cond, ◌==◌, List, [], ◌∷◌, ◌++◌, length, map, take, get_or, fold, max, min, Option, Some, None, refl, sym, ap, ap₂, ◌∙◌, arith, length-append}
use Rattle.std.specs.List.{filter_map, cons_option, slice_get, range_with_len}
use Rattle.std.specs.Option.{option_or, option_map, option_to_list}
use Rattle.std.proofs.lemmas.List.{take_more}
use Rattle.std.proofs.lemmas.List.FromFn.{map-range_with_len_more}
use Rattle.std.proofs.lemmas.List.Elements.{filter_map-append}
use Rattle.std.proofs.lemmas.List.Sums.{sum_by-append, fold-append}
use Rattle.soc_base.specs.declared.label.Label.{Label}
use Rattle.bundle_model.specs.declared.world.Grant.{Grant}
use Rattle.script_file.specs.declared.command.Command.{Command}
use Rattle.vep_manager.specs.declared.setup.Setup.{Setup}
use Rattle.vep_manager.specs.declared.reply.Reply.{Reply}
use Rattle.vep_manager.specs.declared.reply.Reply.TheVariants.{Malformed, Past, Taken, Granted, NoLoad, Already, Stopped, Horizon}
use Rattle.vep_manager.specs.declared.reply.Entry.{Entry}
use Rattle.vep_manager.specs.Loads.{loaded_name, loaded_names}
use Rattle.vep_manager.specs.History.{until_slot, promise_of, count_of, end_by, end_in, grant_by, loaded_place, grants_of}
use Rattle.vep_manager.specs.inner.Keeping.{ended_by, grants_after, opened_by}

one_more : (b : Bool) → 0 + cond b 1 0 ≡ cond b 1 0
one_more true = refl
one_more false = refl

-- how many commands of a session stand in the history then
pub count_of-append : (history : List Entry) (entry : Entry) (session : ℕ)
    → count_of (history ++ entry ∷ []) session ≡ count_of history session + cond (entry.session == session) 1 0
count_of-append history entry session =
    sum_by-append (λ (e : Entry). cond (e.session == session) 1 0) history (entry ∷ [])
    ∙ ap (λ n. count_of history session + n) (one_more (entry.session == session))

or_none : {X : Type 0} (o : Option X) → option_or o None ≡ o
or_none None = refl
or_none (Some x) = refl

or_assoc : {X : Type 0} (a b c : Option X) → option_or a (option_or b c) ≡ option_or (option_or a b) c
or_assoc None b c = refl
or_assoc (Some x) b c = refl

-- the end of a load then
pub end_in-append : (history : List Entry) (entry : Entry) (label : Label)
    → end_in (history ++ entry ∷ []) label ≡ option_or (end_in history label) (end_by label entry.reply)
end_in-append [] entry label = or_none (end_by label entry.reply)
end_in-append (first ∷ history) entry label =
    ap (λ o. option_or (end_by label first.reply) o) (end_in-append history entry label)
    ∙ or_assoc (end_by label first.reply) (end_in history label) (end_by label entry.reply)

grant_by-append : (setup : Setup) (history : List Entry) (entry : Entry) (reply : Reply)
    → grant_by setup (history ++ entry ∷ []) reply ≡ option_map (ended_by entry.reply) (grant_by setup history reply)
grant_by-append setup history entry (Malformed rule) = refl
grant_by-append setup history entry (Past horizon) = refl
grant_by-append setup history entry (Taken resource owner free_from) = refl
grant_by-append setup history entry (Granted label start) =
    ap (λ (end : Option ℕ). let grant : Grant = record {
      label = label;
      bundle = loaded_place setup label;
      start = start;
      end = end;
    } in Some grant) (end_in-append history entry label)
grant_by-append setup history entry NoLoad = refl
grant_by-append setup history entry (Already end) = refl
grant_by-append setup history entry (Stopped label end) = refl
grant_by-append setup history entry (Horizon horizon) = refl

map_cons : {X Y : Type 0} (f : X → Y) (o : Option X) (xs : List X)
    → cons_option (option_map f o) (map f xs) ≡ map f (cons_option o xs)
map_cons f None xs = refl
map_cons f (Some x) xs = refl

grants_before : (setup : Setup) (history : List Entry) (entry : Entry) (xs : List Entry)
    → filter_map (λ x. grant_by setup (history ++ entry ∷ []) x.reply) xs
    ≡ map (ended_by entry.reply) (filter_map (λ x. grant_by setup history x.reply) xs)
grants_before setup history entry [] = refl
grants_before setup history entry (x ∷ xs) =
    ap₂ (λ o rest. cons_option o rest) (grant_by-append setup history entry x.reply)
    (grants_before setup history entry xs)
    ∙ map_cons (ended_by entry.reply) (grant_by setup history x.reply)
    (filter_map (λ x. grant_by setup history x.reply) xs)

last_grant : (setup : Setup) (history : List Entry) (reply : Reply)
    → ((label : Label) (start : ℕ) → reply ≡ Granted label start → end_in history label ≡ None)
    → cons_option (grant_by setup history reply) [] ≡ option_to_list (opened_by setup reply)
last_grant setup history (Malformed rule) fresh = refl
last_grant setup history (Past horizon) fresh = refl
last_grant setup history (Taken resource owner free_from) fresh = refl
last_grant setup history (Granted label start) fresh =
    ap (λ (end : Option ℕ). let grant : Grant = record {
      label = label;
      bundle = loaded_place setup label;
      start = start;
      end = end;
    } in grant ∷ []) (fresh label start refl)
last_grant setup history NoLoad fresh = refl
last_grant setup history (Already end) fresh = refl
last_grant setup history (Stopped label end) fresh = refl
last_grant setup history (Horizon horizon) fresh = refl

-- the grants then: each with the end that the reply gives it, and the grant that the reply opens
pub grants_of-append : (setup : Setup) (history : List Entry) (entry : Entry)
    → ((label : Label) (start : ℕ) → entry.reply ≡ Granted label start → end_in history label ≡ None)
    → grants_of setup (history ++ entry ∷ []) ≡ grants_after setup entry.reply (grants_of setup history)
unfolding grants_of
grants_of-append setup history entry fresh =
    let after : List Entry = history ++ entry ∷ [] in
    let no_end = λ (label : Label) (start : ℕ) (is : entry.reply ≡ Granted label start).
    end_in-append history entry label ∙ ap₂ (λ a b. option_or a b) (fresh label start is) (ap (end_by label) is) in
    filter_map-append (λ x. grant_by setup after x.reply) history (entry ∷ [])
    ∙ ap₂ (λ xs ys. xs ++ ys) (grants_before setup history entry history) (last_grant setup after entry.reply no_end)

-- one item more of a list's front
pub take_next : {X : Type 0} (xs : List X) (n : ℕ) (x : X) → slice_get xs n ≡ Some x
    → take (n + 1) xs ≡ take n xs ++ x ∷ []
take_next [] n x e = cc
take_next (y ∷ ys) zero x e = let same : y ≡ x = cc in ap (λ z. z ∷ []) same
take_next (y ∷ ys) (suc n) x e = let more : suc n + 1 ≡ suc (n + 1) =
    omega arith in ap (λ k. take k (y ∷ ys)) more ∙ ap (λ l. y ∷ l) (take_next ys n x e)

one_grows : {X : Type 0} (o : Option X) (xs ys : List X) → length xs ≤ length ys
    → length (cons_option o xs) ≤ length (cons_option o ys)
one_grows None xs ys low = low
one_grows (Some x) xs ys low = omega arith

-- a longer front names no fewer bundles
pub loads_grow : (commands : List Command) (n m : ℕ) → n ≤ m
    → length (loaded_names (take n commands)) ≤ length (loaded_names (take m commands))
loads_grow [] zero m low = omega arith
loads_grow [] (suc n) m low = omega arith
loads_grow (command ∷ commands) zero m low = omega arith
loads_grow (command ∷ commands) (suc n) zero low = absurd (omega arith)
loads_grow (command ∷ commands) (suc n) (suc m) low =
    one_grows (loaded_name command) _ _ (loads_grow commands n m (omega arith))

as_list : {X : Type 0} (o : Option X) → cons_option o [] ≡ option_to_list o
as_list None = refl
as_list (Some x) = refl

-- what is listed of one item more
pub next_of : {X Y : Type 0} (h : X → Option Y) (xs : List X) (i : ℕ) (x : X) → i < length xs → x ≡ get_or xs i x
    → filter_map h (take (i + 1) xs) ≡ filter_map h (take i xs) ++ option_to_list (h x)
next_of h xs i x below is =
    ap (filter_map h) (take_more xs i x below ∙ ap (λ y. take i xs ++ y ∷ []) (sym is))
    ∙ filter_map-append h (take i xs) (x ∷ []) ∙ ap (λ l. filter_map h (take i xs) ++ l) (as_list (h x))

-- one command more of which the loads are counted
pub loads_more : (commands : List Command) (i : ℕ) (command : Command) → i < length commands
    → command ≡ get_or commands i command
    → length (loaded_names (take (i + 1) commands))
    ≡ length (loaded_names (take i commands)) + length (option_to_list (loaded_name command))
loads_more commands i command below is =
    ap length (next_of loaded_name commands i command below is)
    ∙ length-append (loaded_names (take i commands)) (option_to_list (loaded_name command))

-- one command more whose slot is looked at
pub greatest_more : (setup : Setup) (commands : List Command) (i : ℕ) (command : Command) → i < length commands
    → command ≡ get_or commands i command
    → fold (λ most slot. max most slot) 0 (filter_map (until_slot setup) (take (i + 1) commands))
    ≡ fold (λ most slot. max most slot)
    (fold (λ most slot. max most slot) 0 (filter_map (until_slot setup) (take i commands)))
    (option_to_list (until_slot setup command))
greatest_more setup commands i command below is =
    ap (fold (λ most slot. max most slot) 0) (next_of (until_slot setup) commands i command below is)
    ∙ fold-append (λ most slot. max most slot) 0 (filter_map (until_slot setup) (take i commands))
    (option_to_list (until_slot setup command))

-- one session more whose promise is looked at
pub horizon_more : (setup : Setup) (done : ℕ → ℕ) (session least : ℕ) → 0 < session
    → least ≡ fold (λ least promise. min least promise) setup.budget
    (map (λ s. promise_of setup s (done s)) (range_with_len 1 (session - 1)))
    → min least (promise_of setup session (done session))
    ≡ fold (λ least promise. min least promise) setup.budget
    (map (λ s. promise_of setup s (done s)) (range_with_len 1 (session + 1 - 1)))
horizon_more setup done session least low is =
    let f = λ (s : ℕ). promise_of setup s (done s) in
    let least_of = λ (least promise : ℕ). min least promise in
    let count : session - 1 + 1 ≡ session + 1 - 1 = omega arith in
    ap (λ n. min n (f session)) is
    ∙ sym (fold-append least_of setup.budget (map f (range_with_len 1 (session - 1))) (f session ∷ []))
    ∙ ap (fold least_of setup.budget) (sym (map-range_with_len_more f 1 (session - 1) session (omega arith)))
    ∙ ap (λ n. fold least_of setup.budget (map f (range_with_len 1 n))) count
