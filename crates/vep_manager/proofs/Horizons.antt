-- The horizon doesn't fall, and is at most the budget.
use Rattle.std.proofs.Common.{◌≡◌, ℕ, zero, suc, ◌≤◌, Bool, true, false, cond, ◌==◌, List, [], ◌∷◌, ◌++◌, length, map, take, fold, max, min, Option, Some, None, refl, arith}
use Rattle.std.specs.Prelude.{nat_le}
use Rattle.std.specs.List.{filter_map, cons_option}
use Rattle.std.proofs.lemmas.Bool.{false≢true, leb-true, le-leb}
use Rattle.std.proofs.lemmas.List.Sums.{sum_by-append}
use Rattle.script_file.specs.declared.command.Command.{Command}
use Rattle.vep_manager.specs.declared.setup.Setup.{Setup}
use Rattle.vep_manager.specs.declared.reply.Entry.{Entry}
use Rattle.vep_manager.specs.History.{until_slot, promise_of, sessions_of, horizon_of, commands_of, count_of}

abbrev most_of : ℕ → List ℕ → ℕ
most_of from xs = fold (λ most slot. max most slot) from xs

abbrev least_of : ℕ → List ℕ → ℕ
least_of from xs = fold (λ least promise. min least promise) from xs

most_above : (from : ℕ) (xs : List ℕ) → from ≤ most_of from xs
most_above from [] = omega arith
most_above from (x ∷ xs) = let rest = most_above (max from x) xs in omega (arith, rest)

least_below : (from : ℕ) (xs : List ℕ) → least_of from xs ≤ from
least_below from [] = omega arith
least_below from (x ∷ xs) = let rest = least_below (min from x) xs in omega (arith, rest)

one_grows : (o : Option ℕ) (xs ys : List ℕ) (a b : ℕ) → a ≤ b
    → ((c d : ℕ) → c ≤ d → most_of c xs ≤ most_of d ys)
    → most_of a (cons_option o xs) ≤ most_of b (cons_option o ys)
one_grows None xs ys a b low rest = rest a b low
one_grows (Some slot) xs ys a b low rest = rest (max a slot) (max b slot) (omega (arith, low))

-- a longer front has no smaller greatest slot
most_grows : (slot : Command → Option ℕ) (commands : List Command) (n m a b : ℕ) → n ≤ m → a ≤ b
    → most_of a (filter_map slot (take n commands)) ≤ most_of b (filter_map slot (take m commands))
most_grows slot [] zero m a b low less =
    let above = most_above b (filter_map slot (take m [])) in omega (arith, less, above)
most_grows slot [] (suc n) m a b low less =
    let above = most_above b (filter_map slot (take m [])) in omega (arith, less, above)
most_grows slot (command ∷ commands) zero m a b low less =
    let above = most_above b (filter_map slot (take m (command ∷ commands))) in omega (arith, less, above)
most_grows slot (command ∷ commands) (suc n) zero a b low less = absurd (omega arith)
most_grows slot (command ∷ commands) (suc n) (suc m) a b low less =
    one_grows (slot command) _ _ a b less (λ c d lower. most_grows slot commands n m c d (omega arith) lower)

promise_by : (budget a b : ℕ) (used later : Bool) → (used ≡ true → later ≡ true) → a ≤ b
    → cond used budget (min budget a) ≤ cond later budget (min budget b)
promise_by budget a b true true stays low = omega arith
promise_by budget a b true false stays low = absurd (false≢true (stays refl))
promise_by budget a b false true stays low = omega arith
promise_by budget a b false false stays low = omega (arith, low)

-- a session that has come further promises no less
promise_grows : (setup : Setup) (session n m : ℕ) → n ≤ m → promise_of setup session n ≤ promise_of setup session m
promise_grows setup session n m low =
    let commands : List Command = commands_of setup session in
    promise_by setup.budget _ _ (nat_le (length commands) n) (nat_le (length commands) m)
    (λ used. le-leb (length commands) m (omega (arith, low, leb-true (length commands) n used)))
    (most_grows (until_slot setup) commands n m 0 0 low (omega arith))

least_grows : (one other : ℕ → ℕ) (sessions : List ℕ) (a b : ℕ) → a ≤ b → ((session : ℕ) → one session ≤ other session)
    → least_of a (map one sessions) ≤ least_of b (map other sessions)
least_grows one other [] a b low each = low
least_grows one other (session ∷ sessions) a b low each =
    let here = each session in
    least_grows one other sessions (min a (one session)) (min b (other session)) (omega (arith, low, here)) each

-- the horizon of a longer history is no lower
pub horizon_grows : (setup : Setup) (old more : List Entry) → horizon_of setup old ≤ horizon_of setup (old ++ more)
unfolding horizon_of
horizon_grows setup old more =
    least_grows (λ session. promise_of setup session (count_of old session))
    (λ session. promise_of setup session (count_of (old ++ more) session)) (sessions_of setup) setup.budget setup.budget
    (omega arith)
    (λ session. let count = sum_by-append (λ (e : Entry). cond (e.session == session) 1 0) old more in
    promise_grows setup session (count_of old session) (count_of (old ++ more) session) (omega (arith, count)))

-- no horizon is above the budget
pub horizon_within : (setup : Setup) (history : List Entry) → horizon_of setup history ≤ setup.budget
unfolding horizon_of
horizon_within setup history =
    least_below setup.budget (map (λ session. promise_of setup session (count_of history session)) (sessions_of setup))
