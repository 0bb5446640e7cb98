-- A history from one turn to the next, and from one round to the next.
use Rattle.std.proofs.Common.{◌≡◌, ℕ, ◌+◌, ◌-◌, ◌<◌, ◌≤◌, inl, inr, ◌↔◌, cond, ◌==◌, List, [], ◌∷◌, ◌++◌, length, get_or, slice_get, Option, Some, None, option_map, IsNone, IsTrue, All, refl, sym, subst, ap, ◌∙◌, arith, append-nil}
use Rattle.std.specs.List.{sum_by}
use Rattle.std.specs.Option.{option_map_or, option_to_list}
use Rattle.std.proofs.lemmas.Bool.{cases_lt, cases_order, le-leb, leb-true, eq-eqb, ne_eqb, true≢false}
use Rattle.std.proofs.lemmas.List.Elements.{All-nil, All-push, All-weaker}
use Rattle.std.proofs.lemmas.List.Sums.{sum_by_push, get_or-le-sum_by}
use Rattle.std.proofs.lemmas.List.Quantifiers.{all_pairs_push}
use Rattle.std.proofs.lemmas.Option.{slice_get_within, get_or_from_slice_get}
use Rattle.soc_base.specs.declared.limits.TheConstants.{MOST_COMMANDS}
use Rattle.bundle_model.specs.Grants.{IsApart}
use Rattle.script_file.specs.declared.command.Script.{Script}
use Rattle.vep_manager.specs.declared.setup.Setup.{Setup}
use Rattle.vep_manager.specs.declared.reply.Reply.{Reply}
use Rattle.vep_manager.specs.declared.reply.Entry.{Entry}
use Rattle.vep_manager.specs.Setup.{IsSound}
use Rattle.vep_manager.specs.History.{IsSession, commands_of, count_of, is_used_up, grants_of}
use Rattle.vep_manager.specs.Replies.{next_entry}
use Rattle.vep_manager.specs.Legal.{IsLegal, IsComplete, ComesBefore, IsRoundRobin}
use Rattle.serial_run.specs.inner.Rounds.{IsCounted, ComesBeforeTurn, IsAtTurn}
use Rattle.vep_manager.proofs.Laws.{legal_none}
use Rattle.serial_run.proofs.Ranges.{all_range}

-- before the first command

nothing_apart : (setup : Setup) → IsApart setup.world (grants_of setup [])
unfolding grants_of
nothing_apart setup = record {
  known = λ k d inside. absurd (omega arith);
  labelled = λ i j d low high. absurd (omega arith);
  in_order = λ k d inside. absurd (omega arith);
  apart = λ i j d low high. absurd (omega arith);
}

pub at_first : (setup : Setup) (history : List Entry) → history ≡ [] → IsAtTurn setup 0 1 history
at_first setup history none = rw none (let first : IsAtTurn setup 0 1 [] = record {
  legal = legal_none setup;
  apart = nothing_apart setup;
  earlier = λ other is low. absurd (omega (arith, is.0));
  later = λ other is high. omega arith;
  before = All-nil (ComesBeforeTurn 0 1);
  in_rounds = λ i j d low high. absurd (omega arith);
} in first)

-- one turn

entry_is : (session index : ℕ) (reply : Option Reply) (entry : Entry)
    → Some entry ≡ option_map
    (λ reply. let e : Entry = record { session = session; index = index; reply = reply } in e) reply
    → (entry.session ≡ session) × (entry.index ≡ index)
entry_is session index None entry is = cc
entry_is session index (Some reply) entry is =
    let same : entry ≡ record { session = session; index = index; reply = reply } = cc in
    (ap (λ (e : Entry). e.session) same, ap (λ (e : Entry). e.index) same)

next_is : (setup : Setup) (history : List Entry) (session : ℕ) (entry : Entry)
    → Some entry ≡ next_entry setup history session
    → (entry.session ≡ session) × (entry.index ≡ count_of history session + 1)
unfolding next_entry
next_is setup history session entry is = entry_is session (count_of history session + 1) _ entry is

count_same : (history : List Entry) (entry : Entry) (session : ℕ) → entry.session ≡ session
    → count_of (history ++ entry ∷ []) session ≡ count_of history session + 1
count_same history entry session same =
    sum_by_push (λ (e : Entry). cond (e.session == session) 1 0) history entry
    ∙ ap (λ b. count_of history session + cond b 1 0) (eq-eqb entry.session session same)

count_other : (history : List Entry) (entry : Entry) (session : ℕ) → (entry.session ≡ session → ⊥)
    → count_of (history ++ entry ∷ []) session ≡ count_of history session
count_other history entry session differs =
    let more = sum_by_push (λ (e : Entry). cond (e.session == session) 1 0) history entry
    ∙ ap (λ b. count_of history session + cond b 1 0) (ne_eqb entry.session session differs) in
    omega (arith, more)

before_next : (rounds session : ℕ) (history : List Entry) → All (ComesBeforeTurn rounds session) history
    → All (ComesBeforeTurn rounds (session + 1)) history
before_next rounds session history before =
    All-weaker (ComesBeforeTurn rounds session) (ComesBeforeTurn rounds (session + 1))
    (λ entry comes. elim comes as (λ _. ComesBeforeTurn rounds (session + 1) entry)
    [ inl low ↦ inl low | inr here ↦ inr (here.0, omega (arith, here.1)) ])
    history before

turn_none : (setup : Setup) (rounds session : ℕ) (history : List Entry) → IsSession setup session
    → IsAtTurn setup rounds session history → length (commands_of setup session) ≤ count_of history session
    → IsAtTurn setup rounds (session + 1) history
turn_none setup rounds session history is at used = record {
  legal = at.legal;
  apart = at.apart;
  earlier = λ other other_is low. elim (cases_order other session) as
      (λ _. IsCounted setup (rounds + 1) history other) [
        | inl same ↦ let none_left : length (commands_of setup other) ≤ count_of history other =
            rw same used in omega (arith, at.later other other_is (omega arith), none_left)
        | inr order ↦ at.earlier other other_is
            (elim order as (λ _. other < session) [ inl less ↦ less | inr more ↦ absurd (omega arith) ])
      ];
  later = λ other other_is high. at.later other other_is (omega arith);
  before = before_next rounds session history at.before;
  in_rounds = at.in_rounds;
}

-- a session's next command, of which there is one, was committed with this entry
record IsCommitted (setup : Setup) (session : ℕ) (history : List Entry) (entry : Entry) : Type 0 where
  left : count_of history session < length (commands_of setup session)
  session_is : entry.session ≡ session
  index_is : entry.index ≡ count_of history session + 1
  legal : IsLegal setup (history ++ entry ∷ [])
  apart : IsApart setup.world (grants_of setup (history ++ entry ∷ []))

turn_one : (setup : Setup) (rounds session : ℕ) (history : List Entry) (entry : Entry) → IsSession setup session
    → IsAtTurn setup rounds session history → IsCommitted setup session history entry
    → IsAtTurn setup rounds (session + 1) (history ++ entry ∷ [])
turn_one setup rounds session history entry is at made =
    let index : entry.index ≡ rounds + 1 = omega (arith, at.later session is (omega arith), made.index_is) in
    let new = history ++ entry ∷ [] in
    record {
      legal = made.legal;
      apart = made.apart;
      earlier = λ other other_is low. elim (cases_order other session) as
          (λ _. IsCounted setup (rounds + 1) new other) [
            | inl same ↦ let some_left : count_of history other < length (commands_of setup other) =
                rw same (made.left) in omega (
                  arith,
                  count_same history entry other (made.session_is ∙ sym same),
                  at.later other other_is
                      (omega arith),
                  some_left,
                )
            | inr order ↦ let less : other < session =
                elim order as (λ _. other < session) [ inl less ↦ less | inr more ↦ absurd (omega arith) ] in
                count_other
                history entry other (λ same. omega (arith, made.session_is)) ∙ at.earlier other other_is less
          ];
      later = λ other other_is high. count_other history entry other (λ same. omega (arith, made.session_is))
          ∙ at.later other other_is (omega arith);
      before = All-push (ComesBeforeTurn rounds (session + 1)) history entry
          (before_next rounds session history at.before) (inr (index, omega (arith, made.session_is)));
      in_rounds = all_pairs_push ComesBefore history entry at.in_rounds
          (λ k d inside. elim (at.before k d inside) as (λ _. ComesBefore (get_or history k d) entry) [
            | inl low ↦ inl (omega arith)
            | inr here ↦ inr (
              here.0
                  ∙ sym index,
              omega (arith, here.1, made.session_is),
            )
          ]);
    }

-- what a commit of a session answers, and what its history then is
pub record Commits (setup : Setup) (session : ℕ) (history : List Entry) (new : Option Entry) : Type 0 where
  pub session_is : IsSession setup session
  pub entry : new ≡ next_entry setup history session
  pub used_up : IsNone new ↔ IsTrue (is_used_up setup history session)
  pub legal : IsLegal setup (history ++ option_to_list new)
  pub apart : IsApart setup.world (grants_of setup (history ++ option_to_list new))

pub turn_taken : (setup : Setup) (rounds session : ℕ) (history : List Entry) (new : Option Entry)
    → Commits setup session history new → IsAtTurn setup rounds session history
    → IsAtTurn setup rounds (session + 1) (history ++ option_to_list new)
turn_taken setup rounds session history None made at =
    rw append-nil (turn_none setup rounds session history made.session_is at
    (leb-true (length (commands_of setup session)) (count_of history session) (made.used_up.0 refl)))
turn_taken setup rounds session history (Some entry) made at =
    let left : count_of history session < length (commands_of setup session) =
    elim (cases_lt (count_of history session) (length (commands_of setup session))) as
    (λ _. count_of history session < length (commands_of setup session)) [
      | inl less ↦ less
      | inr over ↦ absurd
          (true≢false (made.used_up.1 (le-leb (length (commands_of setup session)) (count_of history session) over)))
    ] in
    let named = next_is setup history session entry made.entry in
    turn_one setup rounds session history entry made.session_is at (record {
      left = left;
      session_is = named.0;
      index_is = named.1;
      legal = made.legal;
      apart = made.apart;
    })

-- a whole round

pub round_over : (setup : Setup) (rounds session : ℕ) (history : List Entry) → length setup.scripts < session
    → IsAtTurn setup rounds session history → IsAtTurn setup (rounds + 1) 1 history
round_over setup rounds session history all at = record {
  legal = at.legal;
  apart = at.apart;
  earlier = λ other is low. absurd (omega (arith, is.0));
  later = λ other is high. at.earlier other is (omega (arith, is.1));
  before = All-weaker (ComesBeforeTurn rounds session) (ComesBeforeTurn (rounds + 1) 1)
      (λ entry before. elim before as (λ _. ComesBeforeTurn (rounds + 1) 1 entry)
      [ inl low ↦ inl (omega arith) | inr here ↦ inl (omega (arith, here.0)) ]) history at.before;
  in_rounds = at.in_rounds;
}

-- all rounds

few_by : (scripts : List Script) (k : ℕ) (script : Option Script) → slice_get scripts k ≡ script
    → length (option_map_or (λ script. script.commands) script []) ≤ sum_by (λ script. length script.commands) scripts
few_by scripts k None is = omega arith
few_by scripts k (Some script) is =
    let read = get_or_from_slice_get scripts k script script is in
    rw (← ap (λ (s : Script). length s.commands) read)
    (get_or-le-sum_by (λ (s : Script). length s.commands) scripts k script (slice_get_within scripts k script is))

few_commands : (setup : Setup) → IsSound setup → (session : ℕ) → IsSession setup session
    → length (commands_of setup session) ≤ MOST_COMMANDS
few_commands setup sound session is =
    rw (ne_eqb session 0 (λ e. omega (arith, is.0)))
    (omega (
      arith,
      few_by setup.scripts (session - 1) (slice_get setup.scripts (session - 1)) refl,
      sound.few_commands,
    ))

complete_after : (setup : Setup) (history : List Entry) → IsSound setup → IsAtTurn setup MOST_COMMANDS 1 history
    → IsComplete setup history
complete_after setup history sound at =
    all_range (λ session. count_of history session ≡ length (commands_of setup session)) 1 (length setup.scripts)
    (λ session low high. let is : IsSession setup session = (omega arith, omega arith) in omega
    (arith, at.later session is low, few_commands setup sound session is))

pub in_full : (setup : Setup) (rounds : ℕ) (history : List Entry) → IsSound setup → rounds ≡ MOST_COMMANDS
    → IsAtTurn setup rounds 1 history → IsRoundRobin setup history
in_full setup rounds history sound all at = record {
  legal = at.legal;
  complete = complete_after setup history sound (let At = λ (n : ℕ). IsAtTurn setup n 1 history in subst At all at);
  in_rounds = at.in_rounds;
}

complete_idle : (setup : Setup) (rounds : ℕ) (history : List Entry) → IsAtTurn setup rounds 1 history
    → IsAtTurn setup (rounds + 1) 1 history → IsComplete setup history
complete_idle setup rounds history at more =
    all_range (λ session. count_of history session ≡ length (commands_of setup session)) 1 (length setup.scripts)
    (λ session low high. let is : IsSession setup session = (omega arith, omega arith) in omega
    (arith, at.later session is low, more.later session is low))

-- a round that adds nothing is the last one
pub in_full_idle : (old new : Setup) (rounds : ℕ) (before after : List Entry) → new ≡ old → after ≡ before
    → IsAtTurn old rounds 1 before → IsAtTurn new (rounds + 1) 1 after → IsRoundRobin new after
in_full_idle old new rounds before after same still at more = record {
  legal = more.legal;
  complete = complete_idle new rounds after (rw (same, still) at) more;
  in_rounds = more.in_rounds;
}
