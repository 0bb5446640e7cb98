-- What is true of every legal history of a sound setup.
use Rattle.std.proofs.Common.{◌≡◌, ◌≢◌, ℕ, zero, suc, ◌+◌, ◌-◌, ◌<◌, ◌≤◌, ◌⊎◌, inl, inr, cond, List, [], ◌∷◌, ◌++◌, length, map, take, get_or, Option, Some, None, refl, sym, ap, ap₂, subst, ◌∙◌, arith, append_assoc, length-append, eq-eqb}
use Rattle.std.specs.Prelude.{IsTrue, IsSome, IsSomeAnd, IfSome}
use Rattle.std.specs.List.{All, AllPairs, Contains, slice_get}
use Rattle.std.specs.Option.{option_or, option_to_list}
use Rattle.std.proofs.lemmas.Bool.{ne_eqb, cases_lt, cases_eq}
use Rattle.std.proofs.lemmas.List.{append-nil, get_or_default}
use Rattle.std.proofs.lemmas.List.Quantifiers.{all_pairs_push}
use Rattle.std.proofs.lemmas.List.Elements.{All-nil, All-push, All-map, All-contains, All-append, Contains-get_or}
use Rattle.std.proofs.lemmas.Option.{slice_get_within}
use Rattle.soc_base.specs.declared.label.Label.{Label}
use Rattle.bundle_model.specs.declared.world.Grant.{Grant}
use Rattle.bundle_model.specs.Grants.{bundle_at, do_meet, EndsBefore, IsApart}
use Rattle.bundle_model.specs.World.{AreOfLoads}
use Rattle.script_file.specs.declared.command.Command.{Command}
use Rattle.vep_manager.specs.declared.setup.Setup.{Setup}
use Rattle.vep_manager.specs.declared.reply.Reply.{Reply}
use Rattle.vep_manager.specs.declared.reply.Reply.TheVariants.{Granted}
use Rattle.vep_manager.specs.declared.reply.Entry.{Entry}
use Rattle.vep_manager.specs.Loads.{loaded_names}
use Rattle.vep_manager.specs.History.{commands_of, count_of, end_by, end_in, grants_of}
use Rattle.vep_manager.specs.Replies.{next_entry}
use Rattle.vep_manager.specs.Setup.{StatesWithin}
use Rattle.vep_manager.specs.Legal.{IsLegal}
use Rattle.vep_manager.specs.Granted.{IsEarly, EndsEarly}
use Rattle.vep_manager.specs.Manager.{ManagerState}
use Rattle.vep_manager.specs.inner.Keeping.{ended_by, grants_after, opened_by}
use Rattle.vep_manager.proofs.States.{held, grown, grants_at, commands_at, done_at, label_at, IsNextEntry, loads_before}
use Rattle.vep_manager.proofs.Lists.{pairs_map, pairs_none, split_last}
use Rattle.vep_manager.proofs.SetupLemmas.{script_of}
use Rattle.vep_manager.proofs.Growth.{count_of-append, end_in-append, grants_of-append, loads_grow}
use Rattle.vep_manager.proofs.Replied.{next_command, Opens, Closes, Tells, reply_tells}

-- what holds before the first command and is kept by each command holds of a legal history
pub go_on : (setup : Setup) (P : List Entry → Type 0)
    → ((before : List Entry) (entry : Entry) → next_entry setup before entry.session ≡ Some entry → P before
    → P (before ++ entry ∷ []))
    → (before after : List Entry) → IsLegal setup (before ++ after) → P before → P (before ++ after)
go_on setup P step before [] legal here = subst P (sym (append-nil before)) here
go_on setup P step before (entry ∷ after) legal here =
    let whole : (before ++ entry ∷ []) ++ after ≡ before ++ entry ∷ after = append_assoc before (entry ∷ []) after in
    let next = step before entry (legal before entry after refl) here in
    subst P whole (go_on setup P step (before ++ entry ∷ []) after (subst (IsLegal setup) (sym whole) legal) next)

pub legal_steps : (setup : Setup) (P : List Entry → Type 0) → P []
    → ((before : List Entry) (entry : Entry) → next_entry setup before entry.session ≡ Some entry → P before
    → P (before ++ entry ∷ []))
    → (history : List Entry) → IsLegal setup history → P history
legal_steps setup P none step history legal = go_on setup P step [] history legal none

-- no entry is a legal history
pub legal_none : (setup : Setup) → IsLegal setup []
legal_none setup [] entry after e = cc
legal_none setup (first ∷ before) entry after e = cc

-- a legal history with the next entry of a session is legal
pub legal_more : (setup : Setup) (history : List Entry) (entry : Entry) → IsLegal setup history
    → next_entry setup history entry.session ≡ Some entry → IsLegal setup (history ++ entry ∷ [])
legal_more setup history entry legal next before other after e =
    elim (split_last history entry before other after e) [
      | inl (front, last) ↦ subst (λ (x : Entry). next_entry setup before x.session ≡ Some x) last
          (subst (λ (h : List Entry). next_entry setup h entry.session ≡ Some entry) front next)
      | inr (rest, is) ↦ legal before other rest is
    ]

-- a label of one of the loads that were committed
abbrev pub IsNumbered : ManagerState → Label → Type 0
IsNumbered state label = label.load ≤ loads_before state label.session (done_at state label.session)

-- each load that the history stops was committed
abbrev pub NoneNumbered : ManagerState → Type 0
NoneNumbered state = (label : Label) (end : ℕ) → end_in state.history label ≡ Some end → IsNumbered state label

-- how many commands of some sessions stand in a history
abbrev pub counts : List Entry → ℕ → ℕ → ℕ
counts history from zero = 0
counts history from (suc sessions) = count_of history from + counts history (from + 1) sessions

-- what is true of a legal history whose commands state no cycle above a limit
pub record Standing (state : ManagerState) (limit : ℕ) : Type 0 where
  pub apart : IsApart state.setup.world (grants_at state)
  pub of_loads : AreOfLoads state.setup.loads (grants_at state)
  pub begin_early : All (λ grant. IsEarly state.setup limit grant.start) (grants_at state)
  pub end_early : All (EndsEarly state.setup limit) (grants_at state)
  pub numbered : All (λ grant. IsNumbered state grant.label) (grants_at state)
  pub ended : NoneNumbered state
  pub within : (session : ℕ) → done_at state session ≤ length (commands_at state session)
  pub total : length state.history ≡ counts state.history 1 (length state.setup.scripts)

counts_none : (from sessions : ℕ) → counts [] from sessions ≡ 0
counts_none from zero = refl
counts_none from (suc sessions) = let rest = counts_none (from + 1) sessions in omega (arith, rest)

pub standing_none : (setup : Setup) (limit : ℕ) → Standing (held setup []) limit
unfolding grants_of
standing_none setup limit = record {
  apart = record {
    known = All-nil (λ grant. IsSome (bundle_at setup.world grant.bundle));
    labelled = pairs_none (λ (one other : Grant). one.label ≢ other.label);
    in_order = All-nil (λ (grant : Grant). IfSome grant.end (λ end. grant.start ≤ end));
    apart = pairs_none (λ one other. IsTrue (do_meet setup.world one other)
        → EndsBefore one other ⊎ EndsBefore other one);
  };
  of_loads = All-nil (λ (grant : Grant). Contains setup.loads
      (record { label = grant.label; bundle = grant.bundle }));
  begin_early = All-nil (λ (grant : Grant). IsEarly setup limit grant.start);
  end_early = All-nil (EndsEarly setup limit);
  numbered = All-nil (λ (grant : Grant). IsNumbered (held setup []) grant.label);
  ended = λ label end e. cc;
  within = λ session. omega arith;
  total = sym (counts_none 1 (length setup.scripts));
}

-- two grants with one label are one
unique : (grants : List Grant) (one other : Grant) → AllPairs (λ one other. one.label ≢ other.label) grants
    → Contains grants one → Contains grants other → one.label ≡ other.label → one ≡ other
unique grants one other apart (i, below, is) (j, low, at) same =
    let here : get_or grants j one ≡ other = get_or_default grants j one other low ∙ at in
    let labels : (get_or grants i one).label ≡ (get_or grants j one).label =
    ap (λ (g : Grant). g.label) is ∙ same ∙ sym (ap (λ (g : Grant). g.label) here) in
    elim (cases_lt i j) [
      | inl less ↦ absurd (apart i j one less low labels)
      | inr more ↦
          elim (cases_lt j i) [
            | inl less ↦ absurd (apart j i one less below (sym labels))
            | inr most ↦
                let place : i ≡ j = omega arith in
                sym is ∙ ap (λ k. get_or grants k one) place ∙ here
          ]
    ]

count_grows : (history : List Entry) (entry : Entry) (session : ℕ)
    → count_of history session ≤ count_of (history ++ entry ∷ []) session
count_grows history entry session = omega (arith, count_of-append history entry session)

numbered_more : (state : ManagerState) (entry : Entry) (label : Label) → IsNumbered state label
    → IsNumbered (grown state entry) label
numbered_more state entry label low =
    let grows = loads_grow (commands_of state.setup label.session) (count_of state.history label.session)
    (count_of (state.history ++ entry ∷ []) label.session) (count_grows state.history entry label.session) in
    omega (arith, low, grows)

-- a fact of each grant after a reply
pub all_after : (setup : Setup) (reply : Reply) (o : Option Grant) (grants : List Grant) (Q : Grant → Type 0)
    → ((k : ℕ) (d : Grant) → k < length grants → Q (ended_by reply (get_or grants k d))) → IfSome o Q
    → All Q (map (ended_by reply) grants ++ option_to_list o)
all_after setup reply None grants Q old new =
    All-append Q (map (ended_by reply) grants) [] (All-map Q (ended_by reply) grants old) (All-nil Q)
all_after setup reply (Some grant) grants Q old new =
    All-push Q (map (ended_by reply) grants) grant (All-map Q (ended_by reply) grants old) new

-- a fact of each pair of grants after a reply
pairs_after : (reply : Reply) (o : Option Grant) (grants : List Grant) (S : Grant → Grant → Type 0)
    → ((one other : Grant) → S one other → S (ended_by reply one) (ended_by reply other)) → AllPairs S grants
    → IfSome o (λ grant. (k : ℕ) (d : Grant) → k < length grants → S (ended_by reply (get_or grants k d)) grant)
    → AllPairs S (map (ended_by reply) grants ++ option_to_list o)
pairs_after reply None grants S stays old new =
    subst (AllPairs S) (sym (append-nil (map (ended_by reply) grants)))
    (pairs_map S S (ended_by reply) stays grants old)
pairs_after reply (Some grant) grants S stays old new =
    all_pairs_push S (map (ended_by reply) grants) grant (pairs_map S S (ended_by reply) stays grants old)
    (All-map (λ (one : Grant). S one grant) (ended_by reply) grants new)

pub if_weaker : {X : Type 0} (o : Option X) (P Q : X → Type 0) → ((x : X) → P x → Q x) → IfSome o P → IfSome o Q
if_weaker None P Q weaker here = here
if_weaker (Some x) P Q weaker here = weaker x here

pub if_from : (o : Option ℕ) (P : ℕ → Type 0) → ((n : ℕ) → o ≡ Some n → P n) → IfSome o P
if_from None P from = tt
if_from (Some n) P from = from n refl

if_or : (a b : Option ℕ) (P : ℕ → Type 0) → IfSome a P → ((n : ℕ) → b ≡ Some n → P n) → IfSome (option_or a b) P
if_or None b P here from = if_from b P from
if_or (Some n) b P here from = here

and_or : (a b : Option ℕ) (P : ℕ → Type 0) → IsSomeAnd a P → IsSomeAnd (option_or a b) P
and_or None b P here = absurd here
and_or (Some n) b P here = here

or_some : (a b : Option ℕ) (n : ℕ) → option_or a b ≡ Some n → (a ≡ Some n) ⊎ (b ≡ Some n)
or_some None b n e = inr e
or_some (Some m) b n e = inl e

count_here : (history : List Entry) (entry : Entry)
    → count_of (history ++ entry ∷ []) entry.session ≡ count_of history entry.session + 1
count_here history entry =
    count_of-append history entry entry.session
    ∙ ap (λ b. count_of history entry.session + cond b 1 0) (eq-eqb entry.session entry.session refl)

count_there : (history : List Entry) (entry : Entry) (session : ℕ) → entry.session ≢ session
    → count_of (history ++ entry ∷ []) session ≡ count_of history session
count_there history entry session other =
    let same : count_of history session + 0 ≡ count_of history session = omega arith in
    count_of-append history entry session
    ∙ ap (λ b. count_of history session + cond b 1 0) (ne_eqb entry.session session other) ∙ same

-- the count of a session that isn't among some
counts_there : (history : List Entry) (entry : Entry) (from sessions : ℕ) → entry.session < from
    → counts (history ++ entry ∷ []) from sessions ≡ counts history from sessions
counts_there history entry from zero low = refl
counts_there history entry from (suc sessions) low =
    ap₂ (λ a b. a + b) (count_there history entry from (λ e. omega arith))
    (counts_there history entry (from + 1) sessions (omega arith))

-- one entry more of a session counts once
counts_more : (history : List Entry) (entry : Entry) (from sessions : ℕ) → from ≤ entry.session
    → entry.session < from + sessions
    → counts (history ++ entry ∷ []) from sessions ≡ counts history from sessions + 1
counts_more history entry from zero low high = absurd (omega arith)
counts_more history entry from (suc sessions) low high =
    elim (cases_lt from entry.session) [
      | inl past ↦
          let here = count_there history entry from (λ e. omega arith) in
          let later = counts_more history entry (from + 1) sessions (omega arith) (omega arith) in
          omega (arith, here, later)
      | inr here ↦
          let same : entry.session ≡ from = omega arith in
          let one : count_of (history ++ entry ∷ []) from ≡ count_of history from + 1 =
          subst (λ (s : ℕ). count_of (history ++ entry ∷ []) s ≡ count_of history s + 1) same
          (count_here history entry) in
          let later = counts_there history entry (from + 1) sessions (omega arith) in
          omega (arith, one, later)
    ]

pub no_number : (state : ManagerState) (session : ℕ) (label : Label) → label ≡ label_at state session
    → IsNumbered state label → ⊥
no_number state session label is numbered =
    let P : Label → Type 0 = λ l. IsNumbered state l in
    let high : IsNumbered state (label_at state session) = subst P is numbered in
    omega (arith, high)

new_number : (state : ManagerState) (limit : ℕ) (entry : Entry) (grant : Grant)
    → Opens state limit entry.session grant → IsNumbered (grown state entry) grant.label
new_number state limit entry grant opens =
    let count = ap (λ n. length (loaded_names (take n (commands_at state entry.session))))
    (count_here state.history entry) in
    let high : IsNumbered (grown state entry) (label_at state entry.session) = omega (arith, count, opens.more) in
    subst (λ (l : Label). IsNumbered (grown state entry) l) (sym opens.label) high

fresh_label : (state : ManagerState) (limit session : ℕ) (reply : Reply) (label : Label) (start : ℕ)
    → Tells state limit session reply → reply ≡ Granted label start → label ≡ label_at state session
fresh_label state limit session reply label start tells is =
    let here : IfSome (opened_by state.setup (Granted label start)) (Opens state limit session) =
    subst (λ (r : Reply). IfSome (opened_by state.setup r) (Opens state limit session)) is tells.opens in
    here.label

no_end : (o : Option ℕ) → ((n : ℕ) → o ≡ Some n → ⊥) → o ≡ None
no_end None never = refl
no_end (Some n) never = absurd (never n refl)

-- the grant that a reply ends is the one of its label
closed_here : (state : ManagerState) (limit : ℕ) (grant : Grant) (end : ℕ)
    → IsApart state.setup.world (grants_at state) → Contains (grants_at state) grant
    → Closes state limit grant.label end → grant.start ≤ end
closed_here state limit grant end apart inside closes =
    let same : closes.grant ≡ grant =
    unique (grants_at state) closes.grant grant apart.labelled closes.inside inside closes.named in
    let start : closes.grant.start ≡ grant.start = ap (λ (g : Grant). g.start) same in
    omega (arith, start, closes.after)

abbrev Meets : Setup → Grant → Grant → Type 0
Meets setup one other = IsTrue (do_meet setup.world one other) → EndsBefore one other ⊎ EndsBefore other one

meets_stay : (setup : Setup) (reply : Reply) (one other : Grant) → Meets setup one other
    → Meets setup (ended_by reply one) (ended_by reply other)
meets_stay setup reply one other before meet =
    elim (before meet) [
      | inl ends ↦ inl (and_or one.end (end_by one.label reply) (λ end. end < other.start) ends)
      | inr ends ↦ inr (and_or other.end (end_by other.label reply) (λ end. end < one.start) ends)
    ]

-- the grants after a reply, which are apart where they were
apart_after : (state : ManagerState) (limit session : ℕ) (reply : Reply) → Standing state limit
    → Tells state limit session reply → IsApart state.setup.world (grants_after state.setup reply (grants_at state))
apart_after state limit session reply before tells =
    let grants : List Grant = grants_at state in
    let O : Grant → Type 0 = Opens state limit session in
    record {
      known = all_after state.setup reply (opened_by state.setup reply) grants
          (λ grant. IsSome (bundle_at state.setup.world grant.bundle)) before.apart.known
          (if_weaker (opened_by state.setup reply) O (λ grant. IsSome (bundle_at state.setup.world grant.bundle))
          (λ grant opens. opens.known) tells.opens);
      labelled = pairs_after reply (opened_by state.setup reply) grants (λ one other. one.label ≢ other.label)
          (λ one other apart. apart) before.apart.labelled
          (if_weaker (opened_by state.setup reply) O _
          (λ grant opens k d below same. no_number state session (get_or grants k d).label (same ∙ opens.label)
          (before.numbered k d below)) tells.opens);
      in_order = all_after state.setup reply (opened_by state.setup reply) grants
          (λ grant. IfSome grant.end (λ end. grant.start ≤ end))
          (λ k d below. if_or (get_or grants k d).end (end_by (get_or grants k d).label reply)
          (λ end. (get_or grants k d).start ≤ end) (before.apart.in_order k d below)
          (λ end e. closed_here state limit (get_or grants k d) end before.apart
          (Contains-get_or grants k d below) (tells.closes (get_or grants k d).label end e)))
          (if_weaker (opened_by state.setup reply) O (λ grant. IfSome grant.end (λ end. grant.start ≤ end))
          (λ grant opens. subst (λ (o : Option ℕ). IfSome o (λ end. grant.start ≤ end)) (sym opens.endless) tt)
          tells.opens);
      apart = pairs_after reply (opened_by state.setup reply) grants (Meets state.setup)
          (meets_stay state.setup reply) before.apart.apart
          (if_weaker (opened_by state.setup reply) O _
          (λ grant opens k d below meet. inl
          (and_or (get_or grants k d).end (end_by (get_or grants k d).label reply) (λ end. end < grant.start)
          (opens.clear (get_or grants k d) (Contains-get_or grants k d below) meet))) tells.opens);
    }

within_more : (state : ManagerState) (entry : Entry) (command : Command)
    → slice_get (commands_at state entry.session) (done_at state entry.session) ≡ Some command
    → ((session : ℕ) → done_at state session ≤ length (commands_at state session)) → (session : ℕ)
    → count_of (state.history ++ entry ∷ []) session ≤ length (commands_at state session)
within_more state entry command at before session =
    elim (cases_eq entry.session session) [
      | inl same ↦
          let low = slice_get_within (commands_at state entry.session) (done_at state entry.session) command at in
          subst (λ (s : ℕ). count_of (state.history ++ entry ∷ []) s ≤ length (commands_of state.setup s)) same
          (omega (arith, low, count_here state.history entry))
      | inr other ↦ omega (arith, before session, count_there state.history entry session other)
    ]

-- the grants after the next entry
pub grants_more : (state : ManagerState) (limit : ℕ) (entry : Entry) → StatesWithin state.setup limit
    → IsNextEntry state entry → Standing state limit
    → grants_at (grown state entry) ≡ grants_after state.setup entry.reply (grants_at state)
grants_more state limit entry within next before =
    let it = next_command state entry next in
    let tells = reply_tells state limit entry.session it.0 entry.reply within before.begin_early it.1 in
    let fresh = λ (label : Label) (start : ℕ) (is : entry.reply ≡ Granted label start).
    no_end (end_in state.history label)
    (λ end e. no_number state entry.session label
    (fresh_label state limit entry.session entry.reply label start tells is) (before.ended label end e)) in
    grants_of-append state.setup state.history entry fresh

pub standing_more : (state : ManagerState) (limit : ℕ) (entry : Entry) → StatesWithin state.setup limit
    → IsNextEntry state entry → Standing state limit → Standing (grown state entry) limit
standing_more state limit entry within next before =
    let reply : Reply = entry.reply in
    let o : Option Grant = opened_by state.setup reply in
    let O : Grant → Type 0 = Opens state limit entry.session in
    let it = next_command state entry next in
    let tells = reply_tells state limit entry.session it.0 reply within before.begin_early it.1 in
    let grants : List Grant = grants_at state in
    let opened : grants_at (grown state entry) ≡ map (ended_by reply) grants ++ option_to_list o =
    grants_more state limit entry within next before in
    let all : (Q : Grant → Type 0)
    → ((k : ℕ) (d : Grant) → k < length grants → Q (ended_by reply (get_or grants k d)))
    → ((grant : Grant) → O grant → Q grant) → All Q (grants_at (grown state entry)) = λ Q old new.
    subst (λ (l : List Grant). All Q l) (sym opened)
    (all_after state.setup reply o grants Q old (if_weaker o O Q new tells.opens)) in
    let script = script_of state.setup entry.session (done_at state entry.session) it.0 it.1.at in
    record {
      apart = subst (IsApart state.setup.world) (sym opened)
          (apart_after state limit entry.session reply before tells);
      of_loads = all (λ grant. Contains state.setup.loads (record { label = grant.label; bundle = grant.bundle }))
          before.of_loads (λ grant opens. opens.of_loads);
      begin_early = all (λ grant. IsEarly state.setup limit grant.start) before.begin_early
          (λ grant opens. opens.early);
      end_early = all (EndsEarly state.setup limit)
          (λ k d below. if_or (get_or grants k d).end (end_by (get_or grants k d).label reply)
          (λ end. IsEarly state.setup limit end) (before.end_early k d below)
          (λ end e. (tells.closes (get_or grants k d).label end e).early))
          (λ grant opens. subst (λ (e : Option ℕ). IfSome e (λ end. IsEarly state.setup limit end))
          (sym opens.endless) tt);
      numbered = all (λ grant. IsNumbered (grown state entry) grant.label)
          (λ k d below. numbered_more state entry (get_or grants k d).label (before.numbered k d below))
          (new_number state limit entry);
      ended = λ label end e.
          elim (or_some (end_in state.history label) (end_by label reply) end
          (sym (end_in-append state.history entry label) ∙ e)) [
            | inl old ↦ numbered_more state entry label (before.ended label end old)
            | inr new ↦
                let closes = tells.closes label end new in
                numbered_more state entry label
                (subst (IsNumbered state) closes.named
                (All-contains (λ (g : Grant). IsNumbered state g.label) grants closes.grant before.numbered
                closes.inside))
          ];
      within = within_more state entry it.0 it.1.at before.within;
      total =
          let low = slice_get_within state.setup.scripts (entry.session - 1) script.0 script.1.there in
          let more = counts_more state.history entry 1 (length state.setup.scripts) (omega (arith, script.1.counted))
          (omega (arith, script.1.counted, low)) in
          omega (arith, more, before.total, length-append state.history (entry ∷ []));
    }

pub standing : (state : ManagerState) (limit : ℕ) → StatesWithin state.setup limit → IsLegal state.setup state.history
    → Standing state limit
standing state limit within legal =
    legal_steps state.setup (λ history. Standing (held state.setup history) limit) (standing_none state.setup limit)
    (λ before entry next here. standing_more (held state.setup before) limit entry within next here) state.history
    legal
