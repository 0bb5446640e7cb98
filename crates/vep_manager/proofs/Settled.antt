-- What follows for the grants and the horizon of a legal history.
use Rattle.std.proofs.Common.{◌≡◌, ◌≢◌, ℕ, suc, ◌+◌, ◌≤◌, true, cond, List, [], ◌∷◌, length, map, take, get_or, fold, max, min, Option, Some, refl, ap, subst, ◌∙◌, arith}
use Rattle.std.specs.Prelude.{nat_le}
use Rattle.std.specs.List.{All, Contains, slice_get, sum_by, filter_map}
use Rattle.std.specs.Option.{option_map_or}
use Rattle.std.proofs.lemmas.Bool.{le-leb}
use Rattle.std.proofs.lemmas.List.{length-map}
use Rattle.std.proofs.lemmas.List.Sums.{sum_by-cons}
use Rattle.std.proofs.lemmas.List.Elements.{All-head, All-tail, All-map}
use Rattle.soc_base.specs.declared.limits.TheConstants.{LAST_CYCLE}
use Rattle.bundle_model.specs.declared.world.LoadName.{LoadName}
use Rattle.bundle_model.specs.declared.world.Grant.{Grant}
use Rattle.bundle_model.specs.Grants.{IsApart}
use Rattle.bundle_model.specs.World.{AreOfLoads}
use Rattle.script_file.specs.declared.command.Script.{Script}
use Rattle.vep_manager.specs.declared.setup.Setup.{Setup}
use Rattle.vep_manager.specs.declared.reply.Entry.{Entry}
use Rattle.vep_manager.specs.History.{until_slot, promise_of, sessions_of, horizon_of, commands_of, count_of, grants_of}
use Rattle.vep_manager.specs.Setup.{IsSound, StatesWithin, command_count}
use Rattle.vep_manager.specs.Legal.{IsLegal, IsComplete}
use Rattle.vep_manager.specs.Granted.{AreGranted}
use Rattle.vep_manager.specs.Manager.{ManagerState}
use Rattle.vep_manager.proofs.States.{held, grown, grants_at, IsNextEntry}
use Rattle.vep_manager.proofs.Lists.{pairs_map, fewer}
use Rattle.vep_manager.proofs.SetupLemmas.{numbered_next}
use Rattle.vep_manager.proofs.Standing.{Standing, counts, standing, legal_more}

-- the grants are no more than the loads
pub few_grants : (state : ManagerState) (limit : ℕ) → Standing state limit
    → length (grants_at state) ≤ length state.setup.loads
few_grants state limit stands =
    let name = λ (g : Grant). let load : LoadName = record { label = g.label; bundle = g.bundle } in load in
    let apart = pairs_map (λ (one other : Grant). one.label ≢ other.label) (λ (one other : LoadName). one ≢ other)
    name (λ one other labels same. labels (ap (λ (l : LoadName). l.label) same)) (grants_at state)
    stands.apart.labelled in
    let few = fewer (map name (grants_at state)) state.setup.loads apart
    (All-map (Contains state.setup.loads) name (grants_at state) stands.of_loads) in
    omega (arith, few, length-map (grants_at state) name)

counts_fit : (history : List Entry) (scripts : List Script) (from : ℕ)
    → ((place : ℕ) (script : Script) → slice_get scripts place ≡ Some script
    → count_of history (from + place) ≤ length script.commands)
    → counts history from (length scripts) ≤ sum_by (λ script. length script.commands) scripts
counts_fit history [] from fit = omega arith
counts_fit history (script ∷ scripts) from fit =
    let here : count_of history (from + 0) ≤ length script.commands = fit 0 script refl in
    let same : from + 0 ≡ from = omega arith in
    let rest = counts_fit history scripts (from + 1) (λ place other at.
    let shift : from + suc place ≡ from + 1 + place = omega arith in
    subst (λ (s : ℕ). count_of history s ≤ length other.commands) shift (fit (suc place) other at)) in
    omega (
      arith,
      here,
      ap (count_of history) same,
      rest,
      sum_by-cons (λ (s : Script). length s.commands) script
          scripts,
    )

-- the entries are no more than the commands
pub few_entries : (state : ManagerState) (limit : ℕ) → Standing state limit
    → length state.history ≤ command_count state.setup
few_entries state limit stands =
    let fit = counts_fit state.history state.setup.scripts 1 (λ place script at.
    let shift : 1 + place ≡ place + 1 = omega arith in
    let commands : commands_of state.setup (1 + place) ≡ script.commands =
    ap (commands_of state.setup) shift
    ∙ ap (λ (o : Option Script). option_map_or (λ (s : Script). s.commands) o [])
    (numbered_next state.setup.scripts place ∙ at) in
    omega (arith, stands.within (1 + place), ap length commands)) in
    omega (arith, fit, stands.total)

-- what holds of the grants
pub granted : (state : ManagerState) (limit : ℕ) → Standing state limit → AreGranted state.setup limit state.history
granted state limit stands = record {
  of_loads = stands.of_loads;
  few = few_grants state limit stands;
  begin_early = stands.begin_early;
  end_early = stands.end_early;
}

-- what holds of a legal history of a sound setup holds with the next entry
pub stands_after : (state : ManagerState) (entry : Entry) → IsSound state.setup → IsLegal state.setup state.history
    → IsNextEntry state entry → Standing (grown state entry) LAST_CYCLE
stands_after state entry sound legal next =
    standing (grown state entry) LAST_CYCLE sound.cycles (legal_more state.setup state.history entry legal next)

-- the grants of a legal history of a sound setup can all be kept
pub legal_apart : (setup : Setup) → IsSound setup → (history : List Entry) → IsLegal setup history
    → IsApart setup.world (grants_of setup history)
legal_apart setup sound history legal = (standing (held setup history) LAST_CYCLE sound.cycles legal).apart

pub legal_granted : (state : ManagerState) (limit : ℕ) → StatesWithin state.setup limit
    → IsLegal state.setup state.history → AreGranted state.setup limit state.history
legal_granted state limit within legal = granted state limit (standing state limit within legal)

-- each grant of a legal history of a sound setup is of one of the loads
pub grants_of_loads : (setup : Setup) → IsSound setup → (history : List Entry) → IsLegal setup history
    → AreOfLoads setup.loads (grants_of setup history)
grants_of_loads setup sound history legal = (standing (held setup history) LAST_CYCLE sound.cycles legal).of_loads

-- no more commands of a session stand in a legal history than its script has
pub legal_counts : (setup : Setup) → IsSound setup → (history : List Entry) → IsLegal setup history → (session : ℕ)
    → count_of history session ≤ length (commands_of setup session)
legal_counts setup sound history legal session =
    (standing (held setup history) LAST_CYCLE sound.cycles legal).within session

pub grants_none : (setup : Setup) → grants_of setup [] ≡ []
unfolding grants_of
grants_none setup = refl

least_same : (setup : Setup) (done : ℕ → ℕ) (sessions : List ℕ)
    → All (λ session. promise_of setup session (done session) ≡ setup.budget) sessions
    → fold (λ least promise. min least promise) setup.budget
    (map (λ session. promise_of setup session (done session)) sessions) ≡ setup.budget
least_same setup done [] same = refl
least_same setup done (session ∷ sessions) same =
    let here = All-head (λ session. promise_of setup session (done session) ≡ setup.budget) session sessions same in
    let least : min setup.budget (promise_of setup session (done session)) ≡ setup.budget = omega (arith, here) in
    ap (λ n. fold (λ least promise. min least promise) n
    (map (λ session. promise_of setup session (done session)) sessions)) least
    ∙ least_same setup done sessions
    (All-tail (λ session. promise_of setup session (done session) ≡ setup.budget) session sessions same)

-- the horizon of a complete history is the budget
pub horizon_complete : (setup : Setup) (history : List Entry) → IsComplete setup history
    → horizon_of setup history ≡ setup.budget
unfolding horizon_of
horizon_complete setup history complete =
    let most = λ (session n : ℕ). fold (λ most slot. max most slot) 0
    (filter_map (until_slot setup) (take n (commands_of setup session))) in
    let all : All (λ session. promise_of setup session (count_of history session) ≡ setup.budget)
    (sessions_of setup) = λ k d below.
    let session : ℕ = get_or (sessions_of setup) k d in
    let used : nat_le (length (commands_of setup session)) (count_of history session) ≡ true =
    le-leb (length (commands_of setup session)) (count_of history session) (omega (arith, complete k d below)) in
    ap (λ b. cond b setup.budget (min setup.budget (most session (count_of history session)))) used in
    least_same setup (count_of history) (sessions_of setup) all
