-- What a manager knows, and that the next entry keeps it.
use Rattle.std.proofs.Common.{◌≡◌, ℕ, ◌^◌, ◌<◌, ◌≤◌, List, [], ◌∷◌, ◌++◌, length, get_or, Option, Some, None, sym, ap, subst, ◌∙◌, arith, lit≤, length-append}
use Rattle.std.proofs.Math.Nat.{le-mul_of_pos_right}
use Rattle.std.specs.Prelude.{◌≢◌, IfSome}
use Rattle.std.specs.List.{All, AllPairs}
use Rattle.soc_base.specs.declared.limits.TheConstants.{LAST_CYCLE, MOST_COMMANDS}
use Rattle.bundle_model.specs.declared.world.Grant.{Grant}
use Rattle.vep_manager.specs.declared.setup.Setup.{Setup}
use Rattle.vep_manager.specs.declared.reply.Entry.{Entry}
use Rattle.vep_manager.specs.Setup.{IsSound, command_count}
use Rattle.vep_manager.specs.History.{grants_of, horizon_with, horizon_of}
use Rattle.vep_manager.specs.Legal.{IsLegal}
use Rattle.vep_manager.specs.inner.Claims.{HasSmallEnd}
use Rattle.vep_manager.specs.Granted.{IsEarly}
use Rattle.vep_manager.specs.Owners.{CanAdd}
use Rattle.vep_manager.specs.Manager.{ManagerState}
use Rattle.vep_manager.specs.inner.Keeping.{Known, IsKept, counted, opened_by, grants_after}
use Rattle.vep_manager.proofs.States.{held, grown, grants_at, commands_at, done_at, IsNextEntry}
use Rattle.vep_manager.proofs.Replied.{next_command, Opens, reply_tells}
use Rattle.vep_manager.proofs.Standing.{Standing, standing, standing_more, legal_none, legal_more, grants_more, no_number}
use Rattle.vep_manager.proofs.Settled.{few_grants, few_entries}
use Rattle.vep_manager.proofs.SetupLemmas.{sound_world}

pub kept_stands : {state : ManagerState} {known : Known} → IsKept state known → Standing state LAST_CYCLE
kept_stands {state} kept = standing state LAST_CYCLE kept.sound.cycles kept.legal

pub kept_entries : {state : ManagerState} {known : Known} → IsKept state known → length state.history ≤ MOST_COMMANDS
kept_entries {state} kept = omega (arith, few_entries state LAST_CYCLE (kept_stands kept), kept.sound.few_commands)

pub kept_grants : {state : ManagerState} {known : Known} → IsKept state known
    → length known.grants ≤ length state.setup.loads
kept_grants {state} kept = omega (arith, few_grants state LAST_CYCLE (kept_stands kept), ap length kept.grants_known)

pub kept_count : {state : ManagerState} {known : Known} (session : ℕ) → IsKept state known
    → done_at state session ≤ length (commands_at state session)
kept_count session kept = (kept_stands kept).within session

-- what a manager keeps once an entry more stands in the history
pub record Grows (state : ManagerState) (entry : Entry) (before after : Known) (history : List Entry) : Type 0 where
  pub appended : history ≡ state.history ++ entry ∷ []
  pub grants : after.grants ≡ grants_after state.setup entry.reply before.grants
  pub horizon : after.horizon ≡ horizon_with state.setup (counted None history)
  pub entries : after.entry_room ≡ before.entry_room

-- one more entry
pub kept_more : {state : ManagerState} {before : Known} (entry : Entry) (after : Known) (history : List Entry)
    → IsKept state before → IsNextEntry state entry → Grows state entry before after history
    → IsKept (held state.setup history) after
unfolding horizon_of
kept_more {state} {before} entry after history kept is grows = record {
  sound = kept.sound;
  legal = subst (IsLegal state.setup) (sym grows.appended) (legal_more state.setup state.history entry kept.legal is);
  grants_known = grows.grants ∙ ap (grants_after state.setup entry.reply) kept.grants_known
      ∙ sym (grants_more state LAST_CYCLE entry kept.sound.cycles is (kept_stands kept))
      ∙ ap (grants_of state.setup) (sym grows.appended);
  horizon_known = grows.horizon;
  entries_fit = omega (arith, kept.entries_fit, grows.entries);
}

stands_more : {state : ManagerState} {known : Known} (entry : Entry) → IsKept state known → IsNextEntry state entry
    → Standing (grown state entry) LAST_CYCLE
stands_more {state} entry kept is = standing_more state LAST_CYCLE entry kept.sound.cycles is (kept_stands kept)

-- there are few grants
pub kept_few : {state : ManagerState} {known : Known} → IsKept state known → length known.grants ≤ MOST_COMMANDS
kept_few {state} kept = omega (arith, kept_grants kept, (sound_world state.setup kept.sound).few)

-- no two grants have one label
pub kept_labelled : {state : ManagerState} {known : Known} → IsKept state known
    → AllPairs (λ one other. one.label ≢ other.label) known.grants
kept_labelled {state} kept =
    subst (λ (l : List Grant). AllPairs (λ (one other : Grant). one.label ≢ other.label) l) (sym kept.grants_known)
    (kept_stands kept).apart.labelled

opened_can : (state : ManagerState) (session : ℕ) (grant : Grant) → Standing state LAST_CYCLE
    → Opens state LAST_CYCLE session grant
    → CanAdd (record { setup = state.setup; grants = grants_at state }) grant
opened_can state session grant stands opens = record {
  of_load = opens.of_loads;
  kept = opens.known;
  new = λ k d below same. no_number state session (get_or (grants_at state) k d).label (same ∙ opens.label)
      (stands.numbered k d below);
}

if_can : (o : Option Grant) (P Q : Grant → Type 0) → ((grant : Grant) → P grant → Q grant) → IfSome o P → IfSome o Q
if_can None P Q weaker opens = tt
if_can (Some grant) P Q weaker opens = weaker grant opens

-- the grant that the next entry opens can be added
pub kept_can : {state : ManagerState} {known : Known} (entry : Entry) → IsKept state known → IsNextEntry state entry
    → IfSome (opened_by state.setup entry.reply) (CanAdd (record { setup = state.setup; grants = known.grants }))
kept_can {state} {known} entry kept is =
    let stands = kept_stands kept in
    let it = next_command state entry is in
    let tells = reply_tells state LAST_CYCLE entry.session it.0 entry.reply kept.sound.cycles stands.begin_early it.1 in
    let can = if_can (opened_by state.setup entry.reply) (Opens state LAST_CYCLE entry.session)
    (CanAdd (record { setup = state.setup; grants = grants_at state }))
    (λ grant opens. opened_can state entry.session grant stands opens) tells.opens in
    subst (λ (l : List Grant). IfSome (opened_by state.setup entry.reply) (CanAdd (record { setup = state.setup; grants = l })))
    (sym kept.grants_known) can

-- there is room for the next entry
pub kept_space : {state : ManagerState} {known : Known} (entry : Entry) → IsKept state known → IsNextEntry state entry
    → length state.history < known.entry_room
kept_space {state} entry kept is =
    let few = few_entries (grown state entry) LAST_CYCLE (stands_more entry kept is) in
    omega (arith, few, length-append state.history (entry ∷ []), kept.entries_fit)

-- and the history with it is short
pub kept_short : {state : ManagerState} {known : Known} (entry : Entry) → IsKept state known → IsNextEntry state entry
    → length (state.history ++ entry ∷ []) ≤ MOST_COMMANDS
kept_short {state} entry kept is =
    let few = few_entries (grown state entry) LAST_CYCLE (stands_more entry kept is) in
    omega (arith, few, kept.sound.few_commands)

-- no history
pub kept_none : (setup : Setup) (known : Known) → IsSound setup → known.grants ≡ []
    → known.horizon ≡ horizon_with setup (counted None []) → command_count setup ≤ known.entry_room
    → IsKept (held setup []) known
unfolding grants_of horizon_of
kept_none setup known sound no_grants is entries = record {
  sound = sound;
  legal = legal_none setup;
  grants_known = no_grants;
  horizon_known = is;
  entries_fit = entries;
}

small_of : (setup : Setup) (limit : ℕ) (end : Option ℕ) → limit ≤ 2 ^ 62 → IfSome end (λ e. IsEarly setup limit e)
    → IfSome end (λ e. e < 2 ^ 63)
small_of setup limit None low early = tt
small_of setup limit (Some end) low early =
    let times = le-mul_of_pos_right end setup.world.platform.slot_cycles_in_range.0 in
    omega (arith, times, early, setup.world.platform.slot_cycles_in_range)

-- the slot after each end is a number that fits
pub kept_small : {state : ManagerState} {known : Known} → IsKept state known → All HasSmallEnd known.grants
kept_small {state} kept =
    let all : All HasSmallEnd (grants_at state) = λ k d below.
    small_of state.setup LAST_CYCLE (get_or (grants_at state) k d).end (lit≤ tt)
    ((kept_stands kept).end_early k d below) in
    subst (λ (l : List Grant). All HasSmallEnd l) (sym kept.grants_known) all
