-- What a reply tells: of a load that it grants, and of a grant that it ends.
use Rattle.std.proofs.Common.{◌≡◌, ℕ, ◌+◌, ◌-◌, ◌<◌, ◌≤◌, ◌⊎◌, inl, inr, Bool, true, false, cond, ◌&&◌, ◌||◌, List, [], ◌∷◌, Option, Some, None, Result, Ok, Err, max, refl, sym, ap, ap₂, subst, ◌∙◌, arith}
use Rattle.std.specs.Prelude.{nat_lt, unwrap_or, IsTrue, IsSome, IsSomeAnd, IfSome, is_some}
use Rattle.std.specs.List.{All, Contains, find, list_any, slice_get}
use Rattle.std.specs.Option.{option_map, option_map_or, option_and_then}
use Rattle.std.proofs.lemmas.Bool.{false≢true, leb-false, ltb-false, cases_lt}
use Rattle.std.proofs.lemmas.Option.{cond_some, same_Some, slice_get_within, get_or_from_slice_get}
use Rattle.std.proofs.lemmas.List.Elements.{All-contains}
use Rattle.std.proofs.lemmas.Grind.{div_ceil_times}
use Rattle.soc_base.specs.declared.label.Label.{Label}
use Rattle.bundle_model.specs.declared.bundle.Bundle.{Bundle}
use Rattle.bundle_model.specs.declared.rules.BRule.{BRule}
use Rattle.bundle_model.specs.declared.resource.Resource.{Resource}
use Rattle.bundle_model.specs.declared.world.Named.{Named}
use Rattle.bundle_model.specs.declared.world.World.{World}
use Rattle.bundle_model.specs.declared.world.LoadName.{LoadName}
use Rattle.bundle_model.specs.declared.world.Grant.{Grant}
use Rattle.bundle_model.specs.Resources.{resources_of, meets_of}
use Rattle.bundle_model.specs.Grants.{kept_bundle, bundle_at, grant_resources, lasts_to, conflicts, do_meet, EndsBefore}
use Rattle.bundle_model.specs.World.{same_label}
use Rattle.script_file.specs.declared.command.Command.{Command}
use Rattle.script_file.specs.declared.command.Command.TheVariants.{Load, Stop, Until}
use Rattle.script_file.specs.declared.command.Script.{Script}
use Rattle.vep_manager.specs.declared.setup.Setup.{Setup}
use Rattle.vep_manager.specs.declared.reply.Reply.{Reply}
use Rattle.vep_manager.specs.declared.reply.Reply.TheVariants.{Malformed, Past, Granted, NoLoad, Already, Stopped}
use Rattle.vep_manager.specs.declared.reply.Entry.{Entry}
use Rattle.vep_manager.specs.Setup.{stated_cycle, StatesWithin}
use Rattle.vep_manager.specs.History.{numbered, granted_slot, commands_of, end_by, loaded_place}
use Rattle.vep_manager.specs.Replies.{taken_by, first_conflict, load_reply, stop_reply, judged_of, next_entry}
use Rattle.vep_manager.specs.Granted.{IsEarly}
use Rattle.vep_manager.specs.Manager.{ManagerState}
use Rattle.vep_manager.specs.inner.Keeping.{opened_by}
use Rattle.vep_manager.proofs.States.{grants_at, horizon_at, commands_at, done_at, label_at, reply_at, IsNextEntry, OneMoreLoad}
use Rattle.vep_manager.proofs.Lists.{mapped, and_then, found, not_found}
use Rattle.vep_manager.proofs.Labels.{label_is}
use Rattle.vep_manager.proofs.SetupLemmas.{script_of, numbered_next, loads_next}

-- a session's next command, and its reply
pub record IsNext (state : ManagerState) (session : ℕ) (command : Command) (reply : Reply) : Type 0 where
  pub at : slice_get (commands_at state session) (done_at state session) ≡ Some command
  pub replied : reply_at state session command ≡ Some reply

-- what entry comes next tells which command is next
pub next_command : (state : ManagerState) (entry : Entry) → IsNextEntry state entry
    → (command : Command) × IsNext state entry.session command entry.reply
unfolding next_entry
next_command state entry e =
    let made = mapped _ (option_and_then (reply_at state entry.session)
    (numbered (commands_at state entry.session) (done_at state entry.session + 1))) entry e in
    let it = and_then (reply_at state entry.session)
    (numbered (commands_at state entry.session) (done_at state entry.session + 1)) made.0 made.1 in
    let same : made.0 ≡ entry.reply = ap (λ (x : Entry). x.reply) made.2 in (
      it.0,
      record {
        at = sym (numbered_next (commands_at state entry.session) (done_at state entry.session)) ∙ it.1;
        replied = it.2 ∙ ap Some same;
      },
    )

-- a grant that a reply opens
pub record Opens (state : ManagerState) (limit session : ℕ) (grant : Grant) : Type 0 where
  pub endless : grant.end ≡ None
  pub label : grant.label ≡ label_at state session
  pub more : OneMoreLoad state session
  pub known : IsSome (bundle_at state.setup.world grant.bundle)
  pub of_loads : Contains state.setup.loads (record { label = grant.label; bundle = grant.bundle })
  pub early : IsEarly state.setup limit grant.start
  pub later : horizon_at state ≤ grant.start
  pub clear : (one : Grant) → Contains (grants_at state) one → IsTrue (do_meet state.setup.world one grant)
      → EndsBefore one grant

-- a grant to which a reply gives an end
pub record Closes (state : ManagerState) (limit : ℕ) (label : Label) (end : ℕ) : Type 0 where
  pub grant : Grant
  pub inside : Contains (grants_at state) grant
  pub named : grant.label ≡ label
  pub after : grant.start ≤ end
  pub early : IsEarly state.setup limit end
  pub later : horizon_at state ≤ end

pub record Tells (state : ManagerState) (limit session : ℕ) (reply : Reply) : Type 0 where
  pub opens : IfSome (opened_by state.setup reply) (Opens state limit session)
  pub closes : (label : Label) (end : ℕ) → end_by label reply ≡ Some end → Closes state limit label end

-- a reply that opens no grant and ends none
record IsQuiet (setup : Setup) (reply : Reply) : Type 0 where
  opens : opened_by setup reply ≡ None
  closes : (label : Label) → end_by label reply ≡ None

quiet_tells : (state : ManagerState) (limit session : ℕ) (reply : Reply) → IsQuiet state.setup reply
    → Tells state limit session reply
quiet_tells state limit session reply quiet = record {
  opens = subst (λ (o : Option Grant). IfSome o (Opens state limit session)) (sym quiet.opens) tt;
  closes = λ label end e. let none = quiet.closes label in cc;
}

pub contains_at : {X : Type 0} (xs : List X) (i : ℕ) (x : X) → slice_get xs i ≡ Some x → Contains xs x
contains_at xs i x e = (i, slice_get_within xs i x e, get_or_from_slice_get xs i x x e)

-- the slot for a stated cycle is early
stated_early : (setup : Setup) (limit session n : ℕ) (command : Command) → StatesWithin setup limit
    → slice_get (commands_of setup session) n ≡ Some command
    → IsEarly setup limit (granted_slot setup (stated_cycle command))
stated_early setup limit session n command within at =
    let it = script_of setup session n command at in
    let script : Script = it.0 in
    let all : All (λ command. stated_cycle command ≤ limit) script.commands =
    All-contains (λ (s : Script). All (λ command. stated_cycle command ≤ limit) s.commands) setup.scripts script
    within (contains_at setup.scripts (session - 1) script it.1.there) in
    let there : slice_get script.commands n ≡ Some command =
    ap (λ (l : List Command). slice_get l n) (sym it.1.commands) ∙ at in
    let low : stated_cycle command ≤ limit =
    All-contains (λ (c : Command). stated_cycle c ≤ limit) script.commands command all
    (contains_at script.commands n command there) in
    let bound = (div_ceil_times (stated_cycle command) setup.world.platform.slot_cycles
    setup.world.platform.slot_cycles_in_range.0).1 in
    omega (arith, low, bound)

ends_before : (start : ℕ) (o : Option ℕ) → lasts_to start o ≡ false → IsSomeAnd o (λ end. end < start)
ends_before start None over = absurd (false≢true (sym over))
ends_before start (Some end) over = leb-false start end over

and_left : (a b : Bool) → (a && b) ≡ false → a ≡ true → b ≡ false
and_left true b e t = e
and_left false b e t = absurd (false≢true t)

or_none : (a b : Bool) → a ≡ false → b ≡ false → (a || b) ≡ false
or_none true b e f = e
or_none false b e f = f

found_none : {X : Type 0} (o : Option X) (f : X → Reply) (rest : Option Reply)
    → option_map_or (λ x. Some (f x)) o rest ≡ None → (o ≡ None) × (rest ≡ None)
found_none None f rest e = (refl, e)
found_none (Some x) f rest e = cc

-- where no resource is taken, a grant that lasts to the start meets none of them
none_met : (world : World) (grants : List Grant) (start : ℕ) (resources : List Resource)
    → first_conflict world grants start resources ≡ None → (one : Grant) → Contains grants one
    → lasts_to start one.end ≡ true
    → list_any (λ resource. list_any (λ held. meets_of held resource) (grant_resources world one)) resources ≡ false
none_met world grants start [] free one inside lasts = refl
none_met world grants start (resource ∷ resources) free one inside lasts =
    let parts = found_none (find (conflicts world start resource) grants) (taken_by resource)
    (first_conflict world grants start resources) free in
    let here : conflicts world start resource one ≡ false =
    All-contains (λ g. conflicts world start resource g ≡ false) grants one
    (not_found (conflicts world start resource) grants parts.0) inside in
    or_none _ _ (and_left (lasts_to start one.end) _ here lasts)
    (none_met world grants start resources parts.1 one inside lasts)

bool_cases : (b : Bool) → (b ≡ true) ⊎ (b ≡ false)
bool_cases true = inl refl
bool_cases false = inr refl

clear_of : (world : World) (grants : List Grant) (grant : Grant)
    → first_conflict world grants grant.start (grant_resources world grant) ≡ None → (one : Grant)
    → Contains grants one → IsTrue (do_meet world one grant) → EndsBefore one grant
clear_of world grants grant free one inside meet =
    elim (bool_cases (lasts_to grant.start one.end)) [
      | inl lasts ↦
          let none = none_met world grants grant.start (grant_resources world grant) free one inside lasts in
          absurd (false≢true (sym none ∙ meet))
      | inr over ↦ ends_before grant.start one.end over
    ]

taken_step : (setup : Setup) (o : Option Grant) (resource : Resource) (rest : Option Reply) (reply : Reply)
    → (rest ≡ Some reply → IsQuiet setup reply)
    → option_map_or (λ grant. Some (taken_by resource grant)) o rest ≡ Some reply → IsQuiet setup reply
taken_step setup None resource rest reply later e = later e
taken_step setup (Some grant) resource rest reply later e =
    let same : taken_by resource grant ≡ reply = cc in
    subst (λ (r : Reply). IsQuiet setup r) same (record { opens = refl; closes = λ label. refl })

taken_quiet : (setup : Setup) (world : World) (grants : List Grant) (start : ℕ) (resources : List Resource)
    (reply : Reply)
    → first_conflict world grants start resources ≡ Some reply → IsQuiet setup reply
taken_quiet setup world grants start [] reply e = cc
taken_quiet setup world grants start (resource ∷ resources) reply e =
    taken_step setup (find (conflicts world start resource) grants) resource
    (first_conflict world grants start resources) reply (taken_quiet setup world grants start resources reply) e

-- a load whose bundle breaks no rule, and what it asks for
record IsAsked (state : ManagerState) (limit session : ℕ) (bundle : Bundle) (start : ℕ) : Type 0 where
  judged : judged_of state.setup (label_at state session) ≡ Some (Ok bundle)
  more : OneMoreLoad state session
  early : IsEarly state.setup limit start

opens_of : (state : ManagerState) (limit session : ℕ) (bundle : Bundle) (start : ℕ)
    → IsAsked state limit session bundle start → horizon_at state ≤ start
    → first_conflict state.setup.world (grants_at state) start (resources_of state.setup.world.platform bundle) ≡ None
    → Opens state limit session
    (record {
      label = label_at state session;
      bundle = loaded_place state.setup (label_at state session);
      start = start;
      end = None;
    })
opens_of state limit session bundle start asked later free =
    let label : Label = label_at state session in
    let it = and_then (λ (load : LoadName). option_map (λ (named : Named). named.judged)
    (slice_get state.setup.world.catalog load.bundle))
    (find (λ load. same_label load.label label) state.setup.loads) (Ok bundle) asked.judged in
    let load : LoadName = it.0 in
    let there = found (λ (l : LoadName). same_label l.label label) state.setup.loads load it.1 in
    let named = mapped (λ (n : Named). n.judged) (slice_get state.setup.world.catalog load.bundle) (Ok bundle) it.2 in
    let place : loaded_place state.setup label ≡ load.bundle =
    ap (λ (o : Option LoadName). option_map_or (λ (l : LoadName). l.bundle) o 0) it.1 in
    let kept : bundle_at state.setup.world (loaded_place state.setup label) ≡ Some bundle =
    ap (bundle_at state.setup.world) place
    ∙ ap (λ (o : Option Named). option_and_then (λ (n : Named). kept_bundle n.judged) o) named.1
    ∙ ap kept_bundle named.2 in
    let grant : Grant = record {
      label = label;
      bundle = loaded_place state.setup label;
      start = start;
      end = None;
    } in
    let held : grant_resources state.setup.world grant ≡ resources_of state.setup.world.platform bundle =
    ap (λ (o : Option Bundle). option_map_or (resources_of state.setup.world.platform) o []) kept in
    let same : load ≡ (let l : LoadName = record { label = label; bundle = loaded_place state.setup label } in l) =
    ap₂ (λ (l : Label) (b : ℕ). let name : LoadName = record { label = l; bundle = b } in name)
    (label_is load.label label there.0) (sym place) in
    record {
      endless = refl;
      label = refl;
      more = asked.more;
      known = ap is_some kept;
      of_loads = subst (λ (l : LoadName). Contains state.setup.loads l) same there.1;
      early = asked.early;
      later = later;
      clear = clear_of state.setup.world (grants_at state) grant
          (ap (first_conflict state.setup.world (grants_at state) start) held ∙ free);
    }

load_tells : (state : ManagerState) (limit session : ℕ) (bundle : Bundle) (start : ℕ) (past : Bool) (o : Option Reply)
    → IsAsked state limit session bundle start → nat_lt start (horizon_at state) ≡ past
    → first_conflict state.setup.world (grants_at state) start (resources_of state.setup.world.platform bundle) ≡ o
    → Tells state limit session (cond past (Past (horizon_at state)) (unwrap_or o (Granted (label_at state session) start)))
load_tells state limit session bundle start true o asked below is =
    quiet_tells state limit session (Past (horizon_at state)) (record { opens = refl; closes = λ label. refl })
load_tells state limit session bundle start false None asked below is =
    record {
      opens = opens_of state limit session bundle start asked (ltb-false start (horizon_at state) below) is;
      closes = λ label end e. cc;
    }
load_tells state limit session bundle start false (Some reply) asked below is =
    quiet_tells state limit session reply
    (taken_quiet state.setup state.setup.world (grants_at state) start
    (resources_of state.setup.world.platform bundle) reply is)

judged_tells : (state : ManagerState) (limit session : ℕ) (judged : Result Bundle BRule) (start : ℕ)
    → judged_of state.setup (label_at state session) ≡ Some judged → OneMoreLoad state session
    → IsEarly state.setup limit start
    → Tells state limit session (load_reply state.setup state.history (label_at state session) start judged)
judged_tells state limit session (Err rule) start is more early =
    quiet_tells state limit session (Malformed rule) (record { opens = refl; closes = λ label. refl })
judged_tells state limit session (Ok bundle) start is more early =
    load_tells state limit session bundle start (nat_lt start (horizon_at state))
    (first_conflict state.setup.world (grants_at state) start (resources_of state.setup.world.platform bundle))
    (record { judged = is; more = more; early = early }) refl refl

max_is : (a b : ℕ) → (max a b ≡ a) ⊎ (max a b ≡ b)
max_is a b = elim (cases_lt a b) [ inl low ↦ inr (omega arith) | inr high ↦ inl (omega arith) ]

max_early : (setup : Setup) (limit a b : ℕ) → IsEarly setup limit a → IsEarly setup limit b
    → IsEarly setup limit (max a b)
max_early setup limit a b one other =
    elim (max_is a b) [
      | inl is ↦ subst (λ (n : ℕ). IsEarly setup limit n) (sym is) one
      | inr is ↦ subst (λ (n : ℕ). IsEarly setup limit n) (sym is) other
    ]

-- the grants begin early
abbrev pub BeginEarly : ManagerState → ℕ → Type 0
BeginEarly state limit = All (λ grant. IsEarly state.setup limit grant.start) (grants_at state)

stopped_tells : (state : ManagerState) (limit session slot : ℕ) (grant : Grant) (past : Bool) (end : Option ℕ)
    → nat_lt slot (horizon_at state) ≡ past → Contains (grants_at state) grant → IsEarly state.setup limit slot → BeginEarly state limit
    → Tells state limit session
    (option_map_or (λ end. Already end) end
    (cond past (Past (horizon_at state)) (Stopped grant.label (max slot grant.start))))
stopped_tells state limit session slot grant past (Some end) below inside early begun =
    quiet_tells state limit session (Already end) (record { opens = refl; closes = λ label. refl })
stopped_tells state limit session slot grant true None below inside early begun =
    quiet_tells state limit session (Past (horizon_at state)) (record { opens = refl; closes = λ label. refl })
stopped_tells state limit session slot grant false None below inside early begun = record {
  opens = tt;
  closes = λ label end e.
      let is = cond_some (same_label grant.label label) (max slot grant.start) end e in
      record {
        grant = grant;
        inside = inside;
        named = label_is grant.label label is.0;
        after = omega (arith, is.1);
        early = subst (λ (n : ℕ). IsEarly state.setup limit n) is.1
            (max_early state.setup limit slot grant.start early
            (All-contains (λ (g : Grant). IsEarly state.setup limit g.start) (grants_at state) grant begun inside));
        later = omega (arith, is.1, ltb-false slot (horizon_at state) below);
      };
}

stop_tells : (state : ManagerState) (limit session slot : ℕ) (label : Label) (o : Option Grant)
    → find (λ grant. same_label grant.label label) (grants_at state) ≡ o → IsEarly state.setup limit slot
    → BeginEarly state limit → Tells state limit session (stop_reply (horizon_at state) slot o)
stop_tells state limit session slot label None is early begun =
    quiet_tells state limit session NoLoad (record { opens = refl; closes = λ label. refl })
stop_tells state limit session slot label (Some grant) is early begun =
    stopped_tells state limit session slot grant (nat_lt slot (horizon_at state)) grant.end refl
    (found (λ (g : Grant). same_label g.label label) (grants_at state) grant is).1 early begun

-- what the reply to a session's next command tells
pub reply_tells : (state : ManagerState) (limit session : ℕ) (command : Command) (reply : Reply)
    → StatesWithin state.setup limit → BeginEarly state limit → IsNext state session command reply
    → Tells state limit session reply
reply_tells state limit session (Load name cycle) reply within begun next =
    let label : Label = label_at state session in
    let it = mapped (load_reply state.setup state.history label (granted_slot state.setup cycle))
    (judged_of state.setup label) reply next.replied in
    let more = loads_next (commands_at state session) (done_at state session) (Load name cycle) next.at
    (λ none. cc) in
    subst (λ (r : Reply). Tells state limit session r) it.2
    (judged_tells state limit session it.0 (granted_slot state.setup cycle) it.1 more
    (stated_early state.setup limit session (done_at state session) (Load name cycle) within next.at))
reply_tells state limit session (Stop load cycle) reply within begun next =
    let label : Label = record { session = session; load = load } in
    let slot : ℕ = granted_slot state.setup cycle in
    let o : Option Grant = find (λ grant. same_label grant.label label) (grants_at state) in
    let same : stop_reply (horizon_at state) slot o ≡ reply = same_Some _ reply next.replied in
    subst (λ (r : Reply). Tells state limit session r) same
    (stop_tells state limit session slot label o refl
    (stated_early state.setup limit session (done_at state session) (Stop load cycle) within next.at) begun)
reply_tells state limit session (Until cycle) reply within begun next =
    let same = same_Some _ reply next.replied in
    subst (λ (r : Reply). Tells state limit session r) same
    (quiet_tells state limit session _ (record { opens = refl; closes = λ label. refl }))
