-- When a session has a next entry, and which.
use Rattle.std.proofs.Common.{◌≡◌, ◌≢◌, ℕ, ◌+◌, ◌<◌, inl, inr, true, false, List, [], length, Option, Some, None, Result, Ok, refl, sym, ap, ◌∙◌, arith}
use Rattle.std.specs.Prelude.{IsNone, ◌↔◌, IsTrue, is_some}
use Rattle.std.specs.List.{find, slice_get}
use Rattle.std.specs.Option.{option_map, option_map_or, option_and_then}
use Rattle.std.proofs.lemmas.Bool.{false≢true, leb-true, le-leb}
use Rattle.std.proofs.lemmas.Option.{slice_get_cases}
use Rattle.std.proofs.lemmas.List.Elements.{All-contains}
use Rattle.soc_base.specs.declared.label.Label.{Label}
use Rattle.bundle_model.specs.declared.bundle.Bundle.{Bundle}
use Rattle.bundle_model.specs.declared.rules.BRule.{BRule}
use Rattle.bundle_model.specs.declared.world.Named.{Named}
use Rattle.bundle_model.specs.declared.world.World.{World}
use Rattle.bundle_model.specs.declared.world.LoadName.{LoadName}
use Rattle.bundle_model.specs.Resources.{resources_of}
use Rattle.bundle_model.specs.Grants.{kept_bundle, bundle_at}
use Rattle.bundle_model.specs.World.{same_label}
use Rattle.script_file.specs.declared.command.Command.{Command}
use Rattle.script_file.specs.declared.command.Command.TheVariants.{Load, Stop, Until}
use Rattle.vep_manager.specs.declared.setup.Setup.{Setup}
use Rattle.vep_manager.specs.declared.reply.Reply.{Reply}
use Rattle.vep_manager.specs.declared.reply.Entry.{Entry}
use Rattle.vep_manager.specs.Loads.{loaded_name}
use Rattle.vep_manager.specs.History.{numbered, is_used_up, granted_slot, commands_of}
use Rattle.vep_manager.specs.Replies.{load_reply, judged_of, next_label, next_entry}
use Rattle.vep_manager.specs.Manager.{ManagerState}
use Rattle.vep_manager.proofs.States.{commands_at, done_at, label_at, reply_at, next_at, IsNextEntry}
use Rattle.vep_manager.proofs.Lists.{found, is_found}
use Rattle.vep_manager.proofs.Labels.{label_same}
use Rattle.vep_manager.proofs.SetupLemmas.{numbered_next, loads_known, next_is_known}

-- how the bundle was judged whose load and file were found
pub judged_found : (setup : Setup) (label : Label) (load : LoadName) (named : Named) (judged : Result Bundle BRule)
    → find (λ l. same_label l.label label) setup.loads ≡ Some load
    → slice_get setup.world.catalog load.bundle ≡ Some named → named.judged ≡ judged
    → judged_of setup label ≡ Some judged
judged_found setup label load named judged here file is =
    ap (λ (o : Option LoadName). option_and_then
    (λ (l : LoadName). option_map (λ (n : Named). n.judged) (slice_get setup.world.catalog l.bundle)) o) here
    ∙ ap (λ (o : Option Named). option_map (λ (n : Named). n.judged) o) file ∙ ap Some is

-- what the bundle of that file holds
pub held_found : (world : World) (place : ℕ) (named : Named) (bundle : Bundle)
    → slice_get world.catalog place ≡ Some named → named.judged ≡ Ok bundle
    → option_map_or (resources_of world.platform) (bundle_at world place) [] ≡ resources_of world.platform bundle
held_found world place named bundle file is =
    ap (λ (o : Option Named). option_map_or (resources_of world.platform)
    (option_and_then (λ (n : Named). kept_bundle n.judged) o) []) file
    ∙ ap (λ (j : Result Bundle BRule). option_map_or (resources_of world.platform) (kept_bundle j) []) is

some_and : {X Y : Type 0} (f : X → Option Y) (o : Option X) → ((x : X) → o ≡ Some x → is_some (f x) ≡ true)
    → is_some o ≡ true → is_some (option_and_then f o) ≡ true
some_and f None each there = cc
some_and f (Some x) each there = each x refl

some_map : {X Y : Type 0} (f : X → Y) (o : Option X) → is_some (option_map f o) ≡ is_some o
some_map f None = refl
some_map f (Some x) = refl

some_at : {X : Type 0} (xs : List X) (i : ℕ) → i < length xs → is_some (slice_get xs i) ≡ true
some_at xs i low =
    elim (slice_get_cases xs i).1 [
      | inl (x, below, at, is) ↦ ap is_some at
      | inr (past, at) ↦ absurd (omega arith)
    ]

-- each load command's load is among the loads, and its file in the catalog
load_judged : (setup : Setup) (session n : ℕ) (command : Command)
    → slice_get (commands_of setup session) n ≡ Some command → loaded_name command ≢ None
    → is_some (judged_of setup (next_label setup session n)) ≡ true
load_judged setup session n command at loads =
    let label : Label = next_label setup session n in
    let known = next_is_known setup session n command at loads in
    let there = is_found (λ (l : LoadName). same_label l.label label) setup.loads known.0 known.1
    (label_same known.0.label label known.2) in
    some_and _ (find (λ l. same_label l.label label) setup.loads)
    (λ load here.
    let inside = (found (λ (l : LoadName). same_label l.label label) setup.loads load here).1 in
    let low : load.bundle < length setup.world.catalog =
    All-contains (λ (l : LoadName). l.bundle < length setup.world.catalog) setup.loads load
    (loads_known setup) inside in
    some_map (λ (n : Named). n.judged) (slice_get setup.world.catalog load.bundle)
    ∙ some_at setup.world.catalog load.bundle low)
    there

-- each command is answered
is_replied : (state : ManagerState) (session : ℕ) (command : Command)
    → slice_get (commands_at state session) (done_at state session) ≡ Some command
    → is_some (reply_at state session command) ≡ true
is_replied state session (Load name cycle) at =
    some_map (load_reply state.setup state.history (label_at state session) (granted_slot state.setup cycle))
    (judged_of state.setup (label_at state session))
    ∙ load_judged state.setup session (done_at state session) (Load name cycle) at (λ none. cc)
is_replied state session (Stop load cycle) at = refl
is_replied state session (Until cycle) at = refl

-- a session whose next command has this reply has this next entry
pub next_is : (state : ManagerState) (session : ℕ) (command : Command) (reply : Reply)
    → slice_get (commands_at state session) (done_at state session) ≡ Some command
    → reply_at state session command ≡ Some reply
    → next_at state session ≡ Some (record { session = session; index = done_at state session + 1; reply = reply })
unfolding next_entry
next_is state session command reply at is =
    let entry = λ (r : Reply). let e : Entry =
    record { session = session; index = done_at state session + 1; reply = r } in e in
    ap (λ (o : Option Command). option_map entry (option_and_then (reply_at state session) o))
    (numbered_next (commands_at state session) (done_at state session) ∙ at)
    ∙ ap (option_map entry) is

some_next : (state : ManagerState) (session : ℕ)
    → is_some (next_at state session)
    ≡ is_some (option_and_then (reply_at state session)
    (slice_get (commands_at state session) (done_at state session)))
unfolding next_entry
some_next state session =
    some_map (λ (r : Reply). let e : Entry = record {
      session = session;
      index = done_at state session + 1;
      reply = r;
    } in e) (option_and_then (reply_at state session)
    (numbered (commands_at state session) (done_at state session + 1)))
    ∙ ap (λ (o : Option Command). is_some (option_and_then (reply_at state session) o))
    (numbered_next (commands_at state session) (done_at state session))

-- a session has no next entry just where its script is used up
pub next_none : (state : ManagerState) (session : ℕ)
    → IsNone (next_at state session) ↔ IsTrue (is_used_up state.setup state.history session)
next_none state session =
    let commands : List Command = commands_at state session in
    let count : ℕ = done_at state session in
    elim (slice_get_cases commands count).1 [
      | inl (command, below, at, is) ↦
          let next : is_some (next_at state session) ≡ true =
          some_next state session
          ∙ ap (λ (o : Option Command). is_some (option_and_then (reply_at state session) o)) at
          ∙ is_replied state session command at in (
            λ none. absurd (false≢true (sym none ∙ next)),
            λ used. let past = leb-true (length commands) count used in
                absurd (omega arith),
          )
      | inr (past, at) ↦
          let next : is_some (next_at state session) ≡ false =
          some_next state session
          ∙ ap (λ (o : Option Command). is_some (option_and_then (reply_at state session) o)) at in
          (λ none. le-leb (length commands) count past, λ used. next)
    ]

-- the entry that a session's next command adds, by what was answered
pub next_from : (state : ManagerState) (session : ℕ) (entry : Entry) (answer : Option Entry) → entry.session ≡ session
    → answer ≡ next_at state session → answer ≡ Some entry → IsNextEntry state entry
next_from state session entry answer same is some = ap (next_at state) same ∙ sym is ∙ some
