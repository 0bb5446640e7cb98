-- Events one after the other.
use Rattle.std.proofs.Common.{◌≡◌, ℕ, ◌+◌, ◌-◌, ◌≤◌, ◌<◌, ◌==◌, Bool, true, false, cond, not, ◌&&◌, List, [], ◌∷◌, ◌++◌, length, get_or, take, slice_get, Option, Some, None, option_map, refl, ap, ◌∙◌, inl, inr, arith}
use Rattle.std.specs.Prelude.{is_some}
use Rattle.std.specs.Option.{option_map_or, option_and_then}
use Rattle.std.proofs.lemmas.Bool.{eqb-false, cases_lt}
use Rattle.std.proofs.lemmas.List.{take_more}
use Rattle.std.proofs.lemmas.Option.{slice_get_cases}
use Rattle.script_file.specs.declared.command.Script.{Script}
use Rattle.script_file.specs.declared.command.Command.{Command as CommandText}
use Rattle.tile_core.specs.Tile.{TileState}
use Rattle.vep_manager.specs.declared.setup.Setup.{Setup}
use Rattle.vep_manager.specs.declared.reply.Entry.{Entry}
use Rattle.vep_manager.specs.declared.reply.Reply.{Reply}
use Rattle.vep_manager.specs.History.{numbered, count_of, commands_of}
use Rattle.vep_manager.specs.Replies.{reply_to, next_entry}
use Rattle.core_model.specs.Core.{answered, happens}
use Rattle.event_core.specs.declared.event.Event.{Event}
use Rattle.event_core.specs.declared.event.Event.TheVariants.{Command, Slot}
use Rattle.event_core.specs.declared.event.Why.{Why}
use Rattle.event_core.specs.declared.event.Why.TheVariants.{Spent}
use Rattle.event_core.specs.declared.event.Step.TheVariants.{Done, Disabled}
use Rattle.event_core.specs.Core.{Engaged, Exists, after_event, why_not, step_of, is_enabled, after_events, enabled_count}
use Rattle.event_core.proofs.Hindered.{and_both, past_stays}

-- the core after one event more
pub after_last : (e : Engaged) (events : List Event) (event : Event) → after_events e (events ++ event ∷ []) ≡ after_event (after_events e events) event
after_last e [] event = refl
after_last e (first ∷ events) event = after_last (after_event e first) events event

pub after_more : (e : Engaged) (events : List Event) (place : ℕ) (d : Event) → place < length events → after_events e (take (place + 1) events) ≡ after_event (after_events e (take place events)) (get_or events place d)
after_more e events place d low = ap (after_events e) (take_more events place d low) ∙ after_last e (take place events) (get_or events place d)

-- and how many of them were enabled
count_last : (e : Engaged) (events : List Event) (event : Event) → enabled_count e (events ++ event ∷ []) ≡ enabled_count e events + cond (is_enabled (after_events e events) event) 1 0
count_last e [] event = omega arith
count_last e (first ∷ events) event =
    let rest = count_last (after_event e first) events event in
    omega (arith, rest)

pub count_more : (e : Engaged) (events : List Event) (place : ℕ) (d : Event) → place < length events → enabled_count e (take (place + 1) events) ≡ enabled_count e (take place events) + cond (is_enabled (after_events e (take place events)) (get_or events place d)) 1 0
count_more e events place d low = ap (enabled_count e) (take_more events place d low) ∙ count_last e (take place events) (get_or events place d)

-- ---- events of sessions and tiles that don't exist

none_if : {X : Type 0} (zero : Bool) (o : Option X) → (zero ≡ false → o ≡ None) → cond zero None o ≡ None
none_if true o none = refl
none_if false o none = none refl

not_numbered : {X : Type 0} (xs : List X) (number : ℕ) → (0 < number → number ≤ length xs → ⊥) → numbered xs number ≡ None
not_numbered xs number never =
    none_if (number == 0) (slice_get xs (number - 1)) (λ other.
    elim (slice_get_cases xs (number - 1)).1 [
      | inl (x, below, there, is) ↦ let some = eqb-false number 0 other in absurd (never (omega arith) (omega arith))
      | inr (past, there) ↦ there
    ])

-- no session asks for anything that doesn't exist
unknown_entry : (setup : Setup) (history : List Entry) (session : ℕ) → (0 < session → session ≤ length setup.scripts → ⊥) → next_entry setup history session ≡ None
unfolding next_entry
unknown_entry setup history session never =
    let index : ℕ = count_of history session + 1 in
    let none : commands_of setup session ≡ [] = ap (λ (o : Option Script). option_map_or (λ (s : Script). s.commands) o []) (not_numbered setup.scripts session never) in
    ap (λ (l : List CommandText). option_map (λ (reply : Reply). let entry : Entry = record { session = session; index = index; reply = reply } in entry) (option_and_then (reply_to setup history session) (numbered l index))) none
    ∙ ap (λ (o : Option CommandText). option_map (λ (reply : Reply). let entry : Entry = record { session = session; index = index; reply = reply } in entry) (option_and_then (reply_to setup history session) o)) (not_numbered [] index (λ some low. absurd (omega arith)))

command_none : (e : Engaged) (session : ℕ) → next_entry e.setup e.core.history session ≡ None → after_event e (Command session) ≡ e
unfolding happens
command_none e session none = ap (λ (o : Option Entry). record e { core = answered e.core o }) none

-- such an event isn't enabled, and changes nothing
abbrev pub DoesNothing : Engaged → Event → Type 0
DoesNothing e event = (is_enabled e event ≡ false) × (after_event e event ≡ e)

unknown_session : (e : Engaged) (session : ℕ) → (0 < session → session ≤ length e.setup.scripts → ⊥) → DoesNothing e (Command session)
unknown_session e session never =
    let none = unknown_entry e.setup e.core.history session never in
    (ap is_some none, command_none e session none)

unknown_tile : (e : Engaged) (number : ℕ) → length e.core.tiles ≤ number → DoesNothing e (Slot number)
unknown_tile e number past =
    elim (slice_get_cases e.core.tiles number).1 [
      | inl (tile, below, there, is) ↦ absurd (omega arith)
      | inr (high, there) ↦ (ap (λ (o : Option TileState). is_some o && not (is_some (why_not e (Slot number)))) there, past_stays e number there)
    ]

pub unknown_event : (e : Engaged) (event : Event) → (Exists e event → ⊥) → DoesNothing e event
unknown_event e (Command session) never = unknown_session e session (λ some low. never (some, low))
unknown_event e (Slot number) never = unknown_tile e number (elim (cases_lt number (length e.core.tiles)) [
  | inl inside ↦ absurd (never inside)
  | inr past ↦ past
])

-- ---- an event that was done was enabled

free_by : (o : Option Why) → option_map_or Disabled o Done ≡ Done → o ≡ None
free_by None done = refl
free_by (Some why) done = cc

some_by : (next : Bool) → cond next None (Some Spent) ≡ None → next ≡ true
some_by true free = refl
some_by false free = cc

there_by : (e : Engaged) (number : ℕ) → number < length e.core.tiles → is_some (slice_get e.core.tiles number) ≡ true
there_by e number below =
    elim (slice_get_cases e.core.tiles number).1 [
      | inl (tile, inside, there, is) ↦ ap is_some there
      | inr (past, there) ↦ absurd (omega arith)
    ]

pub done_enabled : (e : Engaged) (event : Event) → Exists e event → step_of e event ≡ Done → is_enabled e event ≡ true
done_enabled e (Command session) exists done = some_by (is_some (next_entry e.setup e.core.history session)) (free_by (why_not e (Command session)) done)
done_enabled e (Slot number) exists done =
    and_both (is_some (slice_get e.core.tiles number)) (not (is_some (why_not e (Slot number)))) (there_by e number exists)
    (ap (λ (o : Option Why). not (is_some o)) (free_by (why_not e (Slot number)) done))
