-- What a history means: which of each session's commands stand in it, the horizon, and the grants.
use Rattle.std.specs.Prelude.{ℕ, ◌-◌, ◌<◌, ◌≤◌, Bool, ◌==◌, nat_le, min, max, List, [], ◌∷◌, length, take, map, fold, find, count_by, slice_get, if◌then◌else◌, Option, Some, None}
use Rattle.std.specs.List.{filter_map, range_with_len}
use Rattle.std.specs.Option.{option_or, option_map_or}
use Rattle.soc_base.specs.Time.{slot_up_of}
use Rattle.soc_base.specs.declared.label.Label.{Label}
use Rattle.bundle_model.specs.declared.world.Grant.{Grant}
use Rattle.bundle_model.specs.World.{same_label}
use Rattle.script_file.specs.declared.command.Command.{Command}
use Rattle.script_file.specs.declared.command.Command.TheVariants.{Load, Stop, Until}
use Rattle.vep_manager.specs.declared.setup.Setup.{Setup}
use Rattle.vep_manager.specs.declared.reply.Reply.{Reply}
use Rattle.vep_manager.specs.declared.reply.Reply.TheVariants.{Malformed, Past, Taken, Granted, NoLoad, Already, Stopped, Horizon}
use Rattle.vep_manager.specs.declared.reply.Entry.{Entry}

-- the item of a number, counted from 1, if there is one
abbrev pub numbered : {X : Type 0} → List X → ℕ → Option X
numbered xs number = if number == 0 then None else slice_get xs (number - 1)

-- the slot granted for a cycle: the least that begins at it or later
abbrev pub granted_slot : Setup → ℕ → ℕ
granted_slot setup cycle = slot_up_of cycle setup.world.platform.slot_cycles

-- a session of the setup
abbrev pub IsSession : Setup → ℕ → Type 0
IsSession setup session = (0 < session) × (session ≤ length setup.scripts)

-- the numbers of the sessions, from 1 on
abbrev pub sessions_of : Setup → List ℕ
sessions_of setup = range_with_len 1 (length setup.scripts)

-- the commands of a session; none where there is no such session
abbrev pub commands_of : Setup → ℕ → List Command
commands_of setup session = option_map_or (λ script. script.commands) (numbered setup.scripts session) []

-- how many commands of a session stand in a history
abbrev pub count_of : List Entry → ℕ → ℕ
count_of history session = count_by (λ entry. entry.session == session) history

-- whether every command of a session stands in a history
abbrev pub is_used_up : Setup → List Entry → ℕ → Bool
is_used_up setup history session = nat_le (length (commands_of setup session)) (count_of history session)

-- the slot of an `until`
abbrev pub until_slot : Setup → Command → Option ℕ
until_slot setup (Load name cycle) = None
until_slot setup (Stop load cycle) = None
until_slot setup (Until cycle) = Some (granted_slot setup cycle)

-- the slot below which a session, of which the first `done` commands stand in the history, asks for
-- nothing any more: the budget where these are all, else the greatest slot of its `until` commands
-- among them, at most the budget
abbrev pub promise_of : Setup → ℕ → ℕ → ℕ
promise_of setup session done =
    if nat_le (length (commands_of setup session)) done then setup.budget
    else min setup.budget
    (fold (λ most slot. max most slot) 0 (filter_map (until_slot setup) (take done (commands_of setup session))))

-- the least promise of the sessions, of which so many commands stand in the history
abbrev pub horizon_with : Setup → (ℕ → ℕ) → ℕ
horizon_with setup done = fold (λ least promise. min least promise) setup.budget
    (map (λ session. promise_of setup session (done session)) (sessions_of setup))

-- the horizon of a history: no later command changes what happens below it
unfoldable pub horizon_of : Setup → List Entry → ℕ
horizon_of setup history = horizon_with setup (λ session. count_of history session)

-- the end that a reply gives a load
abbrev pub end_by : Label → Reply → Option ℕ
end_by label (Malformed rule) = None
end_by label (Past horizon) = None
end_by label (Taken resource owner free_from) = None
end_by label (Granted granted start) = None
end_by label NoLoad = None
end_by label (Already end) = None
end_by label (Stopped stopped end) = if same_label stopped label then Some end else None
end_by label (Horizon horizon) = None

-- the end of a load, where the history stops it
abbrev pub end_in : List Entry → Label → Option ℕ
end_in [] label = None
end_in (entry ∷ history) label = option_or (end_by label entry.reply) (end_in history label)

-- the bundle that a load names: its place in the catalog, 0 where there is no such load
abbrev pub loaded_place : Setup → Label → ℕ
loaded_place setup label = option_map_or (λ load. load.bundle)
    (find (λ load. same_label load.label label) setup.loads) 0

-- the grant that a reply gives, with its end in the history
abbrev pub grant_by : Setup → List Entry → Reply → Option Grant
grant_by setup history (Malformed rule) = None
grant_by setup history (Past horizon) = None
grant_by setup history (Taken resource owner free_from) = None
grant_by setup history (Granted label start) = Some
    (record { label = label; bundle = loaded_place setup label; start = start; end = end_in history label })
grant_by setup history NoLoad = None
grant_by setup history (Already end) = None
grant_by setup history (Stopped label end) = None
grant_by setup history (Horizon horizon) = None

-- the grants of a history, in its order: label, bundle, start, and the end, if it was stopped
unfoldable pub grants_of : Setup → List Entry → List Grant
grants_of setup history = filter_map (λ entry. grant_by setup history entry.reply) history
