-- Short names for what is asked of a manager's state.
use Rattle.std.proofs.Common.{◌≡◌, ℕ, ◌+◌, List, [], ◌∷◌, ◌++◌, length, take, Option, Some}
use Rattle.soc_base.specs.declared.label.Label.{Label}
use Rattle.bundle_model.specs.declared.world.Grant.{Grant}
use Rattle.script_file.specs.declared.command.Command.{Command}
use Rattle.vep_manager.specs.declared.setup.Setup.{Setup}
use Rattle.vep_manager.specs.declared.reply.Reply.{Reply}
use Rattle.vep_manager.specs.declared.reply.Entry.{Entry}
use Rattle.vep_manager.specs.Loads.{loaded_names}
use Rattle.vep_manager.specs.History.{commands_of, count_of, grants_of, horizon_of}
use Rattle.vep_manager.specs.Replies.{next_label, reply_to, next_entry}
use Rattle.vep_manager.specs.Manager.{ManagerState}

-- a setup with a history
abbrev pub held : Setup → List Entry → ManagerState
held setup history = record { setup = setup; history = history }

-- a state with one entry more
abbrev pub grown : ManagerState → Entry → ManagerState
grown state entry = record { setup = state.setup; history = state.history ++ entry ∷ [] }

-- the grants
abbrev pub grants_at : ManagerState → List Grant
grants_at state = grants_of state.setup state.history

-- the horizon
abbrev pub horizon_at : ManagerState → ℕ
horizon_at state = horizon_of state.setup state.history

-- the commands of a session
abbrev pub commands_at : ManagerState → ℕ → List Command
commands_at state session = commands_of state.setup session

-- how many of a session's commands stand in the history
abbrev pub done_at : ManagerState → ℕ → ℕ
done_at state session = count_of state.history session

-- the label of a session's next load
abbrev pub label_at : ManagerState → ℕ → Label
label_at state session = next_label state.setup session (count_of state.history session)

-- the reply to a command of a session
abbrev pub reply_at : ManagerState → ℕ → Command → Option Reply
reply_at state session command = reply_to state.setup state.history session command

-- the entry that a session's next command adds
abbrev pub next_at : ManagerState → ℕ → Option Entry
next_at state session = next_entry state.setup state.history session

-- the entry is the next one of its session
abbrev pub IsNextEntry : ManagerState → Entry → Type 0
IsNextEntry state entry = next_entry state.setup state.history entry.session ≡ Some entry

-- how many loads a session's first commands have
abbrev pub loads_before : ManagerState → ℕ → ℕ → ℕ
loads_before state session n = length (loaded_names (take n (commands_of state.setup session)))

-- a session's next command is a load
abbrev pub OneMoreLoad : ManagerState → ℕ → Type 0
OneMoreLoad state session =
    loads_before state session (done_at state session + 1) ≡ loads_before state session (done_at state session) + 1
