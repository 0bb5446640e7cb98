-- Which histories the manager makes.
use Rattle.std.specs.Prelude.{◌≡◌, ◌<◌, ◌⊎◌, List, ◌∷◌, ◌++◌, length, All, AllPairs, Some}
use Rattle.vep_manager.specs.declared.setup.Setup.{Setup}
use Rattle.vep_manager.specs.declared.reply.Entry.{Entry}
use Rattle.vep_manager.specs.History.{sessions_of, commands_of, count_of, horizon_of}
use Rattle.vep_manager.specs.Replies.{next_entry}

-- each entry is what its session's next command gets after the entries before it. So the entries of a
-- session are the first commands of its script, in order, and each has the reply that it must have.
abbrev pub IsLegal : Setup → List Entry → Type 0
IsLegal setup history =
    (before : List Entry) (entry : Entry) (after : List Entry) → history ≡ before ++ entry ∷ after
    → next_entry setup before entry.session ≡ Some entry

-- every command of every script stands in the history
abbrev pub IsComplete : Setup → List Entry → Type 0
IsComplete setup history = All (λ session. count_of history session ≡ length (commands_of setup session))
    (sessions_of setup)

-- the one entry comes in an earlier round than the other, or in the same round and an earlier session
abbrev pub ComesBefore : Entry → Entry → Type 0
ComesBefore one other = (one.index < other.index) ⊎ ((one.index ≡ other.index) × (one.session < other.session))

-- the history that sessions make which commit in turn, a command each, round after round
pub record IsRoundRobin (setup : Setup) (history : List Entry) : Type 0 where
  pub legal : IsLegal setup history
  pub complete : IsComplete setup history
  pub in_rounds : AllPairs ComesBefore history

-- the horizon of every complete history is the budget
abbrev pub CompleteIsSettled : Setup → Type 0
CompleteIsSettled setup = (history : List Entry) → IsComplete setup history → horizon_of setup history ≡ setup.budget
