-- How far a history is that sessions make in rounds.
use Rattle.std.specs.Prelude.{◌≡◌, ℕ, ◌+◌, ◌<◌, ◌≤◌, ◌⊎◌, min, List, length, All, AllPairs}
use Rattle.vep_manager.specs.declared.setup.Setup.{Setup}
use Rattle.vep_manager.specs.declared.reply.Entry.{Entry}
use Rattle.bundle_model.specs.Grants.{IsApart}
use Rattle.vep_manager.specs.History.{IsSession, commands_of, count_of, grants_of}
use Rattle.vep_manager.specs.Manager.{ManagerState}
use Rattle.vep_manager.specs.Legal.{IsLegal, ComesBefore}

-- the entry comes before the turn of a session, after so many whole rounds
abbrev pub ComesBeforeTurn : ℕ → ℕ → Entry → Type 0
ComesBeforeTurn rounds session entry =
    (entry.index < rounds + 1) ⊎ ((entry.index ≡ rounds + 1) × (entry.session < session))

-- of a session the first commands stand in the history, one for each turn that it had, as far as it has any
abbrev pub IsCounted : Setup → ℕ → List Entry → ℕ → Type 0
IsCounted setup turns history session = count_of history session ≡ min turns (length (commands_of setup session))

-- A history at the turn of a session, after so many whole rounds: each earlier session has had a turn
-- more than the others, and each turn was of the session's next command, if there was one.
pub record IsAtTurn (setup : Setup) (rounds session : ℕ) (history : List Entry) : Type 0 where
  pub legal : IsLegal setup history
  pub apart : IsApart setup.world (grants_of setup history)
  pub earlier : (other : ℕ) → IsSession setup other → other < session → IsCounted setup (rounds + 1) history other
  pub later : (other : ℕ) → IsSession setup other → session ≤ other → IsCounted setup rounds history other
  pub before : All (ComesBeforeTurn rounds session) history
  pub in_rounds : AllPairs ComesBefore history

-- a manager at the turn of a session is then at that of the next one
abbrev pub TakesTurn : ℕ → ManagerState → ManagerState → Type 0
TakesTurn session old new =
    (rounds : ℕ) → IsAtTurn old.setup rounds session old.history → IsAtTurn new.setup rounds (session + 1) new.history

-- a manager at the turn of the first session is then there again, a round later
abbrev pub EndsRound : ManagerState → ManagerState → Type 0
EndsRound old new = (rounds : ℕ) → IsAtTurn old.setup rounds 1 old.history
    → IsAtTurn new.setup (rounds + 1) 1 new.history
