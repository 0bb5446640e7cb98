-- What a commit tells of the history.
use Rattle.std.specs.Prelude.{◌≡◌, ◌↔◌, ◌++◌, ℕ, List, length, IsTrue, Option, IsNone, IfSome, option_map}
use Rattle.std.specs.Option.{option_to_list}
use mathlib.Core.List.{IsPrefix}
use Rattle.vep_manager.specs.declared.setup.Setup.{Setup}
use Rattle.vep_manager.specs.declared.reply.Entry.{Entry}
use Rattle.vep_manager.specs.History.{is_used_up}
use Rattle.vep_manager.specs.Replies.{next_entry}

-- a session's next command was committed in a turn: the pass had seen `old` before and has seen `new` after it,
-- and the answer is the entry with its place in the history
pub record Commits (setup : Setup) (session : ℕ) (old new : List Entry) (answer : Option (ℕ × Entry))
    : Type 0 where
  -- the entries that the turn found, among which are all that the pass had seen
  pub found : List Entry
  pub begins : IsPrefix old found
  -- the answer's entry is the one that the session's next command gets right after these entries
  pub replied : option_map (λ one. one.1) answer ≡ next_entry setup found session
  -- it was added at their end, where there is one, and its place is the last
  pub appended : new ≡ found ++ option_to_list (option_map (λ one. one.1) answer)
  pub place : IfSome answer (λ one. one.0 ≡ length found)
  -- there is none exactly where the session's script is used up in these entries
  pub used_up : IsNone answer ↔ IsTrue (is_used_up setup found session)
