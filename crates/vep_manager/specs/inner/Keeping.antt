-- What a manager keeps beside the history, and how a reply changes it.
use Rattle.std.specs.Prelude.{◌≡◌, ℕ, ◌≤◌, Bool, ◌&&◌, List, [], ◌++◌, map, is_none, Option, Some, None}
use Rattle.std.specs.Option.{option_or, option_to_list}
use Rattle.soc_base.specs.declared.label.Label.{Label}
use Rattle.bundle_model.specs.declared.world.Grant.{Grant}
use Rattle.bundle_model.specs.World.{same_label}
use Rattle.vep_manager.specs.declared.setup.Setup.{Setup}
use Rattle.vep_manager.specs.declared.reply.Reply.{Reply}
use Rattle.vep_manager.specs.declared.reply.Entry.{Entry}
use Rattle.vep_manager.specs.Setup.{IsSound, command_count}
use Rattle.vep_manager.specs.History.{count_of, end_by, grant_by, grants_of, horizon_of}
use Rattle.vep_manager.specs.Replies.{one_more_of}
use Rattle.vep_manager.specs.Legal.{IsLegal}
use Rattle.vep_manager.specs.Manager.{ManagerState}

-- what a manager keeps beside the setup and the history, and for how many entries it has room
pub record Known : Type 0 where
  pub grants : List Grant
  pub horizon : ℕ
  pub entry_room : ℕ

-- the grants and the horizon are those of the history, which is legal, and there is room for each
-- further entry
pub record IsKept (state : ManagerState) (known : Known) : Type 0 where
  pub sound : IsSound state.setup
  pub legal : IsLegal state.setup state.history
  pub grants_known : known.grants ≡ grants_of state.setup state.history
  pub horizon_known : known.horizon ≡ horizon_of state.setup state.history
  pub entries_fit : command_count state.setup ≤ known.entry_room

-- how many commands of each session stand in the history, with one more of session `next`, if one is given
abbrev pub counted : Option ℕ → List Entry → ℕ → ℕ
counted None history session = count_of history session
counted (Some next) history session = one_more_of next history session

-- a grant after a reply
abbrev pub ended_by : Reply → Grant → Grant
ended_by reply grant = record grant { end = option_or grant.end (end_by grant.label reply) }

-- a grant of a label, still open
abbrev pub is_open_of : Label → Grant → Bool
is_open_of label grant = same_label grant.label label && is_none grant.end

-- the grant, still open, that a reply gives
abbrev pub opened_by : Setup → Reply → Option Grant
opened_by setup reply = grant_by setup [] reply

-- the grants after a reply: each with the end that it gives, and the grant that it gives
abbrev pub grants_after : Setup → Reply → List Grant → List Grant
grants_after setup reply grants = map (ended_by reply) grants ++ option_to_list (opened_by setup reply)
