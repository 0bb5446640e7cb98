-- Whatever further entries a history gets, what was done below its horizon stays.
use Rattle.std.proofs.Common.{List, sym}
use mathlib.Core.List.{IsPrefix}
use Rattle.vep_manager.specs.declared.setup.Setup.{Setup}
use Rattle.vep_manager.specs.declared.reply.Entry.{Entry}
use Rattle.vep_manager.specs.Setup.{IsSound}
use Rattle.vep_manager.specs.History.{horizon_of, grants_of}
use Rattle.vep_manager.specs.Legal.{IsLegal}
use Rattle.vep_manager.specs.Extended.{KeepsGrant}
use Rattle.vep_manager.proofs.Laws.{legal_goes_on}
use Rattle.lockstep.specs.Seen.{AreSeenAlike}
use Rattle.lockstep.proofs.Laws.{seen_alike_by, lockstep_stays, run_stays}
use Rattle.core_model.specs.Law.{HistoriesStay, HistoryRunsStay}

-- the grants are known alike in every slot below the old horizon
pub history_alike : (setup : Setup) → IsSound setup → (old new : List Entry) → IsPrefix old new → IsLegal setup new → AreSeenAlike (horizon_of setup old) (grants_of setup old) (grants_of setup new)
history_alike setup sound old new begins legal =
    let slot = horizon_of setup old in
    let on = legal_goes_on setup sound old new begins legal in
    seen_alike_by (KeepsGrant slot) slot (grants_of setup old) (grants_of setup new)
    (λ one other keeps. (keeps.label, keeps.bundle, keeps.start, keeps.end)) on.grants.kept on.grants.added

-- so the machine in step is the same up to that horizon
pub histories_stay : {Tile Flit : Type 0} (setup : Setup) → IsSound setup → HistoriesStay Tile Flit setup
histories_stay setup sound hardware links old new slot paced begins legal low =
    sym (lockstep_stays hardware links (grants_of setup old) (grants_of setup new) (horizon_of setup old) slot paced (history_alike setup sound old new begins legal) low)

-- and so is one tile by itself, over the same flits
pub history_runs_stay : {Tile Flit : Type 0} (setup : Setup) → IsSound setup → HistoryRunsStay Tile Flit setup
history_runs_stay setup sound hardware links flits old new number slot paced begins legal low =
    sym (run_stays hardware links (grants_of setup old) (grants_of setup new) flits (horizon_of setup old) number slot paced (history_alike setup sound old new begins legal) low)
