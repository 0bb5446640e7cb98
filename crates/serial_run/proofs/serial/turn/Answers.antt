use Rattle.std.proofs.Common.{◌+◌, sym, subst}
use Rattle.bundle_model.specs.Grants.{IsApart}
use Rattle.vep_manager.specs.Manager.{ManagerState}
use Rattle.vep_manager.specs.History.{grants_of}
use Rattle.vep_manager.specs.Legal.{IsLegal}
use Rattle.serial_run.specs.inner.Rounds.{IsAtTurn}
use Rattle.serial_run.proofs.Turns.{turn_taken}
use Rattle.serial_run.proofs.serial.turn.Goals as goal

pub returns-clause-turn : goal.returns-clause-turn
returns-clause-turn c = λ rounds at.
    let Legal = λ (state : ManagerState). IsLegal state.setup state.history in
    let Apart = λ (state : ManagerState). IsApart state.setup.world (grants_of state.setup state.history) in
    let AtNext = λ (state : ManagerState). IsAtTurn state.setup rounds (c.args.session + 1) state.history in
    let legal = subst Legal c.commit.ensures.appended c.commit.ensures.legal in
    let apart = subst Apart c.commit.ensures.appended c.commit.ensures.apart in
    subst AtNext (sym c.commit.ensures.appended)
    (turn_taken c.args.manager.now.setup rounds c.args.session c.args.manager.now.history c.commit.result
    (record {
      session_is = c.requires;
      entry = c.commit.ensures.entry;
      used_up = c.commit.ensures.used_up;
      legal = legal;
      apart = apart;
    }) at)
