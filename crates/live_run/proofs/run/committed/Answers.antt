use Rattle.std.proofs.Common.{◌≡◌, sym, subst, ◌∙◌}
use Rattle.std.specs.Prelude.{IsTrue}
use Rattle.vep_manager.specs.declared.setup.Setup.{Setup}
use Rattle.vep_manager.specs.History.{IsSession, is_used_up}
use Rattle.live_run.proofs.Coming.{prefix_trans, more_seen}
use Rattle.live_run.proofs.UsedUp.{used_up_more}
use Rattle.live_run.proofs.run.committed.Goals as goal

pub returns-in-Ok-clause-used_up : goal.returns-in-Ok-clause-used_up
returns-in-Ok-clause-used_up g c = λ session is.
    let setup = c.args.setup.now in
    let seen = c.commit_all.new.pass.seen in
    let base : c.in-Ok.shared.base ≡ setup = c.in-Ok.ensures.setup ∙ c.requires.same in
    used_up_more setup seen c.close.result.history session c.close.ensures.begins
    (subst (λ (s : Setup). IsTrue (is_used_up s seen session)) base
    (c.commit_all.ensures.used_up session (subst (λ (s : Setup). IsSession s session) (sym base) is)))

pub returns-in-Ok-clause-worked : goal.returns-in-Ok-clause-worked
returns-in-Ok-clause-worked g c =
    let history = c.close.result.history in
    more_seen c.args.setup.now c.work_and_serve-served.result.pass.seen history c.args.crew.items
    c.work_and_serve-served.result.crew.items
    (prefix_trans c.work_and_serve-served.result.pass.seen c.commit_all.new.pass.seen history
    c.commit_all.ensures.begins c.close.ensures.begins) c.work_and_serve-served.ensures.worked
