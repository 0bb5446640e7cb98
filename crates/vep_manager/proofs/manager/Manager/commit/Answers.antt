use Rattle.std.proofs.Common.{Option, sym, subst, ◌∙◌, rules}
use Rattle.std.specs.Prelude.{IsNone, IsTrue, ◌↔◌}
use Rattle.bundle_model.specs.Grants.{IsApart}
use Rattle.vep_manager.specs.declared.reply.Entry.{Entry}
use Rattle.vep_manager.specs.History.{is_used_up, grants_of}
use Rattle.soc_base.specs.declared.limits.TheConstants.{LAST_CYCLE}
use Rattle.vep_manager.specs.Legal.{IsLegal}
use Rattle.vep_manager.specs.Granted.{AreGranted}
use Rattle.vep_manager.specs.Manager.{ManagerState}
use Rattle.vep_manager.proofs.States.{grown}
use Rattle.vep_manager.proofs.Nexts.{next_none, next_from}
use Rattle.vep_manager.proofs.Standing.{standing, legal_more}
use Rattle.vep_manager.proofs.Settled.{granted, stands_after}
use Rattle.vep_manager.proofs.manager.Manager.commit.Goals as goal

pub keep-requires : goal.keep-requires
keep-requires c =
    next_from c.args.self.now c.args.session c.in-Some.entry c.next-next.result (search rules) c.next-next.ensures.entry
    c.in-Some.is

pub returns-in-Some-clause-used_up : goal.returns-in-Some-clause-used_up
returns-in-Some-clause-used_up c =
    let state = c.args.self.now in
    let Used = λ (o : Option Entry). IsNone o ↔ IsTrue (is_used_up state.setup state.history c.args.session) in
    subst Used (sym c.next-next.ensures.entry ∙ c.in-Some.is) (next_none state c.args.session)

pub returns-in_default-clause-used_up : goal.returns-in_default-clause-used_up
returns-in_default-clause-used_up c =
    let state = c.args.self.now in
    let Used = λ (o : Option Entry). IsNone o ↔ IsTrue (is_used_up state.setup state.history c.args.session) in
    subst Used (sym c.next-next.ensures.entry) (next_none state c.args.session)

pub returns-in-Some-clause-legal : goal.returns-in-Some-clause-legal
returns-in-Some-clause-legal c =
    let state = c.args.self.now in
    let next = next_from state c.args.session c.in-Some.entry _ (search rules) c.next-next.ensures.entry c.in-Some.is in
    subst (λ (k : ManagerState). IsLegal k.setup k.history) (sym c.keep.ensures)
    (legal_more state.setup state.history c.in-Some.entry c.next-next.ensures.legal next)

pub returns-in-Some-clause-apart : goal.returns-in-Some-clause-apart
returns-in-Some-clause-apart c =
    let state = c.args.self.now in
    let next = next_from state c.args.session c.in-Some.entry _ (search rules) c.next-next.ensures.entry c.in-Some.is in
    let stands = stands_after state c.in-Some.entry c.next-next.ensures.sound c.next-next.ensures.legal next in
    subst (λ (k : ManagerState). IsApart k.setup.world (grants_of k.setup k.history)) (sym c.keep.ensures) stands.apart

pub returns-in-Some-clause-granted : goal.returns-in-Some-clause-granted
returns-in-Some-clause-granted c =
    let state = c.args.self.now in
    let next = next_from state c.args.session c.in-Some.entry _ (search rules) c.next-next.ensures.entry c.in-Some.is in
    let stands = stands_after state c.in-Some.entry c.next-next.ensures.sound c.next-next.ensures.legal next in
    subst (λ (k : ManagerState). AreGranted k.setup LAST_CYCLE k.history) (sym c.keep.ensures)
    (granted (grown state c.in-Some.entry) LAST_CYCLE stands)

pub returns-in_default-clause-legal : goal.returns-in_default-clause-legal
returns-in_default-clause-legal c = c.next-next.ensures.legal

pub returns-in_default-clause-apart : goal.returns-in_default-clause-apart
returns-in_default-clause-apart c =
    (standing c.args.self.now LAST_CYCLE c.next-next.ensures.sound.cycles c.next-next.ensures.legal).apart

pub returns-in_default-clause-granted : goal.returns-in_default-clause-granted
returns-in_default-clause-granted c =
    granted c.args.self.now LAST_CYCLE
    (standing c.args.self.now LAST_CYCLE c.next-next.ensures.sound.cycles c.next-next.ensures.legal)
