use Rattle.std.proofs.Common.{◌≡◌, List, length, Some, None, vec_capacity, ap, subst, sym, ◌∙◌, arith}
use Rattle.std.specs.Prelude.{IfSome}
use Rattle.vep_manager.specs.Replies.{next_entry}
use Rattle.vep_manager.specs.Manager.{ManagerState}
use Rattle.vep_manager.specs.Owners.{Owners, CanAdd}
use Rattle.vep_manager.specs.declared.setup.Setup.{Setup}
use Rattle.vep_manager.specs.inner.Keeping.{Known, counted, opened_by}
use Rattle.vep_manager.specs.History.{horizon_with}
use Rattle.vep_manager.specs.declared.reply.Entry.{Entry}
use Rattle.vep_manager.proofs.Keeping.{kept_few, kept_labelled, kept_can, kept_space, kept_short, kept_more}
use Rattle.vep_manager.proofs.manager.Manager.keep.Goals as goal

pub follow-requires-clause-same : goal.follow-requires-clause-same
follow-requires-clause-same c = sym c.self.invariant.1

pub follow-requires-clause-few : goal.follow-requires-clause-few
follow-requires-clause-few c = kept_few c.self.invariant.0

pub follow-requires-clause-labelled : goal.follow-requires-clause-labelled
follow-requires-clause-labelled c = kept_labelled c.self.invariant.0

pub follow-requires-clause-can : goal.follow-requires-clause-can
follow-requires-clause-can c =
    let setup = c.self.inside.setup.now in
    let next = subst (λ (k : ManagerState). next_entry k.setup k.history c.args.entry.session ≡ Some c.args.entry)
    (sym c.self.view_is) c.requires in
    subst (λ (s : Setup). IfSome (opened_by setup c.args.entry.reply)
    (CanAdd (record { setup = s; grants = c.self.inside.owners.grants }))) (sym c.self.invariant.1)
    (kept_can c.args.entry c.self.invariant.0 next)

pub push_reserved-requires : goal.push_reserved-requires
push_reserved-requires c =
    let next = subst (λ (k : ManagerState). next_entry k.setup k.history c.args.entry.session ≡ Some c.args.entry)
    (sym c.self.view_is) c.requires in
    let low = kept_space c.args.entry c.self.invariant.0 next in
    omega (arith, low, c.self.inside.history.ok)

pub horizon-self-inside-requires-clause-few : goal.horizon-self-inside-requires-clause-few
horizon-self-inside-requires-clause-few c =
    let next = subst (λ (k : ManagerState). next_entry k.setup k.history c.args.entry.session ≡ Some c.args.entry)
    (sym c.self.view_is) c.requires in
    let few = kept_short c.args.entry c.self.invariant.0 next in
    omega (arith, few, ap length (c.as_slice.ensures.value ∙ c.push_reserved.ensures.items))

pub invariant_of-self : goal.invariant_of-self
invariant_of-self c =
    let next = subst (λ (k : ManagerState). next_entry k.setup k.history c.args.entry.session ≡ Some c.args.entry)
    (sym c.self.view_is) c.requires in
    let over = λ (history : List Entry). horizon_with c.self.inside.setup.now (counted None history) in
    let after : Known = record {
      grants = c.follow.new.owners.grants;
      horizon = c.horizon-self-inside.result;
      entry_room = vec_capacity c.push_reserved.new.self;
    } in
    let kept = kept_more c.args.entry after c.push_reserved.new.self.items c.self.invariant.0 next (record {
      appended = c.push_reserved.ensures.items;
      grants = ap (λ (o : Owners). o.grants) c.follow.ensures;
      horizon = c.horizon-self-inside.ensures ∙ ap over c.as_slice.ensures.value;
      entries = c.push_reserved.ensures.capacity;
    }) in
    (kept, ap (λ (o : Owners). o.setup) c.follow.ensures ∙ c.self.invariant.1)
