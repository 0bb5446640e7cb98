use Rattle.std.proofs.Common.{List, sym, ap, ◌∙◌}
use Rattle.std.specs.List.{position}
use Rattle.bundle_model.specs.declared.world.Grant.{Grant}
use Rattle.vep_manager.specs.Owners.{Owners}
use Rattle.vep_manager.specs.inner.Keeping.{is_open_of}
use Rattle.vep_manager.proofs.Ends.{stopped_at, stopped_nowhere}
use Rattle.vep_manager.proofs.granting.end_open.Goals as goal

pub returns-in-Some : goal.returns-in-Some
returns-in-Some c =
    let at = sym (ap (position (is_open_of c.args.label)) c.grants.ensures) ∙ sym c.first_open.ensures ∙ c.in-Some.is in
    c.set_end.ensures
    ∙ ap (λ (l : List Grant). let o : Owners = record { setup = c.args.owners.now.setup; grants = l } in o)
    (sym (stopped_at c.args.owners.now.grants c.in-Some.place c.args.label c.args.end c.requires.labelled at))

pub returns-in_default : goal.returns-in_default
returns-in_default c =
    let at = sym (ap (position (is_open_of c.args.label)) c.grants.ensures) ∙ sym c.first_open.ensures ∙ c.in_default.is in
    ap (λ (l : List Grant). let o : Owners = record { setup = c.args.owners.now.setup; grants = l } in o)
    (sym (stopped_nowhere c.args.owners.now.grants c.args.label c.args.end at))
