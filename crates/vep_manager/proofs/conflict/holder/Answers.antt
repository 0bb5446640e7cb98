use Rattle.std.proofs.Common.{Some, None, get_or, sym, ap, ◌∙◌}
use Rattle.bundle_model.specs.declared.world.Grant.{Grant}
use Rattle.bundle_model.specs.Grants.{conflicts}
use Rattle.vep_manager.proofs.Lists.{find_placed, find_unplaced}
use Rattle.vep_manager.proofs.conflict.holder.Goals as goal

abbrev no_grant : Grant
no_grant = record { label = record { session = 0; load = 0 }; bundle = 0; start = 0; end = None }

pub returns-in-Some-clause-first : goal.returns-in-Some-clause-first
returns-in-Some-clause-first c =
    let owners = c.args.owners.now in
    ap Some
    (ap (λ l. get_or l c.from.result no_grant) c.grants.ensures ∙ ap (λ k. get_or owners.grants k no_grant) c.from.ensures)
    ∙ sym (find_placed (conflicts owners.setup.world c.args.start c.args.resource.now) owners.grants c.in-Some.place
    no_grant (sym c.first.ensures.first ∙ c.in-Some.is))

pub returns-in-None-clause-first : goal.returns-in-None-clause-first
returns-in-None-clause-first c =
    let owners = c.args.owners.now in
    sym (find_unplaced (conflicts owners.setup.world c.args.start c.args.resource.now) owners.grants
    (sym c.first.ensures.first ∙ c.in-None.is))
