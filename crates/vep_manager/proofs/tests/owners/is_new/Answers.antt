use Rattle.std.proofs.Common.{sym, ap, ◌∙◌}
use Rattle.std.specs.Option.{option_copied}
use Rattle.vep_manager.proofs.Labels.{new_label}
use Rattle.vep_manager.proofs.tests.owners.is_new.Goals as goal

pub returns-in-None : goal.returns-in-None
returns-in-None c = λ _.
    new_label c.args.grants.now c.args.label (sym c.named_grant.ensures ∙ ap option_copied c.in-None.is)
