use Rattle.std.proofs.Common.{Option, ℕ, length, ap, sym, ◌∙◌}
use Rattle.std.specs.Prelude.{unwrap_or}
use Rattle.std.specs.Str.{bytes_eq}
use Rattle.bundle_model.specs.declared.world.Named.{Named}
use Rattle.vep_manager.proofs.Lists.{place_or}
use Rattle.vep_manager.proofs.loads.place.Goals as goal

pub returns-in-Some : goal.returns-in-Some
returns-in-Some c =
    let catalog = c.args.catalog.now in
    let found = λ (o : Option ℕ). unwrap_or o (length catalog) in
    sym (ap found c.in-Some.is) ∙ ap found c.first_of.ensures
    ∙ place_or (λ (named : Named). bytes_eq named.name c.args.name.now) catalog

pub returns-in-None : goal.returns-in-None
returns-in-None c =
    let catalog = c.args.catalog.now in
    let found = λ (o : Option ℕ). unwrap_or o (length catalog) in
    sym (ap found c.in-None.is) ∙ ap found c.first_of.ensures
    ∙ place_or (λ (named : Named). bytes_eq named.name c.args.name.now) catalog
