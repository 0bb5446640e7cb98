-- The sessions of the tests, which share one bundle file.
use Rattle.std.specs.Prelude.{List, [], ◌∷◌, codes, Result}
use Rattle.bundle_model.specs.declared.bundle.Bundle.{Bundle}
use Rattle.bundle_model.specs.declared.rules.BRule.{BRule}
use Rattle.bundle_model.specs.declared.world.Named.{Named}
use Rattle.script_file.specs.declared.command.Command.TheVariants.{Load, Stop, Until}
use Rattle.script_file.specs.declared.command.Script.{Script}

-- the bundle file, judged
abbrev pub sample_file : Result Bundle BRule → Named
sample_file judged = record { name = codes "app"; judged = judged }

-- one session loads and has no more to say, one has nothing to stop, and one wants what is taken
abbrev pub sample_scripts : List Script
sample_scripts =
    record { commands = Load (codes "app") 0 ∷ [] }
    ∷ record { commands = Until 16 ∷ Stop 1 0 ∷ Until 24 ∷ [] }
    ∷ record { commands = Load (codes "app") 8 ∷ Until 80 ∷ [] } ∷ []
