-- The sessions of the tests.
use Rattle.std.specs.Prelude.{List, [], ◌∷◌, codes, Result}
use Rattle.bundle_model.specs.declared.bundle.Bundle.{Bundle}
use Rattle.bundle_model.specs.declared.rules.BRule.{BRule}
use Rattle.bundle_model.specs.declared.world.Named.{Named}
use Rattle.script_file.specs.declared.command.Command.TheVariants.{Load}
use Rattle.script_file.specs.declared.command.Script.{Script}

-- the bundle file, judged
abbrev pub sample_file : Result Bundle BRule → Named
sample_file judged = record { name = codes "app"; judged = judged }

-- a session that loads and has no more to say
abbrev pub sample_scripts : List Script
sample_scripts = record { commands = Load (codes "app") 0 ∷ [] } ∷ []

-- a session that says nothing
abbrev pub silent_scripts : List Script
silent_scripts = record { commands = [] } ∷ []
