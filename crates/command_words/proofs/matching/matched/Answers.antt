use Rattle.clap.specs.Words.{app_of}
use Rattle.command_words.proofs.Simple.{simple_of_free}
use Rattle.command_words.proofs.matching.matched.Goals as goal

pub returns-in-Ok-clause-rows : goal.returns-in-Ok-clause-rows
returns-in-Ok-clause-rows c = (c.in-Ok.ensures.matches (simple_of_free (app_of c.args.command) c.requires)).0
