use Rattle.std.proofs.Common.{◌∙◌, ap₂}
use Rattle.std.proofs.lemmas.Result.{IfOk-weaker}
use Rattle.clap.specs.Words.{with_rule}
use Rattle.command_words.specs.Commands.{generate_app}
use Rattle.command_words.proofs.generate.generate_command.Goals as goal

pub returns : goal.returns
unfolding generate_app
returns c =
    IfOk-weaker c.arg.result _ _ (λ _ added. added.shape c.required.ensures.local ∙ ap₂ with_rule c.new.ensures.app c.required.ensures.rule)
    c.arg.ensures
