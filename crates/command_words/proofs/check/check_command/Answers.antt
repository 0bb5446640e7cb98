use Rattle.std.proofs.Common.{◌∙◌, ap₂}
use Rattle.std.proofs.lemmas.Result.{IfOk-weaker}
use Rattle.clap.specs.Words.{with_rule}
use Rattle.command_words.specs.Commands.{check_app}
use Rattle.command_words.proofs.check.check_command.Goals as goal

pub returns : goal.returns
unfolding check_app
returns c =
    let one = c.in_ok-arg.ensures.shape c.required.ensures.local ∙ ap₂ with_rule c.new.ensures.app c.required.ensures.rule in
    IfOk-weaker c.arg-2.result _ _ (λ _ added. added.shape c.several.ensures.local ∙ ap₂ with_rule one c.several.ensures.rule)
    c.arg-2.ensures
