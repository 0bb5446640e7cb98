use Rattle.std.proofs.Common.{◌∙◌, ap₂}
use Rattle.std.proofs.lemmas.Result.{IfOk-weaker}
use Rattle.clap.specs.Words.{with_rule}
use Rattle.command_words.specs.Commands.{alone_app}
use Rattle.command_words.proofs.alone.alone_command.Goals as goal

pub returns : goal.returns
unfolding alone_app
returns c =
    let one = c.in_ok-arg.ensures.shape c.required.ensures.local ∙ ap₂ with_rule c.new.ensures.app c.required.ensures.rule in
    let two = c.in_ok-arg-2.ensures.shape c.required-2.ensures.local ∙ ap₂ with_rule one c.required-2.ensures.rule in
    let three = c.in_ok-arg-3.ensures.shape c.required-3.ensures.local ∙ ap₂ with_rule two c.required-3.ensures.rule in
    IfOk-weaker c.arg-4.result _ _ (λ _ added. added.shape c.required-4.ensures.local ∙ ap₂ with_rule three c.required-4.ensures.rule)
    c.arg-4.ensures
