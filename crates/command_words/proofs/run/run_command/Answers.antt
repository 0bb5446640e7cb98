use Rattle.std.proofs.Common.{◌∙◌, ap₂}
use Rattle.std.proofs.lemmas.Result.{IfOk-weaker}
use Rattle.clap.specs.Words.{with_rule}
use Rattle.command_words.specs.Commands.{run_app}
use Rattle.command_words.proofs.run.run_command.Goals as goal

pub returns : goal.returns
unfolding run_app
returns c =
    let one = c.in_ok-arg.ensures.shape c.required.ensures.local ∙ ap₂ with_rule c.new.ensures.app c.required.ensures.rule in
    let two = c.in_ok-arg-2.ensures.shape c.required-2.ensures.local ∙ ap₂ with_rule one c.required-2.ensures.rule in
    let three = c.in_ok-arg-3.ensures.shape c.several.ensures.local ∙ ap₂ with_rule two c.several.ensures.rule in
    let four = c.in_ok-arg-4.ensures.shape c.workers.ensures.local ∙ ap₂ with_rule three c.workers.ensures.rule in
    IfOk-weaker c.arg-5.result _ _ (λ _ added. added.shape c.state.ensures.local ∙ ap₂ with_rule four c.state.ensures.rule)
    c.arg-5.ensures
