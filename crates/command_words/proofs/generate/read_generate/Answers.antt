use Rattle.std.proofs.Common.{◌≡◌, Some, None, IfOk, subst}
use Rattle.command_words.specs.Commands.{generate_app}
use Rattle.command_words.specs.Request.{generate_in}
use Rattle.command_words.proofs.Asked.{asked_of_faulty, asked_of_faultless}
use Rattle.command_words.proofs.Simple.{free_as, generate_is_free}
use Rattle.command_words.proofs.generate.read_generate.Goals as goal

pub matched-requires : goal.matched-requires
matched-requires c = free_as _ generate_app c.in-Ok.ensures generate_is_free

pub returns-in-Ok-matched-clause-usage : goal.returns-in-Ok-matched-clause-usage
returns-in-Ok-matched-clause-usage c = λ e.
    subst (λ asked. asked ≡ None)
    (asked_of_faultless _ generate_app generate_in _ _ c.in-Ok.ensures c.in-Ok-matched.ensures.faultless c.in-Ok-matched.ensures.rows)
    (c.generate_request.ensures.usage e)

pub returns-in-Ok-matched-clause-request : goal.returns-in-Ok-matched-clause-request
returns-in-Ok-matched-clause-request c =
    subst (λ asked. IfOk c.generate_request.result (λ request. asked ≡ Some request))
    (asked_of_faultless _ generate_app generate_in _ _ c.in-Ok.ensures c.in-Ok-matched.ensures.faultless c.in-Ok-matched.ensures.rows)
    c.generate_request.ensures.request

pub returns-in-Err-clause-usage : goal.returns-in-Err-clause-usage
returns-in-Err-clause-usage c = λ e.
    asked_of_faulty _ generate_app generate_in _ c.in-Ok.ensures (c.in-Err.ensures.usage (cc e))
