use Rattle.std.proofs.Common.{◌∙◌, ap, [], unwrap_or}
use Rattle.std.proofs.lemmas.Result.{IfOk-weaker}
use Rattle.clap.specs.Words.{found_of}
use Rattle.clap.proofs.WalkLemmas.{raw_values-rows}
use Rattle.command_words.proofs.values.names.Goals as goal

pub returns-in-Some : goal.returns-in-Some
returns-in-Some c =
    let given = c.in-Some.ensures ∙ raw_values-rows (found_of c.args.matches.now) c.args.id.now in
    IfOk-weaker c.copies_of.result _ _ (λ _ same. same ∙ ap (λ words. unwrap_or words []) given) c.copies_of.ensures

pub returns-in-None : goal.returns-in-None
returns-in-None c =
    let given = c.in-None.ensures ∙ raw_values-rows (found_of c.args.matches.now) c.args.id.now in
    c.new.ensures ∙ ap (λ words. unwrap_or words []) given
