use Rattle.std.proofs.Common.{◌≡◌, map, IfOk, ap, ◌∙◌, subst}
use Rattle.std.specs.Str.Lines.{strip_carriage_return}
use Rattle.script_file.specs.Lines.{words_of}
use Rattle.script_file.specs.Commands.{line_meaning, words_meaning}
use Rattle.script_file.proofs.Words.{five_tell}
use Rattle.script_file.proofs.line.judge.Goals as goal

pub returns : goal.returns
returns c =
    let same : words_meaning (map (λ word. word.now) c.deref.result.now)
    ≡ line_meaning (strip_carriage_return c.args.line.now) =
    ap (λ words. words_meaning (map (λ word. word.now) words)) c.deref.ensures.value
    ∙ ap words_meaning c.in_ok-words.ensures ∙ five_tell (words_of c.without_return.result.now)
    ∙ ap line_meaning c.without_return.ensures in
    subst (λ m. IfOk c.judge_words.result (λ meaning. meaning ≡ m)) same c.judge_words.ensures
