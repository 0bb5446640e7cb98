use Rattle.std.proofs.Common.{◌∙◌}
use Rattle.clap.specs.Words.{found_of, rows_of, one_of}
use Rattle.clap.proofs.WalkLemmas.{one_text-rows}
use Rattle.command_words.proofs.Flags.{flag_read, flag_unread}
use Rattle.command_words.proofs.values.flag.Goals as goal

pub returns-in-Some : goal.returns-in-Some
returns-in-Some c =
    let same = one_text-rows (found_of c.args.matches.now) c.args.id.now in
    flag_read c.in-Some.value (one_of c.args.id.now (rows_of (found_of c.args.matches.now)))
    (λ e. c.in-Some.ensures.none (same ∙ e)) (λ t e. c.in-Some.ensures.value t (same ∙ e))

pub returns-in-None : goal.returns-in-None
returns-in-None c =
    let same = one_text-rows (found_of c.args.matches.now) c.args.id.now in
    flag_unread (one_of c.args.id.now (rows_of (found_of c.args.matches.now)))
    (λ t e. c.in-None.ensures.value t (same ∙ e))
