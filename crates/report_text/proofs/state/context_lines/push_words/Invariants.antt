use Rattle.std.proofs.Common.{◌≡◌, ◌+◌, ◌*◌, ◌≤◌, ◌++◌, take}
use Rattle.arrayvec.specs.ArrayString.{array_string_len}
use Rattle.report_text.specs.State.{words_text}
use Rattle.report_text.proofs.state.context_lines.push_words.Given as goal

abbrev pub invariant-loop-word : goal.invariant-loop-word
invariant-loop-word l =
    (l.line.bytes ≡ l.fn.line.bytes ++ words_text (take l.word-index l.words))
    × (array_string_len l.line ≤ array_string_len l.fn.line + 9 * l.word-index)
