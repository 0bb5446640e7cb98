use Rattle.std.proofs.Common.{length}
use Rattle.script_file.proofs.Reading.{IsRead}
use Rattle.script_file.proofs.reader.read_script.Given as goal

abbrev pub invariant-loop-line : goal.invariant-loop-line
invariant-loop-line l =
    (goal.iterator-loop-line).can_next l.line-iterator ×
    (goal.iterator-loop-line).is_finite l.line-iterator ×
    IsRead l.bytes l.room (length l.yielded) l.number l.kept.count l.kept.commands
