use Rattle.std.proofs.Common.{◌≡◌, drop}
use Rattle.vep_manager.specs.History.{end_in}
use Rattle.vep_manager.proofs.granting.load_end.Given as goal

abbrev pub invariant-loop-entry : goal.invariant-loop-entry
invariant-loop-entry l = end_in (drop l.entry-index l.history) l.label ≡ end_in l.history l.label
