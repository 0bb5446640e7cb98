use Rattle.std.proofs.Common.{◌≡◌, [], fold, take}
use Rattle.soc_top.specs.Run.{with_name}
use Rattle.soc_top.proofs.check.distinct_names.Given as goal

abbrev pub invariant-loop-name : goal.invariant-loop-name
invariant-loop-name l = l.known.items ≡ fold with_name [] (take l.name-index l.names)
