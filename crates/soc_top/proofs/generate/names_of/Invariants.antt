use Rattle.std.proofs.Common.{◌≡◌, map, take}
use Rattle.soc_top.proofs.generate.names_of.Given as goal

abbrev pub invariant-loop-file : goal.invariant-loop-file
invariant-loop-file l = l.names ≡ map (λ file. file.name) (take l.file-index l.named)
