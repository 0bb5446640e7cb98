use Rattle.std.proofs.Common.{◌≡◌, take}
use Rattle.soc_top.specs.Generate.{with_files}
use Rattle.soc_top.proofs.generate.add_all.Given as goal

abbrev pub invariant-loop-file : goal.invariant-loop-file
invariant-loop-file l = l.files ≡ record l.fn.files { held = with_files l.fn.files.held (take l.file-index l.named) }
