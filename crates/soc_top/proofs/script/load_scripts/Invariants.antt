use Rattle.std.proofs.Common.{◌≡◌, ◌≤◌}
use Rattle.soc_top.specs.inner.Loading.{AreKept}
use Rattle.soc_top.proofs.Turns.{HasScripts}
use Rattle.soc_top.proofs.script.load_scripts.Given as goal

abbrev pub invariant-loop-name : goal.invariant-loop-name
invariant-loop-name g l =
    (g.F.Files.holds l.files ≡ g.F.Files.holds l.fn.files)
    × (g.F.Files.faults l.fn.files ≤ g.F.Files.faults l.files)
    × AreKept (g.F.Files.holds l.fn.files) l.sources.items
    × HasScripts (g.F.Files.holds l.fn.files) l.names l.name-index l.scripts.items l.room
