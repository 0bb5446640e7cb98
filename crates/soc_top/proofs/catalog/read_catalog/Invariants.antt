use Rattle.std.proofs.Common.{◌≡◌, ◌≤◌}
use Rattle.soc_top.specs.inner.Naming.{AreWellFormed}
use Rattle.soc_top.proofs.Turns.{HasBundles}
use Rattle.soc_top.proofs.catalog.read_catalog.Given as goal

abbrev pub invariant-loop-name : goal.invariant-loop-name
invariant-loop-name g l =
    (g.F.Files.holds l.files ≡ g.F.Files.holds l.fn.files)
    × (g.F.Files.faults l.fn.files ≤ g.F.Files.faults l.files)
    × HasBundles (g.F.Files.holds l.fn.files) l.platform l.names l.name-index l.catalog.items
    × AreWellFormed l.platform l.catalog.items
