use Rattle.std.proofs.Common.{◌≤◌}
use Rattle.grant_tables.specs.Turns.{AreQuiet}
use Rattle.serial_run.specs.inner.Going.{AreGoing, AreWithin, KeepRuns}
use Rattle.serial_run.proofs.finishing.go_on.Given as goal

abbrev pub invariant-loop-slot : goal.invariant-loop-slot
invariant-loop-slot l =
    AreGoing l.world l.schedule l.hops l.slot l.stations
    × AreWithin l.until l.stations
    × KeepRuns l.world l.schedule.grants.items l.fn.stations l.stations
    × AreQuiet l.schedule.grants.items l.slot l.turn
    × (l.slot ≤ l.until)
