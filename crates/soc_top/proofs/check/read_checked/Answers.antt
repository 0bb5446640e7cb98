use Rattle.soc_top.proofs.Turns.{check_stops}
use Rattle.soc_top.proofs.check.read_checked.Goals as goal

pub returns-clause-stopped : goal.returns-clause-stopped
returns-clause-stopped g c =
    check_stops (g.F.Files.holds c.args.files.now) (g.F.Files.faults c.args.files.now)
    (g.F.Files.faults c.load_platform.new.files) (g.F.Files.faults c.checked_catalog.new.files) c.args.request.now
    c.in-Ok.platform c.in-Err-checked_catalog.fault c.load_platform.ensures.counted c.in-Ok.ensures.gives
    (rw c.load_platform.ensures.same at c.in-Err-checked_catalog.ensures.stopped)

pub returns-in-Ok-checked_catalog-clause-read : goal.returns-in-Ok-checked_catalog-clause-read
returns-in-Ok-checked_catalog-clause-read g c = (
  c.in-Ok.platform,
  (c.in-Ok.ensures.gives, rw c.load_platform.ensures.same at c.in-Ok-checked_catalog.ensures.read),
)
