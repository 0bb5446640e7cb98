use Rattle.std.proofs.Common.{arith}
use Rattle.soc_top.specs.inner.Naming.{AreScripts}
use Rattle.soc_top.proofs.Turns.{names_read, setup_read, script_stops, bundle_stops}
use Rattle.soc_top.proofs.setup.read_setup.Goals as goal

pub returns-in-Err-load_scripts-clause-stopped : goal.returns-in-Err-load_scripts-clause-stopped
returns-in-Err-load_scripts-clause-stopped g c =
    script_stops (g.F.Files.holds c.args.files.now) _ (g.F.Files.faults c.load_platform.new.files) _
    c.args.request.now c.in-Ok.platform c.in-Err-load_scripts.fault c.load_platform.ensures.counted
    c.in-Ok.ensures.gives
    (rw (c.as_slice.ensures, c.load_platform.ensures.same) at c.in-Err-load_scripts.ensures.stopped)

pub returns-in-Err-catalog_of-clause-stopped : goal.returns-in-Err-catalog_of-clause-stopped
returns-in-Err-catalog_of-clause-stopped g c =
    let scripts : AreScripts (g.F.Files.holds c.args.files.now) c.args.request.now.scripts
    c.in-Ok-load_scripts.scripts.items =
    rw (c.as_slice.ensures, c.load_platform.ensures.same) at c.in-Ok-load_scripts.ensures.read in
    bundle_stops (g.F.Files.holds c.args.files.now) (g.F.Files.faults c.args.files.now)
    (g.F.Files.faults c.load_scripts.new.files) (g.F.Files.faults c.catalog_of.new.files) c.args.request.now
    c.in-Ok.platform c.in-Ok-load_scripts.scripts.items c.in-Err-catalog_of.fault
    (omega (arith, c.load_platform.ensures.counted, c.load_scripts.ensures.counted)) c.in-Ok.ensures.gives scripts
    (rw (c.as_slice-2.ensures.value, c.load_scripts.ensures.same, c.load_platform.ensures.same)
    at c.in-Err-catalog_of.ensures.stopped)

pub setup_of-requires-clause-names : goal.setup_of-requires-clause-names
setup_of-requires-clause-names g c =
    names_read _ c.in-Ok.platform _ c.in-Ok-catalog_of.catalog.items
    (rw c.as_slice-2.ensures.value at c.in-Ok-catalog_of.ensures.read)

pub returns-clause-read : goal.returns-clause-read
returns-clause-read g c =
    setup_read (g.F.Files.holds c.args.files.now) c.args.request.now c.in-Ok.platform
    c.in-Ok-load_scripts.scripts.items c.in-Ok-catalog_of.catalog.items c.in_ok-setup.setup c.in-Ok.ensures.gives
    (rw (c.as_slice.ensures, c.load_platform.ensures.same) at c.in-Ok-load_scripts.ensures.read)
    (rw (c.as_slice-2.ensures.value, c.load_scripts.ensures.same, c.load_platform.ensures.same)
    at c.in-Ok-catalog_of.ensures.read)
    c.in_ok-setup.ensures.platform c.in_ok-setup.ensures.scripts c.in_ok-setup.ensures.catalog
    c.in_ok-setup.ensures.budget
