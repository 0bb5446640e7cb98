use Rattle.std.proofs.Common.{◌∙◌, arith}
use Rattle.soc_top.proofs.Turns.{one_more_script, scripts_stop}
use Rattle.soc_top.proofs.script.load_scripts.Goals as goal

pub loop-name-preserved : goal.loop-name-preserved
loop-name-preserved g c =
    let so_far = c.loop-name.invariant in (
      c.add_script.ensures.same ∙ so_far.0,
      omega (arith, so_far.1, c.add_script.ensures.counted),
      rw so_far.0 at c.in-Ok.ensures.kept,
      one_more_script (g.F.Files.holds c.args.files.now) c.args.names.now c.loop-name.name-index c.name-item.result
          (omega arith) c.name-item.is c.loop-name.room c.in-Ok.left c.loop-name.scripts.items
          c.add_script.new.scripts.items so_far.3 (rw so_far.0 at c.in-Ok.ensures.added),
    )

pub returns-in-Err-clause-stopped : goal.returns-in-Err-clause-stopped
returns-in-Err-clause-stopped g c =
    let so_far = c.loop-name.invariant in
    scripts_stop (g.F.Files.holds c.args.files.now) c.args.names.now c.loop-name.name-index c.name-item.result
    (omega arith) c.name-item.is (g.F.Files.faults c.args.files.now) (g.F.Files.faults c.loop-name.files)
    (g.F.Files.faults c.add_script.new.files) c.loop-name.room c.loop-name.scripts.items c.in-Err.fault so_far.3
    so_far.1 (rw so_far.0 at c.in-Err.ensures.refused)
