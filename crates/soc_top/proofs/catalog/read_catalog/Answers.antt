use Rattle.std.proofs.Common.{◌∙◌, arith}
use Rattle.soc_top.proofs.Turns.{one_more_bundle}
use Rattle.soc_top.proofs.catalog.read_catalog.Goals as goal

pub loop-name-preserved : goal.loop-name-preserved
loop-name-preserved g c =
    let so_far = c.loop-name.invariant in (
      c.add_bundle.ensures.same ∙ so_far.0,
      omega (arith, so_far.1, c.add_bundle.ensures.counted),
      one_more_bundle (g.F.Files.holds c.args.files.now) c.args.platform.now c.args.names.now c.loop-name.name-index
          c.name-item.result c.loop-name.catalog.items c.add_bundle.new.catalog.items so_far.2 (omega arith)
          c.name-item.is (rw so_far.0 at c.in-Ok.ensures.judged),
      c.in-Ok.ensures.sound so_far.3,
    )
