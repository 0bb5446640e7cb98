use Rattle.std.proofs.Common.{refl}
use Rattle.soc_top.specs.Wants.Want.{PlatformWant, BundleWant}
use Rattle.soc_top.specs.Wants.Input.{PlatformRead}
use Rattle.soc_top.specs.Order.Order.{Whole}
use Rattle.soc_top.specs.Alone.{bundle_order}
use Rattle.soc_top.proofs.Orders.{stopped_next}
use Rattle.soc_top.proofs.inputs.load.Goals as goal

pub returns-in-Err-load_kept-clause-stopped : goal.returns-in-Err-load_kept-clause-stopped
returns-in-Err-load_kept-clause-stopped g c =
    stopped_next (g.F.Files.holds c.args.files.now) (g.F.Files.faults c.args.files.now)
    (g.F.Files.faults c.load_platform.new.files) (g.F.Files.faults c.load_kept.new.files)
    (PlatformWant c.args.request.now.platform) (bundle_order c.args.request.now) (PlatformRead c.in-Ok.platform)
    (BundleWant c.in-Ok.platform c.args.request.now.bundle) (λ bundle. Whole) c.in-Err-load_kept.fault
    c.load_platform.ensures.counted c.in-Ok.ensures.gives refl
    (rw c.load_platform.ensures.same at c.in-Err-load_kept.ensures.refused)
