use Rattle.std.proofs.Common.{length, ap, arith}
use Rattle.vep_manager.specs.Manager.{ManagerState}
use Rattle.vep_manager.proofs.Keeping.{kept_grants}
use Rattle.vep_manager.proofs.manager.Manager.copy_since.Goals as goal

pub push_reserved-requires : goal.push_reserved-requires
push_reserved-requires c =
    omega (
      arith,
      kept_grants c.self.invariant.0,
      ap length c.grants-grant-items.ensures,
      ap
          (λ (k : ManagerState). length k.setup.loads) c.self.view_is,
      c.loop-grant.invariant,
      c.requires,
      c.clear.ensures,
    )
