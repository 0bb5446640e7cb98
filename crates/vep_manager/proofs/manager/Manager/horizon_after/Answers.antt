use Rattle.std.proofs.Common.{length, ap, arith}
use Rattle.vep_manager.proofs.Keeping.{kept_entries}
use Rattle.vep_manager.proofs.manager.Manager.horizon_after.Goals as goal

pub horizon-requires-clause-few : goal.horizon-requires-clause-few
horizon-requires-clause-few c = omega (arith, kept_entries c.self.invariant.0, ap length c.as_slice.ensures.value)
