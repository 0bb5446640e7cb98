use Rattle.std.proofs.Common.{arith}
use Rattle.std.proofs.Math.Pow.{pow-lt}
use Rattle.comik.proofs.tests.set_of.Goals as goal

pub returns-clause-below : goal.returns-clause-below
returns-clause-below c = omega (arith, pow-lt c.requires.slot)
