-- The two ports that the parts of the tests have.
use Rattle.std.proofs.Common.{ℕ, zero, suc, ◌<◌, nat_eq, List, [], ◌∷◌, length, get_or, refl, arith}
use Rattle.std.specs.List.{IsDistinct}
use Rattle.ni_port.specs.SizedPort.{SizedPort}
use Rattle.tile_mmio.specs.Ports.{AreOwn}

abbrev two : List ℕ
two = 2 ∷ 5 ∷ []

apart : IsDistinct nat_eq two
unfolding IsDistinct
apart = ((refl, tt), (tt, tt))

below : (n : ℕ) → 5 < n → (k : ℕ) (d : ℕ) → k < length two → get_or two k d < n
below n within zero d k = omega (arith, within)
below n within (suc zero) d k = within
below n within (suc (suc j)) d k = absurd (omega (arith, k))

pub two_own : (ports : List SizedPort) → 5 < length ports → AreOwn ports (2 ∷ 5 ∷ [])
two_own ports within = record { within = below (length ports) within; apart = apart }
