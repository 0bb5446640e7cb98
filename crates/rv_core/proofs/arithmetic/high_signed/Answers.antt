use Rattle.std.proofs.Common.{◌^◌, ◌*ℤ◌, FitsSigned, arith, lit<}
use Rattle.std.specs.Int.{w64}
use Rattle.std.proofs.lemmas.Int.{ints, to_z-of_z, fits_signed_mul, fits_signed_from_abs}
use Rattle.rv_core.proofs.arithmetic.high_signed.Goals as goal

pub returns : goal.returns
returns c =
    let fits_a : FitsSigned w64 c.args.a = fits_signed_from_abs w64 c.args.a (omega (arith, ints)) in
    let fits_b : FitsSigned w64 c.args.b = fits_signed_from_abs w64 c.args.b (omega (arith, ints)) in
    let fits : FitsSigned w64 (c.args.a *ℤ c.args.b) = fits_signed_mul w64 c.args.a c.args.b (2 ^ 31) (2 ^ 31) (omega (arith, ints)) (omega (arith, ints)) (lit< tt) in
    simp (to_z-of_z, c.ranges.a, c.ranges.b, fits, fits_a, fits_b) at (rw (c.from.ensures, c.from-2.ensures) at c.high_word.ensures)
