-- How much a load or a store moves.
use Rattle.std.specs.Prelude.{ℕ}
use Rattle.soc_base.specs.declared.region.Width.{Width}
use Rattle.soc_base.specs.declared.region.Width.TheVariants.{Byte, Half, Word}

-- the number of bytes
abbrev pub width_bytes : Width → ℕ
width_bytes Byte = 1
width_bytes Half = 2
width_bytes Word = 4
