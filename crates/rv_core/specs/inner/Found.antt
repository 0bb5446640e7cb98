-- What a decoder's helper found.
use Rattle.std.specs.Prelude.{◌≡◌, Option, IfSome}
use Rattle.rv_core.specs.declared.fields.Fields.{Fields}
use Rattle.rv_core.specs.declared.instr.Instr.{Instr}
use Rattle.rv_core.specs.Table.{IsInRange, fields_of}

-- an instruction that was found has these fields, by the table, and is in range
abbrev pub IsFound : Fields → Option Instr → Type 0
IsFound f found = IfSome found (λ i. IsInRange i × (fields_of i ≡ f))
