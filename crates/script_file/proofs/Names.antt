-- The bytes of a name are ASCII.
use Rattle.std.proofs.Common.{ℕ, zero, suc, ◌<◌, List, [], ◌∷◌, IsTrue, refl, Bool, true, false, ◌&&◌, slice_index, arith, lit<}
use Rattle.std.proofs.lemmas.Bool.Decides.{nat_tests}
use Rattle.std.specs.List.{list_all}
use Rattle.std.specs.Str.{IsUtf8}
use Rattle.std.proofs.lemmas.Str.{IsUtf8-from_ascii}
use Rattle.script_file.specs.Commands.{is_name, is_name_byte}

below_128 : (byte : ℕ) → IsTrue (is_name_byte byte) → byte < 128
below_128 byte h = grind (arith, nat_tests)

both : (a b : Bool) → IsTrue (a && b) → IsTrue a × IsTrue b
both true b h = (refl, h)
both false b h = (h, cc)

ascii : (bytes : List ℕ) → IsTrue (list_all is_name_byte bytes) → (i : ℕ) → slice_index bytes i < 128
ascii [] h i = lit< tt
ascii (byte ∷ bytes) h zero = below_128 byte (both _ _ h).0
ascii (byte ∷ bytes) h (suc i) = ascii bytes (both _ _ h).1 i

pub IsUtf8_from_name : (name : List ℕ) → IsTrue (is_name name) → IsUtf8 name
IsUtf8_from_name name h = IsUtf8-from_ascii name (ascii name (both _ _ h).1)
