-- In which order the files of a request are read, and the first of them that refuses it.
use Rattle.std.specs.Prelude.{◌≡◌, ℕ, List, [], ◌∷◌, Option, Some}
use Rattle.soc_io.specs.Reading.{Held}
use Rattle.soc_top.specs.declared.fault.TopFault.{TopFault}
use Rattle.soc_top.specs.declared.fault.TopFault.TheVariants.{Read, NoMemory}
use Rattle.soc_top.specs.Wants.{Want, Input, Gives, Refuses}

-- the file that is read next, and by what it gives the order of the files after it; or all are read
pub data Order : Type 0 where
  Next : Want → (Input → Order) → Order
  Whole : Order

-- the first files of an order were read and gave these inputs, and this is the order of those after them
abbrev pub Leaves : Option Held → Order → List Input → Order → Type 0
Leaves told order [] rest = order ≡ rest
Leaves told (Next want after) (input ∷ inputs) rest = Gives told want input × Leaves told (after input) inputs rest
Leaves told Whole (input ∷ inputs) rest = ⊥

-- all files of an order were read, and gave these inputs
abbrev pub AreRead : Option Held → Order → List Input → Type 0
AreRead told order inputs = Leaves told order inputs Whole

-- a file is reached: the files before it were read, and none of them refuses the request
abbrev pub Reaches : Option Held → Order → Want → Type 0
Reaches told order want =
    (inputs : List Input) × ((after : Input → Order) × Leaves told order inputs (Next want after))

-- a request is refused by the first event that refuses it: a file that is reached, and this is why
abbrev pub Cause : Option Held → ℕ → ℕ → Order → TopFault → Type 0
Cause told before now order fault = (want : Want) × Reaches told order want × Refuses told before now want fault

-- what the files alone refuse: these refusals come wherever no read fails and memory suffices
abbrev pub IsDecided : Held → Order → TopFault → Type 0
IsDecided held order (Read name) = ⊥
IsDecided held order NoMemory = ⊥
IsDecided held order fault = Cause (Some held) 0 0 order fault

-- what the files alone allow: they refuse nothing
abbrev pub IsAllowed : Held → Order → Type 0
IsAllowed held order = (fault : TopFault) → IsDecided held order fault → ⊥
