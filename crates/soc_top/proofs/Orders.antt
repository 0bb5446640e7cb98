-- How readings of files come together.
use Rattle.std.proofs.Common.{◌≡◌, ℕ, ◌≤◌, List, [], ◌∷◌, ◌++◌, Option, Some, None, refl, sym, subst, arith}
use Rattle.soc_io.specs.Counts.{Rose}
use Rattle.soc_io.specs.Reading.{Held}
use Rattle.soc_top.specs.declared.fault.TopFault.{TopFault}
use Rattle.soc_top.specs.declared.fault.TopFault.TheVariants.{Platform as BadPlatform, ScriptTooLong, Script, Bundle as BadBundle, Absent, Read, NoMemory}
use Rattle.soc_top.specs.Wants.{Want, Input, Gives, IsAbsent, IsLong, Refuses}
use Rattle.soc_top.specs.Order.{Order, Leaves, Cause}
use Rattle.soc_top.specs.Order.Order.{Next, Whole}

pub leaves_then : (told : Option Held) (first second third : Order) (xs ys : List Input)
    → Leaves told first xs second → Leaves told second ys third → Leaves told first (xs ++ ys) third
leaves_then told first second third [] ys is later = subst (λ o. Leaves told o ys third) (sym is) later
leaves_then told (Next want after) second third (input ∷ xs) ys (gives, more) later =
    (gives, leaves_then told (after input) second third xs ys more later)
leaves_then told Whole second third (input ∷ xs) ys none later = absurd none

-- a count that rose in a call rose in a longer one
rose_later : (before mid now : ℕ) → before ≤ mid → Rose mid now → Rose before now
rose_later before mid now later rose = omega (arith, later, rose)

absent_later : (told : Option Held) (before mid now : ℕ) (name : List ℕ) → before ≤ mid → IsAbsent told mid now name
    → IsAbsent told before now name
absent_later (Some held) before mid now name later none = none
absent_later None before mid now name later rose = rose_later before mid now later rose

long_later : (told : Option Held) (before mid now : ℕ) (name : List ℕ) → before ≤ mid → IsLong told mid now name
    → IsLong told before now name
long_later (Some held) before mid now name later long = long
long_later None before mid now name later rose = rose_later before mid now later rose

pub refuses_later : (told : Option Held) (before mid now : ℕ) (want : Want) (fault : TopFault) → before ≤ mid
    → Refuses told mid now want fault → Refuses told before now want fault
refuses_later told before mid now want (BadPlatform rule) later refuses = refuses
refuses_later told before mid now want (ScriptTooLong other) later refuses =
    (refuses.0, long_later told before mid now other later refuses.1)
refuses_later told before mid now want (Script other found) later refuses = refuses
refuses_later told before mid now want (BadBundle other rule) later refuses = refuses
refuses_later told before mid now want (Absent other) later refuses =
    (refuses.0, absent_later told before mid now other later refuses.1)
refuses_later told before mid now want (Read other) later refuses =
    (refuses.0, rose_later before mid now later refuses.1)
refuses_later told before mid now want NoMemory later refuses = tt

-- a file that is reached refuses the request
pub cause_at : (told : Option Held) (before mid now : ℕ) (order : Order) (inputs : List Input) (want : Want)
    (after : Input → Order) (fault : TopFault)
    → before ≤ mid → Leaves told order inputs (Next want after) → Refuses told mid now want fault
    → Cause told before now order fault
cause_at told before mid now order inputs want after fault later leaves refuses =
    (want, (inputs, (after, leaves)), refuses_later told before mid now want fault later refuses)

-- a request is refused by what is read after these inputs
pub cause_after : (told : Option Held) (before mid now : ℕ) (order rest : Order) (inputs : List Input)
    (fault : TopFault)
    → before ≤ mid → Leaves told order inputs rest → Cause told mid now rest fault → Cause told before now order fault
cause_after told before mid now order rest inputs fault later leaves (want, (others, (after, reached)), refuses) =
    cause_at told before mid now order (inputs ++ others) want after fault later
    (leaves_then told order rest (Next want after) inputs others leaves reached) refuses

-- the first file of an order refuses the request
pub stopped_first : (told : Option Held) (before now : ℕ) (want : Want) (after : Input → Order) (fault : TopFault)
    → Refuses told before now want fault → Cause told before now (Next want after) fault
stopped_first told before now want after fault refuses = (want, ([], (after, refl)), refuses)

-- the second one does
pub stopped_next : (told : Option Held) (before mid now : ℕ) (want : Want) (after : Input → Order) (input : Input)
    (next : Want) (rest : Input → Order) (fault : TopFault)
    → before ≤ mid → Gives told want input → after input ≡ Next next rest → Refuses told mid now next fault
    → Cause told before now (Next want after) fault
stopped_next told before mid now want after input next rest fault later gives is refuses =
    cause_at told before mid now (Next want after) (input ∷ []) next rest fault later (gives, is) refuses
