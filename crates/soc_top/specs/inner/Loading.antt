-- What reading one file answers.
use Rattle.std.specs.Prelude.{◌≡◌, ℕ, ◌≤◌, List, length, All, Option}
use Rattle.soc_base.specs.declared.limits.TheConstants.{MOST_FILE_BYTES}
use Rattle.soc_io.specs.Counts.{Rose}
use Rattle.soc_io.specs.Reading.{Held}
use Rattle.soc_top.specs.declared.fault.TopFault.{TopFault}
use Rattle.soc_top.specs.declared.fault.TopFault.TheVariants.{Absent, Read, NoMemory}
use Rattle.soc_top.specs.declared.file.Content.{Content}
use Rattle.soc_top.specs.declared.file.Content.TheVariants.{Whole, TooLong}
use Rattle.soc_top.specs.declared.script.Source.{Source}
use Rattle.soc_top.specs.Wants.{Breaks, HasBytes, IsAbsent, IsLong}
use Rattle.soc_top.specs.Wants.Want.{ScriptWant}

-- what is read of the file of a name
abbrev pub HasContent : Option Held → ℕ → ℕ → List ℕ → Content → Type 0
HasContent told before now name (Whole bytes) = HasBytes told name bytes × (length bytes ≤ MOST_FILE_BYTES)
HasContent told before now name TooLong = IsLong told before now name

-- why the file of a name is not read
abbrev pub Misses : Option Held → ℕ → ℕ → List ℕ → TopFault → Type 0
Misses told before now name (Absent other) = (other ≡ name) × IsAbsent told before now other
Misses told before now name (Read other) = (other ≡ name) × Rose before now
Misses told before now name NoMemory = Unit {0}
Misses told before now name _ = ⊥

-- why bytes are no script for which there is room
abbrev pub FaultsScript : List ℕ → ℕ → List ℕ → TopFault → Type 0
FaultsScript name room bytes NoMemory = Unit {0}
FaultsScript name room bytes fault = Breaks (ScriptWant name room) bytes fault

-- the bytes that were kept of a script's file
abbrev pub IsKept : Option Held → Source → Type 0
IsKept told source = HasBytes told source.name source.bytes × (length source.bytes ≤ MOST_FILE_BYTES)

-- the bytes that were kept of several
abbrev pub AreKept : Option Held → List Source → Type 0
AreKept told sources = All (IsKept told) sources
