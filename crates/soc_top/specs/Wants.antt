-- What one file of a request is read as, what it gives, and why it refuses the request.
use Rattle.std.specs.Prelude.{◌≡◌, ℕ, ◌<◌, ◌≤◌, List, length, Option, Some, None, Result, Ok, Err}
use Rattle.soc_base.specs.declared.limits.TheConstants.{MOST_FILE_BYTES}
use Rattle.soc_io.specs.Counts.{Rose}
use Rattle.soc_io.specs.Reading.{Held, held_at}
use Rattle.platform_model.specs.declared.platform.Platform.{Platform}
use Rattle.platform_file.specs.Reading as platforms
use Rattle.bundle_model.specs.declared.bundle.Bundle.{Bundle}
use Rattle.bundle_model.specs.declared.rules.BRule.{BRule}
use Rattle.bundle_model.specs.declared.world.Named.{Named}
use Rattle.bundle_file.specs.Reading as bundles
use Rattle.script_file.specs.declared.command.Script.{Script as Commands}
use Rattle.script_file.specs.Commands.{script_meant}
use Rattle.soc_top.specs.declared.fault.TopFault.{TopFault}
use Rattle.soc_top.specs.declared.fault.TopFault.TheVariants.{Platform as BadPlatform, ScriptTooLong, Script, Bundle as BadBundle, Absent, Read, NoMemory}

-- a file by its name, and what it is read as: a platform; a script with room for so many commands; a
-- bundle that must keep its rules on a platform; a bundle that is only judged there
pub data Want : Type 0 where
  PlatformWant : List ℕ → Want
  ScriptWant : List ℕ → ℕ → Want
  BundleWant : Platform → List ℕ → Want
  JudgedWant : Platform → List ℕ → Want

-- the name of the file
abbrev pub name_of : Want → List ℕ
name_of (PlatformWant name) = name
name_of (ScriptWant name room) = name
name_of (BundleWant platform name) = name
name_of (JudgedWant platform name) = name

-- what a file that was read gave: a platform, the commands of a script, or a bundle file by its name with
-- how it was judged
pub data Input : Type 0 where
  PlatformRead : Platform → Input
  ScriptRead : Commands → Input
  BundleRead : Named → Input

-- the bundle that bytes give on a platform, or the least rule that they break
abbrev pub Judges : Platform → List ℕ → Result Bundle BRule → Type 0
Judges platform bytes (Ok bundle) = bundles.Gives platform bytes bundle
Judges platform bytes (Err rule) = bundles.Breaks platform bytes rule

-- what bytes give
abbrev pub Means : Want → List ℕ → Input → Type 0
Means (PlatformWant name) bytes (PlatformRead platform) = platforms.Gives bytes platform
Means (ScriptWant name room) bytes (ScriptRead script) =
    (length bytes ≤ MOST_FILE_BYTES) × (script_meant bytes room ≡ Ok script.commands)
Means (BundleWant platform name) bytes (BundleRead named) =
    (named.name ≡ name) × ((bundle : Bundle) × (named.judged ≡ Ok bundle) × bundles.Gives platform bytes bundle)
Means (JudgedWant platform name) bytes (BundleRead named) = (named.name ≡ name) × Judges platform bytes named.judged
Means _ _ _ = ⊥

-- why bytes are refused. A platform or a bundle that is too long breaks the first of its rules.
abbrev pub Breaks : Want → List ℕ → TopFault → Type 0
Breaks (PlatformWant name) bytes (BadPlatform rule) = platforms.Breaks bytes rule
Breaks (ScriptWant name room) bytes (Script other fault) =
    (other ≡ name) × (length bytes ≤ MOST_FILE_BYTES) × (script_meant bytes room ≡ Err fault)
Breaks (BundleWant platform name) bytes (BadBundle other rule) = (other ≡ name) × bundles.Breaks platform bytes rule
Breaks _ _ _ = ⊥

-- these can be the bytes of the file of a name: those that it holds, and where nothing is told of the
-- files, any
abbrev pub HasBytes : Option Held → List ℕ → List ℕ → Type 0
HasBytes (Some held) name bytes = held_at held name ≡ Some bytes
HasBytes None name bytes = Unit {0}

-- a file gives this, by its bytes
abbrev pub Gives : Option Held → Want → Input → Type 0
Gives told want input = (bytes : List ℕ) × HasBytes told (name_of want) bytes × Means want bytes input

-- there is no file of a name; where nothing is told of the files, their faults rose
abbrev pub IsAbsent : Option Held → ℕ → ℕ → List ℕ → Type 0
IsAbsent (Some held) before now name = held_at held name ≡ None
IsAbsent None before now name = Rose before now

-- the file of a name is longer than files may be; where nothing is told of the files, their faults rose
abbrev pub IsLong : Option Held → ℕ → ℕ → List ℕ → Type 0
IsLong (Some held) before now name =
    (bytes : List ℕ) × (held_at held name ≡ Some bytes) × (MOST_FILE_BYTES < length bytes)
IsLong None before now name = Rose before now

-- the script of this name is wanted
abbrev pub WantsScript : Want → List ℕ → Type 0
WantsScript (ScriptWant name room) other = other ≡ name
WantsScript _ _ = ⊥

-- why a file that is wanted refuses the request, where the count of the files' faults went from `before`
-- to `now`: it is absent; it could not be read; memory was wanted; a script is too long; its bytes
abbrev pub Refuses : Option Held → ℕ → ℕ → Want → TopFault → Type 0
Refuses told before now want (Absent name) = (name ≡ name_of want) × IsAbsent told before now name
Refuses told before now want (Read name) = (name ≡ name_of want) × Rose before now
Refuses told before now want NoMemory = Unit {0}
Refuses told before now want (ScriptTooLong name) = WantsScript want name × IsLong told before now name
Refuses told before now want fault = (bytes : List ℕ) × HasBytes told (name_of want) bytes × Breaks want bytes fault
