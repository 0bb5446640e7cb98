-- What one reading answers, as what it gives or why it refuses the request.
use Rattle.std.proofs.Common.{◌≡◌, ℕ, ◌+◌, ◌<◌, List, length, replicate, Option, Some, None, Ok, Err, refl, arith}
use Rattle.std.proofs.lemmas.List.{length-replicate}
use Rattle.soc_base.specs.declared.limits.TheConstants.{MOST_FILE_BYTES}
use Rattle.soc_io.specs.Reading.{Held}
use Rattle.toml_keys.specs.Document.{Reads}
use Rattle.platform_model.specs.declared.platform.Platform.{Platform}
use Rattle.platform_model.specs.declared.rules.PRule.TheVariants.{P1}
use Rattle.platform_file.specs.Reading as platforms
use Rattle.bundle_model.specs.declared.bundle.Bundle.{Bundle}
use Rattle.bundle_model.specs.declared.rules.BRule.{BRule}
use Rattle.bundle_model.specs.declared.rules.BRule.TheVariants.{B1}
use Rattle.bundle_file.specs.Reading as bundles
use Rattle.soc_top.specs.declared.fault.TopFault.{TopFault}
use Rattle.soc_top.specs.declared.fault.TopFault.TheVariants.{Platform as BadPlatform, ScriptTooLong, Script, Bundle as BadBundle, Absent, Read, NoMemory}
use Rattle.soc_top.specs.Wants.{Want, name_of, HasBytes, Gives, IsLong, Refuses}
use Rattle.soc_top.specs.Wants.Want.{PlatformWant, BundleWant, JudgedWant}
use Rattle.soc_top.specs.Wants.Input.{BundleRead}
use Rattle.soc_top.specs.inner.Loading.{Misses}

pub missed : (told : Option Held) (before now : ℕ) (want : Want) (fault : TopFault)
    → Misses told before now (name_of want) fault → Refuses told before now want fault
missed told before now want (BadPlatform rule) misses = absurd misses
missed told before now want (ScriptTooLong other) misses = absurd misses
missed told before now want (Script other found) misses = absurd misses
missed told before now want (BadBundle other rule) misses = absurd misses
missed told before now want (Absent other) misses = misses
missed told before now want (Read other) misses = misses
missed told before now want NoMemory misses = tt

-- a file that is too long is no document
long_is_none : (bytes : List ℕ) → MOST_FILE_BYTES < length bytes → Reads bytes None
long_is_none bytes long = λ ms document. absurd (omega (arith, document.0))

breaks_first : (bytes : List ℕ) → MOST_FILE_BYTES < length bytes → platforms.Breaks bytes P1
unfolding platforms.least_rule
breaks_first bytes long = (None, long_is_none bytes long, refl)

breaks_one : (on : Platform) (bytes : List ℕ) → MOST_FILE_BYTES < length bytes → bundles.Breaks on bytes B1
unfolding bundles.least_rule
breaks_one on bytes long = (None, long_is_none bytes long, refl)

-- a file that is too long has long bytes
record HasLong (told : Option Held) (name : List ℕ) : Type 0 where
  bytes : List ℕ
  has : HasBytes told name bytes
  long : MOST_FILE_BYTES < length bytes

-- there are bytes that are longer than any number
some_long : (most : ℕ) → (bytes : List ℕ) × (most < length bytes)
some_long most = (replicate (most + 1) 0, omega (arith, length-replicate {A = ℕ} (most + 1) 0))

has_long : (told : Option Held) (before now : ℕ) (name : List ℕ) → IsLong told before now name → HasLong told name
has_long (Some held) before now name (bytes, is, long) = record { bytes = bytes; has = is; long = long }
has_long None before now name rose =
    let (bytes, long) = some_long MOST_FILE_BYTES in
    record { bytes = bytes; has = tt; long = long }

pub long_platform : (told : Option Held) (before now : ℕ) (name : List ℕ) → IsLong told before now name
    → Refuses told before now (PlatformWant name) (BadPlatform P1)
long_platform told before now name is =
    let long = has_long told before now name is in
    (long.bytes, long.has, breaks_first long.bytes long.long)

pub long_bundle : (told : Option Held) (before now : ℕ) (on : Platform) (name other : List ℕ)
    → IsLong told before now name → other ≡ name
    → Gives told (JudgedWant on name) (BundleRead (record { name = other; judged = Err B1 }))
long_bundle told before now on name other is same =
    let long = has_long told before now name is in
    (long.bytes, long.has, (same, breaks_one on long.bytes long.long))

-- a file that isn't judged is no bundle
pub bundle_too : (told : Option Held) (before now : ℕ) (on : Platform) (name : List ℕ) (fault : TopFault)
    → Refuses told before now (JudgedWant on name) fault → Refuses told before now (BundleWant on name) fault
bundle_too told before now on name (BadPlatform rule) refuses = absurd refuses.2
bundle_too told before now on name (ScriptTooLong other) refuses = absurd refuses.0
bundle_too told before now on name (Script other found) refuses = absurd refuses.2
bundle_too told before now on name (BadBundle other rule) refuses = absurd refuses.2
bundle_too told before now on name (Absent other) refuses = refuses
bundle_too told before now on name (Read other) refuses = refuses
bundle_too told before now on name NoMemory refuses = refuses

pub bundle_kept : (told : Option Held) (on : Platform) (name other : List ℕ) (bundle : Bundle)
    → Gives told (JudgedWant on name) (BundleRead (record { name = other; judged = Ok bundle }))
    → Gives told (BundleWant on name) (BundleRead (record { name = name; judged = Ok bundle }))
bundle_kept told on name other bundle (bytes, has, (same, gives)) = (bytes, has, (refl, (bundle, refl, gives)))

pub bundle_broken : (told : Option Held) (before now : ℕ) (on : Platform) (name other : List ℕ) (rule : BRule)
    → Gives told (JudgedWant on name) (BundleRead (record { name = other; judged = Err rule }))
    → Refuses told before now (BundleWant on name) (BadBundle other rule)
bundle_broken told before now on name other rule (bytes, has, (same, breaks)) = (bytes, has, (same, breaks))
