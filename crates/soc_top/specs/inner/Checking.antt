-- What reading the bundle files of a `check` answers.
use Rattle.std.specs.Prelude.{◌≡◌, ℕ, ◌⊎◌, map, Option, Vec}
use Rattle.soc_io.specs.Reading.{Held}
use Rattle.platform_model.specs.declared.platform.Platform.{Platform}
use Rattle.bundle_model.specs.declared.world.Named.{Named}
use Rattle.std.specs.declared.alloc.Global.{Global}
use Rattle.command_words.specs.declared.request.CheckWords.{CheckWords}
use Rattle.soc_top.specs.declared.fault.TopFault.{TopFault}
use Rattle.soc_top.specs.declared.fault.TopFault.TheVariants.{NoMemory}
use Rattle.soc_top.specs.Wants.Input.{BundleRead}
use Rattle.soc_top.specs.Order.{AreRead, Cause}
use Rattle.soc_top.specs.Run.{bundles_order}
use Rattle.soc_top.specs.Check.{checked_names}

-- the bundle files that the words name were read and judged
abbrev pub HasChecked : Option Held → Platform → CheckWords → Vec Named Global → Type 0
HasChecked told platform request catalog =
    AreRead told (bundles_order platform (checked_names request)) (map BundleRead catalog.items)

-- why they weren't: memory was wanted, or the first of them that couldn't be read
abbrev pub StopsChecking : Option Held → ℕ → ℕ → Platform → CheckWords → TopFault → Type 0
StopsChecking told before now platform request fault =
    (fault ≡ NoMemory) ⊎ Cause told before now (bundles_order platform (checked_names request)) fault
