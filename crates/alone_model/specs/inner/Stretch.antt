-- A part with a memory and ports of its own, and in a stretch of cycles.
use Rattle.std.specs.Prelude.{◌≡◌, ℕ, List, length}
use Rattle.std.specs.List.{range_with_len}
use Rattle.soc_base.specs.Steps.{after_steps}
use Rattle.platform_model.specs.declared.platform.Platform.{Platform}
use Rattle.platform_model.specs.declared.costs.Costs.{Costs}
use Rattle.ni_port.specs.SizedPort.{SizedPort}
use Rattle.tile_memory.specs.Bytes.{IsInside}
use Rattle.bundle_model.specs.declared.bundle.Part.{Part}
use Rattle.part_model.specs.Part.{part_cycle}
use Rattle.alone_model.specs.Network.{AppPart}
use Rattle.alone_model.specs.App.{place_of, own_region, part_step}

-- a part after `n` cycles in each of which it runs
abbrev pub part_ran : Costs → ℕ → ℕ → AppPart → AppPart
part_ran costs from n p = record p { state = after_steps (part_cycle costs (place_of p.part)) from n p.state }

-- a part after `n` cycles of an application that was granted from cycle `start` on
abbrev pub part_steps : Platform → ℕ → ℕ → ℕ → AppPart → AppPart
part_steps platform start from n = after_steps (part_step platform start) from n

-- the part's region lies in the memory, and it has its ports, numbered from 0 on
pub record HasItsOwn (part : Part) (memory : List ℕ) (ports : List SizedPort) (numbers : List ℕ) : Type 0 where
  pub inside : IsInside memory (own_region part)
  pub count : length ports ≡ length part.ports
  pub numbered : numbers ≡ range_with_len 0 (length ports)

-- a part between two cycles has as many ports as its bundle says
abbrev pub HasItsPorts : AppPart → Type 0
HasItsPorts p = length p.state.ports ≡ length p.part.ports
