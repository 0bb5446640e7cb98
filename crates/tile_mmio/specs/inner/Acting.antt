-- What a part does on its bus in a cycle.
use Rattle.std.specs.Prelude.{ℕ, List, Result}
use Rattle.std.specs.Borrow.{GName}
use Rattle.soc_base.specs.declared.region.Region.{Region}
use Rattle.soc_base.specs.declared.cause.Cause.{Cause}
use Rattle.rv_core.specs.declared.instr.Instr.{Instr}
use Rattle.part_model.specs.declared.record.Place.{Place}
use Rattle.part_model.specs.Answers.{BusState}
use Rattle.part_model.specs.Running.{CycleEnd, effect_with}
use Rattle.part_model.specs.Part.{part_bus}
use Rattle.tile_mmio.specs.State.{bus_on}
use Rattle.tile_mmio.specs.Part.{rest_of}
use Rattle.tile_mmio.specs.declared.run.PartOnTile.{PartOnTile}

-- the bus of a part on its tile, in a cycle
abbrev pub bus_in : PartOnTile → Place → ℕ → BusState
bus_in p place cycle =
    bus_on p.memory.now p.region p.ports.now p.map.now p.log.now place.tile place.kinds cycle

-- the effect of what stands at the part's pc
abbrev pub acted : PartOnTile → Place → ℕ → Result Instr Cause → CycleEnd BusState
acted p place cycle here = effect_with part_bus p.regs.now (bus_in p place cycle) here

-- the rest of its tile, but for the other ports
abbrev pub fixed_of : PartOnTile → (GName × GName × GName × GName × GName) × Region × List ℕ × List ℕ × ℕ × List ℕ
fixed_of p = let rest = rest_of p in (rest.0, rest.1, rest.2, rest.3, rest.4, rest.5)
