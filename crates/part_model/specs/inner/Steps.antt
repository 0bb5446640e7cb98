-- The steps of a part's cycles: what stands at pc, what it costs, and the part after its effect.
use Rattle.std.specs.Prelude.{ℕ, Option, Result, Ok, Err}
use Rattle.soc_base.specs.declared.cause.Cause.{Cause}
use Rattle.platform_model.specs.declared.costs.Costs.{Costs}
use Rattle.rv_core.specs.declared.instr.Instr.{Instr}
use Rattle.rv_core.specs.Registers.{Registers}
use Rattle.cycle_table.specs.Cost.{cost_of_instr}
use Rattle.tile_memory.specs.Bytes.{fetch_of}
use Rattle.part_model.specs.declared.record.Place.{Place}
use Rattle.part_model.specs.Running.{due_of, effect_with}
use Rattle.part_model.specs.Part.{PartState, part_bus, bus_of, settled}

-- what the thing at pc costs: 1 where there is no instruction
abbrev pub cost_with : Costs → Registers → Result Instr Cause → ℕ
cost_with costs regs (Err cause) = 1
cost_with costs regs (Ok instr) = cost_of_instr costs regs instr

-- the word at a part's pc
abbrev pub word_at_pc : PartState → Option ℕ
word_at_pc p = fetch_of p.bytes p.regs.pc

-- how many cycles the instruction at a part's pc needs still
abbrev pub due_in : Costs → PartState → ℕ
due_in costs p = due_of costs p.regs p.left (word_at_pc p)

-- the part after the cycle in which what stands at its pc had its effect
abbrev pub completed : Place → ℕ → PartState → Result Instr Cause → PartState
completed place cycle p here = settled place cycle p.regs.pc (effect_with part_bus p.regs (bus_of place cycle p) here)
