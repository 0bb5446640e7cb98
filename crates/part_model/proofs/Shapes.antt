-- A part keeps 32 registers, of which x0 is zero.
use Rattle.std.proofs.Common.{ℕ, Bool, true, false, cond, Result, Ok, Err}
use Rattle.soc_base.specs.declared.cause.Cause.{Cause}
use Rattle.platform_model.specs.declared.costs.Costs.{Costs}
use Rattle.rv_core.specs.declared.instr.Instr.{Instr}
use Rattle.rv_core.specs.Registers.{Registers}
use Rattle.rv_core.proofs.Laws.{IsShape, effect_shape}
use Rattle.trace_log.specs.declared.row.PartEnd.{PartEnd}
use Rattle.trace_log.specs.declared.row.PartEnd.TheVariants.{Live, Halt, Fault}
use Rattle.part_model.specs.declared.record.Place.{Place}
use Rattle.part_model.specs.Answers.{BusState}
use Rattle.part_model.specs.Running.{CycleEnd, running_cycle, effect_with, instr_of}
use Rattle.part_model.specs.Part.{PartState, part_bus, bus_of, unless_ended, part_cycle}

either_shape : (b : Bool) (x y : CycleEnd BusState) → IsShape x.regs → IsShape y.regs → IsShape (cond b x y).regs
either_shape true x y p q = p
either_shape false x y p q = q

with_shape : (regs : Registers) (b : BusState) (here : Result Instr Cause) → IsShape regs
    → IsShape (effect_with part_bus regs b here).regs
with_shape regs b (Err cause) shape = shape
with_shape regs b (Ok instr) shape = effect_shape regs instr _ shape

running_shape : (costs : Costs) (regs : Registers) (left : ℕ) (b : BusState) → IsShape regs
    → IsShape (running_cycle part_bus costs regs left b).regs
unfolding running_cycle
running_shape costs regs left b shape =
    either_shape _ _ _ shape (with_shape regs b (instr_of (part_bus.fetch b regs.pc)) shape)

unless_shape : (end : PartEnd) (p next : PartState) → IsShape p.regs → IsShape next.regs
    → IsShape (unless_ended end p next).regs
unless_shape Live p next was now = now
unless_shape (Halt code cycle) p next was now = was
unless_shape (Fault cause cycle) p next was now = was

-- a cycle keeps the shape of the registers
pub cycle_registers : (costs : Costs) (place : Place) (cycle : ℕ) (p : PartState) → IsShape p.regs
    → IsShape (part_cycle costs place cycle p).regs
unfolding part_cycle
cycle_registers costs place cycle p shape =
    unless_shape p.log.end p _ shape (running_shape costs p.regs p.left (bus_of place cycle p) shape)
