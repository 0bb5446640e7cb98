-- A part of an application, cycle by cycle.
use Rattle.std.specs.Prelude.{ℕ, List, length, Option, Some, None}
use Rattle.std.specs.List.{range_with_len}
use Rattle.platform_model.specs.declared.costs.Costs.{Costs}
use Rattle.ni_port.specs.SizedPort.{SizedPort}
use Rattle.rv_core.specs.declared.execution.Outcome.{Outcome}
use Rattle.rv_core.specs.declared.execution.Outcome.TheVariants.{Next, Stall, Halt, Fault}
use Rattle.rv_core.specs.Registers.{Registers}
use Rattle.rv_core.specs.Access.{BusMeaning}
use Rattle.trace_log.specs.declared.row.Kind.TheVariants.{Step}
use Rattle.trace_log.specs.declared.row.PartEnd.{PartEnd}
use Rattle.trace_log.specs.declared.row.PartEnd.TheVariants.{Live, Halt as Halted, Fault as Faulted}
use Rattle.trace_log.specs.Log.{Log, finished}
use Rattle.part_model.specs.declared.record.Place.{Place}
use Rattle.part_model.specs.Running.{CycleEnd, running_cycle}
use Rattle.part_model.specs.Answers.{BusState, fetch_answer, load_answer, store_answer, traced}

-- how a part's bus answers
abbrev pub part_bus : BusMeaning BusState
part_bus = record { fetch = fetch_answer; load = load_answer; store = store_answer }

-- what a part is between two cycles: its registers, the cycles left of the instruction that it executes
-- (0 where it begins none), the bytes of its region, its ports in the order of its list, and its log, which
-- holds also how it stands
pub record PartState : Type 0 where
  pub regs : Registers
  pub left : ℕ
  pub bytes : List ℕ
  pub ports : List SizedPort
  pub log : Log

-- the part's bus in a cycle: it has the part's ports and no other
abbrev pub bus_of : Place → ℕ → PartState → BusState
bus_of place cycle p = record {
  bytes = p.bytes;
  ports = p.ports;
  numbers = range_with_len 0 (length p.ports);
  log = p.log;
  place = place;
  cycle = cycle;
}

-- the log after a cycle in which the instruction at pc came to an outcome: a row of kind `step` for each
-- instruction that was completed, after any other row of the cycle, and the end of a part that ended
abbrev pub log_after : Place → ℕ → ℕ → Option Outcome → Log → Log
log_after place cycle pc None log = log
log_after place cycle pc (Some Next) log = traced place cycle Step pc log
log_after place cycle pc (Some Stall) log = log
log_after place cycle pc (Some (Halt code)) log = finished (Halted code cycle) (traced place cycle Step pc log)
log_after place cycle pc (Some (Fault cause)) log = finished (Faulted cause cycle) log

-- the part after a running cycle that ended so
abbrev pub settled : Place → ℕ → ℕ → CycleEnd BusState → PartState
settled place cycle pc end = record {
  regs = end.regs;
  left = end.left;
  bytes = end.bus.bytes;
  ports = end.bus.ports;
  log = log_after place cycle pc end.outcome end.bus.log;
}

-- the part after a cycle in which it runs, where it hasn't ended
abbrev pub live_cycle : Costs → Place → ℕ → PartState → PartState
live_cycle costs place cycle p =
    settled place cycle p.regs.pc (running_cycle part_bus costs p.regs p.left (bus_of place cycle p))

-- a part that has ended stays as it is
abbrev pub unless_ended : PartEnd → PartState → PartState → PartState
unless_ended Live p next = next
unless_ended (Halted code cycle) p next = p
unless_ended (Faulted cause cycle) p next = p

-- the part after a cycle in which it runs; a part that has ended does nothing
unfoldable pub part_cycle : Costs → Place → ℕ → PartState → PartState
part_cycle costs place cycle p = unless_ended p.log.end p (live_cycle costs place cycle p)
