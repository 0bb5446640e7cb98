-- What the stores, the rows and the end of a part keep, its cycles keep.
use Rattle.std.proofs.Common.{◌≡◌, ℕ, ◌%◌, ◌/◌, ◌-◌, Bool, true, false, cond, nat_lt, ◌==◌, List, length, slice_get, slice_set, Option, Some, None, option_map, Result, Ok, Err, zero, suc, ◌+◌, ◌≤◌, ◌∙◌, refl, sym, ap, arith}
use Rattle.std.specs.Option.{option_and_then}
use Rattle.std.proofs.lemmas.Option.{none-some, same_Some}
use Rattle.soc_base.specs.Port.{PortState, put, take_word}
use Rattle.ni_port.specs.SizedPort.{SizedPort, in_state}
use Rattle.std.proofs.lemmas.Bool.Decides.{nat_tests}
use Rattle.soc_base.specs.Steps.{after_steps}
use Rattle.soc_base.specs.declared.region.Width.{Width}
use Rattle.soc_base.specs.declared.region.Width.TheVariants.{Byte, Half, Word}
use Rattle.soc_base.specs.declared.cause.Cause.{Cause}
use Rattle.soc_base.specs.Widths.{width_bytes}
use Rattle.platform_model.specs.declared.costs.Costs.{Costs}
use Rattle.rv_core.specs.declared.bus.Answer.{Answer}
use Rattle.rv_core.specs.declared.instr.Instr.{Instr}
use Rattle.rv_core.specs.declared.execution.Outcome.{Outcome}
use Rattle.rv_core.specs.declared.execution.Outcome.TheVariants.{Next, Stall, Halt, Fault}
use Rattle.rv_core.specs.Registers.{Registers}
use Rattle.rv_core.specs.Effect.{Request, request_of, ask}
use Rattle.rv_core.specs.Effect.Request.{Nothing, LoadFrom, StoreTo}
use Rattle.tile_memory.specs.declared.memory.MemFault.{MemFault}
use Rattle.tile_memory.specs.Bytes.{refusal_of, stored_bytes}
use Rattle.tile_memory.proofs.Laws.{length-stored_bytes}
use Rattle.trace_log.specs.declared.row.TraceRow.{TraceRow}
use Rattle.trace_log.specs.declared.row.Kind.{Kind}
use Rattle.trace_log.specs.declared.row.Kind.TheVariants.{Word as TraceWord, Send, Recv, Step}
use Rattle.trace_log.specs.declared.row.PartEnd.{PartEnd}
use Rattle.trace_log.specs.declared.row.PartEnd.TheVariants.{Live, Halt as Halted, Fault as Faulted}
use Rattle.trace_log.specs.Kinds.{has_kind}
use Rattle.trace_log.specs.Log.{Log, logged, finished}
use Rattle.part_model.specs.declared.record.Place.{Place}
use Rattle.cycle_table.specs.declared.table.TheConstants.{DEVICE_BASE}
use Rattle.part_model.specs.declared.device.TheConstants.{TRACE, CYCLE, CYCLEH, SEND, RECV, ROOM, FILL, PORT_BYTES}
use Rattle.part_model.specs.Answers.{BusState, NumberedPort, traced, port_at, register_of, received, port_load, register_load, load_answer, sent, port_store, register_store, store_answer, memory_store}
use Rattle.part_model.specs.Running.{CycleEnd, running_cycle, effect_with, instr_of}
use Rattle.part_model.specs.Part.{PartState, part_bus, bus_of, log_after, unless_ended, part_cycle}

-- a property of a part's bytes, ports and log that is kept by each store that is done, each word that is
-- put or taken, each row and each end
pub record IsKept (K : List ℕ → List SizedPort → Log → Type 0) : Type 0 where
  pub store : (bytes : List ℕ) (ports : List SizedPort) (log : Log) (addr : ℕ) (width : Width) (value : ℕ) → refusal_of (length bytes) addr width ≡ None → K bytes ports log → K (stored_bytes bytes addr width value) ports log
  pub put : (bytes : List ℕ) (ports : List SizedPort) (log : Log) (number : ℕ) (port : SizedPort) (word : ℕ) (after : PortState) → slice_get ports number ≡ Some port → put port.queue word port.port ≡ Some after → K bytes ports log → K bytes (slice_set ports number (in_state port after)) log
  pub take : (bytes : List ℕ) (ports : List SizedPort) (log : Log) (number : ℕ) (port : SizedPort) (taken : ℕ × PortState) → slice_get ports number ≡ Some port → take_word port.port ≡ Some taken → K bytes ports log → K bytes (slice_set ports number (in_state port taken.1)) log
  pub row : (bytes : List ℕ) (ports : List SizedPort) (log : Log) (row : TraceRow) → K bytes ports log → K bytes ports (logged row log)
  pub end : (bytes : List ℕ) (ports : List SizedPort) (log : Log) (end : PartEnd) → K bytes ports log → K bytes ports (finished end log)

either : {X : Type 0} (P : X → Type 0) (b : Bool) (x y : X) → P x → P y → P (cond b x y)
either P true x y p q = p
either P false x y p q = q

-- the property, of what a bus holds after an answer
after_answer : (List ℕ → List SizedPort → Log → Type 0) → Answer × BusState → Type 0
after_answer K answered = K answered.1.bytes answered.1.ports answered.1.log

traced_keeps : (K : List ℕ → List SizedPort → Log → Type 0) → IsKept K → (place : Place) (cycle : ℕ) (kind : Kind) (value : ℕ)
    (bytes : List ℕ) (ports : List SizedPort) (log : Log) → K bytes ports log → K bytes ports (traced place cycle kind value log)
traced_keeps K kept place cycle kind value bytes ports log holds =
    either (K bytes ports) (has_kind place.kinds kind) _ log (kept.row bytes ports log _ holds) holds

after_keeps : (K : List ℕ → List SizedPort → Log → Type 0) → IsKept K → (place : Place) (cycle pc : ℕ) (outcome : Option Outcome)
    (bytes : List ℕ) (ports : List SizedPort) (log : Log) → K bytes ports log → K bytes ports (log_after place cycle pc outcome log)
after_keeps K kept place cycle pc None bytes ports log holds = holds
after_keeps K kept place cycle pc (Some Next) bytes ports log holds = traced_keeps K kept place cycle Step pc bytes ports log holds
after_keeps K kept place cycle pc (Some Stall) bytes ports log holds = holds
after_keeps K kept place cycle pc (Some (Halt code)) bytes ports log holds =
    kept.end bytes ports _ (Halted code cycle) (traced_keeps K kept place cycle Step pc bytes ports log holds)
after_keeps K kept place cycle pc (Some (Fault cause)) bytes ports log holds = kept.end bytes ports log (Faulted cause cycle) holds

memory_keeps : (K : List ℕ → List SizedPort → Log → Type 0) → IsKept K → (refused : Option MemFault) (b : BusState) (addr : ℕ)
    (width : Width) (value : ℕ) → refusal_of (length b.bytes) addr width ≡ refused → K b.bytes b.ports b.log
    → after_answer K (memory_store refused b addr width value)
unfolding after_answer
memory_keeps K kept None b addr width value e holds = kept.store b.bytes b.ports b.log addr width value e holds
memory_keeps K kept (Some fault) b addr width value e holds = holds

-- the port of an address is the tile's port of its number
pub port_at_number : (b : BusState) (addr : ℕ) (p : NumberedPort) → port_at b addr ≡ Some p → slice_get b.ports p.number ≡ Some p.port
port_at_number b addr p at = by (slice_get b.numbers ((addr - SEND) / PORT_BYTES)) at
  where
    port : (number : ℕ) (found : Option SizedPort) → slice_get b.ports number ≡ found
        → option_map (λ port. record { number = number; port = port }) found ≡ Some p → slice_get b.ports p.number ≡ Some p.port
    port number None is none = absurd (none-some p none)
    port number (Some found) is same =
        let e = same_Some (record { number = number; port = found }) p same in
        ap (λ (q : NumberedPort). slice_get b.ports q.number) (sym e) ∙ is ∙ ap (λ (q : NumberedPort). Some q.port) e

    by : (number : Option ℕ) → option_and_then (λ number. option_map (λ port. record { number = number; port = port }) (slice_get b.ports number)) number ≡ Some p
        → slice_get b.ports p.number ≡ Some p.port
    by None none = absurd (none-some p none)
    by (Some number) same = port number (slice_get b.ports number) refl same

sent_keeps : (K : List ℕ → List SizedPort → Log → Type 0) → IsKept K → (b : BusState) (p : NumberedPort) (value : ℕ)
    (after : Option PortState) → slice_get b.ports p.number ≡ Some p.port → put p.port.queue value p.port.port ≡ after
    → K b.bytes b.ports b.log → after_answer K (sent b p value after)
unfolding after_answer
sent_keeps K kept b p value None there done holds = holds
sent_keeps K kept b p value (Some after) there done holds =
    traced_keeps K kept b.place b.cycle Send value b.bytes _ b.log (kept.put b.bytes b.ports b.log p.number p.port value after there done holds)

received_keeps : (K : List ℕ → List SizedPort → Log → Type 0) → IsKept K → (b : BusState) (p : NumberedPort)
    (taken : Option (ℕ × PortState)) → slice_get b.ports p.number ≡ Some p.port → take_word p.port.port ≡ taken
    → K b.bytes b.ports b.log → after_answer K (received b p taken)
unfolding after_answer
received_keeps K kept b p None there done holds = holds
received_keeps K kept b p (Some taken) there done holds =
    traced_keeps K kept b.place b.cycle Recv taken.0 b.bytes _ b.log (kept.take b.bytes b.ports b.log p.number p.port taken there done holds)

port_store_keeps : (K : List ℕ → List SizedPort → Log → Type 0) → IsKept K → (b : BusState) (addr value : ℕ) (at : Option NumberedPort)
    → port_at b addr ≡ at → K b.bytes b.ports b.log → after_answer K (port_store b (register_of addr) value at)
unfolding after_answer
port_store_keeps K kept b addr value None is holds = holds
port_store_keeps K kept b addr value (Some p) is holds =
    either (after_answer K) (register_of addr == SEND) _ _ (sent_keeps K kept b p value (put p.port.queue value p.port.port) (port_at_number b addr p is) refl holds) holds

port_load_keeps : (K : List ℕ → List SizedPort → Log → Type 0) → IsKept K → (b : BusState) (addr : ℕ) (at : Option NumberedPort)
    → port_at b addr ≡ at → K b.bytes b.ports b.log → after_answer K (port_load b (register_of addr) at)
unfolding after_answer
port_load_keeps K kept b addr None is holds = holds
port_load_keeps K kept b addr (Some p) is holds =
    either (after_answer K) (register_of addr == RECV) _ _ (received_keeps K kept b p (take_word p.port.port) (port_at_number b addr p is) refl holds)
    (either (after_answer K) (register_of addr == ROOM) _ _ holds (either (after_answer K) (register_of addr == FILL) _ _ holds holds))

register_store_keeps : (K : List ℕ → List SizedPort → Log → Type 0) → IsKept K → (b : BusState) (addr : ℕ) (width : Width) (value : ℕ)
    → K b.bytes b.ports b.log → after_answer K (register_store b addr width value)
unfolding after_answer
register_store_keeps K kept b addr Byte value holds = holds
register_store_keeps K kept b addr Half value holds = holds
register_store_keeps K kept b addr Word value holds =
    either (after_answer K) (addr == TRACE) _ _ (traced_keeps K kept b.place b.cycle TraceWord value b.bytes b.ports b.log holds)
    (either (after_answer K) (nat_lt addr SEND) _ _ holds (port_store_keeps K kept b addr value (port_at b addr) refl holds))

register_load_keeps : (K : List ℕ → List SizedPort → Log → Type 0) → IsKept K → (b : BusState) (addr : ℕ) (width : Width)
    → K b.bytes b.ports b.log → after_answer K (register_load b addr width)
unfolding after_answer
register_load_keeps K kept b addr Byte holds = holds
register_load_keeps K kept b addr Half holds = holds
register_load_keeps K kept b addr Word holds =
    either (after_answer K) (addr == CYCLE) _ _ holds
    (either (after_answer K) (addr == CYCLEH) _ _ holds
    (either (after_answer K) (nat_lt addr SEND) _ _ holds (port_load_keeps K kept b addr (port_at b addr) refl holds)))

store_keeps : (K : List ℕ → List SizedPort → Log → Type 0) → IsKept K → (b : BusState) (addr : ℕ) (width : Width) (value : ℕ)
    → K b.bytes b.ports b.log → after_answer K (store_answer b addr width value)
unfolding after_answer store_answer
store_keeps K kept b addr width value holds =
    either (after_answer K) (nat_lt addr DEVICE_BASE) _ _
    (memory_keeps K kept (refusal_of (length b.bytes) addr width) b addr width value refl holds)
    (either (after_answer K) (addr % width_bytes width == 0) _ _ (register_store_keeps K kept b addr width value holds) holds)

load_keeps : (K : List ℕ → List SizedPort → Log → Type 0) → IsKept K → (b : BusState) (addr : ℕ) (width : Width)
    → K b.bytes b.ports b.log → after_answer K (load_answer b addr width)
unfolding after_answer load_answer
load_keeps K kept b addr width holds =
    either (after_answer K) (nat_lt addr DEVICE_BASE) _ _ holds
    (either (after_answer K) (addr % width_bytes width == 0) _ _ (register_load_keeps K kept b addr width holds) holds)

ask_keeps : (K : List ℕ → List SizedPort → Log → Type 0) → IsKept K → (request : Request) (b : BusState) → K b.bytes b.ports b.log
    → after_answer K (ask part_bus request b)
unfolding after_answer
ask_keeps K kept Nothing b holds = holds
ask_keeps K kept (LoadFrom addr width) b holds = load_keeps K kept b addr width holds
ask_keeps K kept (StoreTo addr width value) b holds = store_keeps K kept b addr width value holds

-- the property, of what a bus holds after a running cycle
after_end : (List ℕ → List SizedPort → Log → Type 0) → CycleEnd BusState → Type 0
after_end K end = K end.bus.bytes end.bus.ports end.bus.log

effect_keeps : (K : List ℕ → List SizedPort → Log → Type 0) → IsKept K → (regs : Registers) (b : BusState)
    (here : Result Instr Cause) → K b.bytes b.ports b.log → after_end K (effect_with part_bus regs b here)
unfolding after_end after_answer
effect_keeps K kept regs b (Err cause) holds = holds
effect_keeps K kept regs b (Ok instr) holds = ask_keeps K kept (request_of regs instr) b holds

running_keeps : (K : List ℕ → List SizedPort → Log → Type 0) → IsKept K → (costs : Costs) (regs : Registers) (left : ℕ)
    (b : BusState) → K b.bytes b.ports b.log → after_end K (running_cycle part_bus costs regs left b)
unfolding after_end running_cycle
running_keeps K kept costs regs left b holds =
    either (after_end K) _ _ _ holds (effect_keeps K kept regs b (instr_of (part_bus.fetch b regs.pc)) holds)

unless_keeps : (K : List ℕ → List SizedPort → Log → Type 0) (end : PartEnd) (p next : PartState) → K p.bytes p.ports p.log
    → K next.bytes next.ports next.log → K (unless_ended end p next).bytes (unless_ended end p next).ports (unless_ended end p next).log
unless_keeps K Live p next before after = after
unless_keeps K (Halted code cycle) p next before after = before
unless_keeps K (Faulted cause cycle) p next before after = before

-- what stores, rows and ends keep, a cycle keeps
pub cycle_keeps : (K : List ℕ → List SizedPort → Log → Type 0) → IsKept K → (costs : Costs) (place : Place) (cycle : ℕ)
    (p : PartState) → K p.bytes p.ports p.log
    → K (part_cycle costs place cycle p).bytes (part_cycle costs place cycle p).ports (part_cycle costs place cycle p).log
unfolding after_end part_cycle
cycle_keeps K kept costs place cycle p holds =
    let ran = running_cycle part_bus costs p.regs p.left (bus_of place cycle p) in
    unless_keeps K p.log.end p _ holds (after_keeps K kept place cycle p.regs.pc ran.outcome ran.bus.bytes ran.bus.ports ran.bus.log (running_keeps K kept costs p.regs p.left (bus_of place cycle p) holds))

-- a store that isn't refused has its bytes in the region
not_refused : (len addr : ℕ) (width : Width) → refusal_of len addr width ≡ None → addr + width_bytes width ≤ len
not_refused len addr width none = grind (arith, nat_tests)

size_kept : (n : ℕ) → IsKept (λ bytes ports log. length bytes ≡ n)
size_kept n = record {
  store = λ bytes ports log addr width value done size. length-stored_bytes bytes addr width value (not_refused (length bytes) addr width done) ∙ size;
  row = λ bytes ports log row size. size;
  end = λ bytes ports log end size. size;
  put = λ bytes ports log n port word after there done size. size;
  take = λ bytes ports log n port taken there done size. size;
}

-- a part keeps the number of its region's bytes
pub cycle_size : (costs : Costs) (place : Place) (cycle : ℕ) (p : PartState)
    → length (part_cycle costs place cycle p).bytes ≡ length p.bytes
cycle_size costs place cycle p = cycle_keeps (λ bytes ports log. length bytes ≡ length p.bytes) (size_kept (length p.bytes)) costs place cycle p refl

pub stretch_size : (costs : Costs) (place : Place) (from n : ℕ) (p : PartState)
    → length (after_steps (part_cycle costs place) from n p).bytes ≡ length p.bytes
unfolding after_steps
stretch_size costs place from zero p = refl
stretch_size costs place from (suc n) p =
    cycle_size costs place (from + n) (after_steps (part_cycle costs place) from n p) ∙ stretch_size costs place from n p
