-- What a part's bus answers: memory below the device registers, and from there on TRACE, CYCLE and
-- CYCLEH, and then four registers for each port of the network interface that the part has.
use Rattle.std.specs.Prelude.{ℕ, ◌+◌, ◌-◌, ◌/◌, ◌%◌, ◌^◌, ◌==◌, List, length, nat_lt, slice_get, slice_set, if◌then◌else◌, Option, Some, None, option_map, Result, Ok, Err}
use Rattle.std.specs.Option.{option_and_then}
use Rattle.soc_base.specs.declared.region.Width.{Width}
use Rattle.soc_base.specs.declared.region.Width.TheVariants.{Byte, Half, Word}
use Rattle.soc_base.specs.declared.cause.Cause.{Cause}
use Rattle.soc_base.specs.declared.cause.Cause.TheVariants.{Align, Access}
use Rattle.soc_base.specs.Widths.{width_bytes}
use Rattle.soc_base.specs.Port.{PortState, put, take_word}
use Rattle.ni_port.specs.SizedPort.{SizedPort, in_state}
use Rattle.rv_core.specs.declared.bus.Answer.{Answer}
use Rattle.rv_core.specs.declared.bus.Answer.TheVariants.{Done, Stall, Fault}
use Rattle.tile_memory.specs.declared.memory.MemFault.{MemFault}
use Rattle.tile_memory.specs.declared.memory.MemFault.TheVariants.{Align as Misaligned, Outside}
use Rattle.tile_memory.specs.Bytes.{fetch_of, load_of, refusal_of, stored_bytes}
use Rattle.trace_log.specs.declared.row.Kind.{Kind}
use Rattle.trace_log.specs.declared.row.Kind.TheVariants.{Word as TraceWord, Send, Recv}
use Rattle.trace_log.specs.Kinds.{has_kind}
use Rattle.trace_log.specs.Log.{Log, logged}
use Rattle.cycle_table.specs.declared.table.TheConstants.{DEVICE_BASE}
use Rattle.part_model.specs.declared.device.TheConstants.{TRACE, CYCLE, CYCLEH, SEND, RECV, ROOM, FILL, PORT_BYTES}
use Rattle.part_model.specs.declared.record.Place.{Place}

-- what a part's bus holds in one cycle: the bytes of the part's region; the ports of its tile, and the
-- numbers of those that are the part's, in its own order; its log, its tile and the kinds of rows that it
-- names; and the cycle
pub record BusState : Type 0 where
  pub bytes : List ℕ
  pub ports : List SizedPort
  pub numbers : List ℕ
  pub log : Log
  pub place : Place
  pub cycle : ℕ

-- a row of the log, where the part names its kind
abbrev pub traced : Place → ℕ → Kind → ℕ → Log → Log
traced place cycle kind value log =
    if has_kind place.kinds kind
    then logged (record { cycle = cycle; value = value; tile = place.tile; kind = kind }) log
    else log

-- the word at pc, where its four bytes are in the region
abbrev pub fetch_answer : BusState → ℕ → Option ℕ
fetch_answer b pc = fetch_of b.bytes pc

-- the cause of a refused access
abbrev pub cause_of : MemFault → Cause
cause_of Misaligned = Align
cause_of Outside = Access

-- what the memory's answer to a load is to the part
abbrev pub memory_answer : Result ℕ MemFault → Answer
memory_answer (Ok value) = Done value
memory_answer (Err fault) = Fault (cause_of fault)

-- a port of the part, and its number on the tile
pub record NumberedPort : Type 0 where
  pub number : ℕ
  pub port : SizedPort

-- the port whose registers an address from SEND on is among: the part's own ports have PORT_BYTES each, in
-- the part's order
abbrev pub port_at : BusState → ℕ → Option NumberedPort
port_at b addr =
    option_and_then (λ number. option_map (λ port. record { number = number; port = port }) (slice_get b.ports number))
    (slice_get b.numbers ((addr - SEND) / PORT_BYTES))

-- which of a port's registers the address is, as the address of this register of the part's first port
abbrev pub register_of : ℕ → ℕ
register_of addr = SEND + (addr - SEND) % PORT_BYTES

-- the bus with a port in another state
abbrev pub with_port : BusState → NumberedPort → PortState → BusState
with_port b p state = record b { ports = slice_set b.ports p.number (in_state p.port state) }

-- a load from RECV: the oldest word that the port received, which writes a row of kind `recv`; it stalls
-- where there is none
abbrev pub received : BusState → NumberedPort → Option (ℕ × PortState) → Answer × BusState
received b p None = (Stall, b)
received b p (Some taken) =
    (Done taken.0, record (with_port b p taken.1) { log = traced b.place b.cycle Recv taken.0 b.log })

-- a load from a register of a port: RECV; ROOM, how many words the send queue has places for; FILL, how
-- many words were received
abbrev pub port_load : BusState → ℕ → Option NumberedPort → Answer × BusState
port_load b register None = (Fault Access, b)
port_load b register (Some p) =
    if register == RECV then received b p (take_word p.port.port)
    else if register == ROOM then (Done (p.port.queue - length p.port.port.send), b)
    else if register == FILL then (Done (length p.port.port.recv), b)
    else (Fault Access, b)

-- the device registers that are loaded, each as a word: the low and the high word of the cycle, and those
-- of ports
abbrev pub register_load : BusState → ℕ → Width → Answer × BusState
register_load b addr Byte = (Fault Access, b)
register_load b addr Half = (Fault Access, b)
register_load b addr Word =
    if addr == CYCLE then (Done (b.cycle % 2 ^ 32), b)
    else if addr == CYCLEH then (Done (b.cycle / 2 ^ 32), b)
    else if nat_lt addr SEND then (Fault Access, b)
    else port_load b (register_of addr) (port_at b addr)

-- what a load from the device registers answers
abbrev pub device_load : BusState → ℕ → Width → Answer × BusState
device_load b addr width =
    if addr % width_bytes width == 0 then register_load b addr width else (Fault Align, b)

-- what a load answers, and the bus after it; alignment is judged before access
unfoldable pub load_answer : BusState → ℕ → Width → Answer × BusState
load_answer b addr width =
    if nat_lt addr DEVICE_BASE then (memory_answer (load_of b.bytes addr width), b) else device_load b addr width

-- a store to the region, by what it is refused for
abbrev pub memory_store : Option MemFault → BusState → ℕ → Width → ℕ → Answer × BusState
memory_store None b addr width value = (Done 0, record b { bytes = stored_bytes b.bytes addr width value })
memory_store (Some fault) b addr width value = (Fault (cause_of fault), b)

-- a store to SEND: the word joins the port's send queue, and writes a row of kind `send`; it stalls where
-- the queue is full
abbrev pub sent : BusState → NumberedPort → ℕ → Option PortState → Answer × BusState
sent b p word None = (Stall, b)
sent b p word (Some after) =
    (Done 0, record (with_port b p after) { log = traced b.place b.cycle Send word b.log })

-- a store to a register of a port: SEND
abbrev pub port_store : BusState → ℕ → ℕ → Option NumberedPort → Answer × BusState
port_store b register value None = (Fault Access, b)
port_store b register value (Some p) =
    if register == SEND then sent b p value (put p.port.queue value p.port.port) else (Fault Access, b)

-- the device registers that are stored to, each as a word: TRACE, which writes a row of kind `word`, and
-- those of ports
abbrev pub register_store : BusState → ℕ → Width → ℕ → Answer × BusState
register_store b addr Byte value = (Fault Access, b)
register_store b addr Half value = (Fault Access, b)
register_store b addr Word value =
    if addr == TRACE then (Done 0, record b { log = traced b.place b.cycle TraceWord value b.log })
    else if nat_lt addr SEND then (Fault Access, b)
    else port_store b (register_of addr) value (port_at b addr)

-- a store to the device registers
abbrev pub device_store : BusState → ℕ → Width → ℕ → Answer × BusState
device_store b addr width value =
    if addr % width_bytes width == 0 then register_store b addr width value else (Fault Align, b)

-- what a store answers, and the bus after it
unfoldable pub store_answer : BusState → ℕ → Width → ℕ → Answer × BusState
store_answer b addr width value =
    if nat_lt addr DEVICE_BASE then memory_store (refusal_of (length b.bytes) addr width) b addr width value
    else device_store b addr width value
