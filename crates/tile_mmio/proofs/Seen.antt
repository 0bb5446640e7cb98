-- A part that has its ports among those of its tile is answered as if it had them alone.
use Rattle.std.proofs.Common.{◌≡◌, ℕ, ◌-◌, ◌/◌, ◌%◌, ◌<◌, ◌≤◌, ◌==◌, ⊎_elim, Bool, true, false, cond, nat_lt, List, length, get_or, slice_get, slice_set, Option, Some, None, option_map, Result, Ok, Err, refl, sym, ap, ◌∙◌, arith}
use Rattle.std.specs.List.{range_with_len}
use Rattle.std.specs.Option.{option_and_then}
use Rattle.std.proofs.lemmas.List.FromFn.{length-range_with_len, get_or-range_with_len}
use Rattle.std.proofs.lemmas.Option.{none-some, same_Some, slice_get_within, slice_get-get_or, get_or_from_slice_get, slice_get_past}
use Rattle.std.proofs.lemmas.Bool.{cases_lt}
use Rattle.soc_base.specs.declared.region.Width.{Width}
use Rattle.soc_base.specs.declared.region.Width.TheVariants.{Byte, Half, Word}
use Rattle.soc_base.specs.declared.cause.Cause.{Cause}
use Rattle.soc_base.specs.declared.cause.Cause.TheVariants.{Align}
use Rattle.soc_base.specs.Port.{PortState, put, take_word}
use Rattle.soc_base.specs.Widths.{width_bytes}
use Rattle.ni_port.specs.SizedPort.{SizedPort, in_state}
use Rattle.rv_core.specs.declared.bus.Answer.{Answer}
use Rattle.rv_core.specs.declared.bus.Answer.TheVariants.{Done, Fault}
use Rattle.rv_core.specs.declared.instr.Instr.{Instr}
use Rattle.rv_core.specs.declared.execution.Outcome.{Outcome}
use Rattle.rv_core.specs.Registers.{Registers}
use Rattle.rv_core.specs.Effect.{Request, request_of, effect_of, ask}
use Rattle.rv_core.specs.Effect.Request.{Nothing, LoadFrom, StoreTo}
use Rattle.tile_memory.specs.declared.memory.MemFault.{MemFault}
use Rattle.tile_memory.specs.Bytes.{load_of, refusal_of}
use Rattle.trace_log.specs.declared.row.Kind.TheVariants.{Send, Recv}
use Rattle.trace_log.specs.Log.{Log}
use Rattle.part_model.specs.declared.device.TheConstants.{TRACE, CYCLE, CYCLEH, SEND, RECV, ROOM, FILL, PORT_BYTES}
use Rattle.part_model.specs.Answers.{BusState, NumberedPort, traced, register_of, received, port_load, register_load, load_answer, memory_answer, memory_store, sent, port_store, register_store, store_answer}
use Rattle.part_model.specs.Running.{CycleEnd, ended, left_after, effect_with}
use Rattle.part_model.specs.Part.{part_bus}
use Rattle.tile_mmio.specs.Ports.{no_port, own_ports, other_ports, AreOwn}
use Rattle.tile_mmio.proofs.Own.{length-own_ports, own_at, own_set, others_kept}

-- a bus that has these ports and no other
unfoldable pub with_own : BusState → List SizedPort → BusState
with_own b own = record b { ports = own; numbers = range_with_len 0 (length own) }

-- the part's own bus
unfoldable pub seen : BusState → BusState
unfolding with_own
seen b = with_own b (own_ports b.ports b.numbers)

-- an answer, and the part's own bus after it
pub seen_answer : Answer × BusState → Answer × BusState
seen_answer answered = (answered.0, seen answered.1)

-- What the part's own bus and the tile's answer to one access: the same, and the tile's bus is then, as the
-- part sees it, the part's own. The part's numbers and the tile's other ports are as they were.
pub record IsSeen (b : BusState) (own tile : Answer × BusState) : Type 0 where
  pub answered : own ≡ seen_answer tile
  pub numbers : tile.1.numbers ≡ b.numbers
  pub others : other_ports tile.1.ports b.numbers ≡ other_ports b.ports b.numbers

-- an access that changes nothing
unchanged : (b : BusState) (answer : Answer) → IsSeen b (answer, seen b) (answer, b)
unfolding seen_answer
unchanged b answer = record { answered = refl; numbers = refl; others = refl }

either : (b : BusState) (c : Bool) (x y x' y' : Answer × BusState) → IsSeen b x x' → IsSeen b y y' → IsSeen b (cond c x y) (cond c x' y')
either b true x y x' y' p q = p
either b false x y x' y' p q = q

-- the part's own bus with the tile's port of this number in another state
seen_set : (b : BusState) (j number : ℕ) (after : SizedPort) (log : Log) → AreOwn b.ports b.numbers
    → slice_get b.numbers j ≡ Some number
    → record (seen b) { ports = slice_set (seen b).ports j after; log = log } ≡ seen (record b { ports = slice_set b.ports number after; log = log })
unfolding seen with_own
seen_set b j number after log own at =
    let put : slice_set (own_ports b.ports b.numbers) j after ≡ own_ports (slice_set b.ports number after) b.numbers
    = sym (own_set b.ports b.numbers j number after own at) in
    let size : length (own_ports b.ports b.numbers) ≡ length (own_ports (slice_set b.ports number after) b.numbers)
    = length-own_ports b.ports b.numbers ∙ sym (length-own_ports (slice_set b.ports number after) b.numbers) in
    ap (λ (xs : List SizedPort). record b { ports = xs; numbers = range_with_len 0 (length (own_ports b.ports b.numbers)); log = log }) put
    ∙ ap (λ (n : ℕ). record b { ports = own_ports (slice_set b.ports number after) b.numbers; numbers = range_with_len 0 n; log = log }) size

-- a word that was put or taken at a port of the part, with a row of its log
moved : (b : BusState) (j number : ℕ) (after : SizedPort) (answer : Answer) (log : Log) → AreOwn b.ports b.numbers
    → slice_get b.numbers j ≡ Some number
    → IsSeen b (answer, record (seen b) { ports = slice_set (seen b).ports j after; log = log })
    (answer, record b { ports = slice_set b.ports number after; log = log })
unfolding seen_answer
moved b j number after answer log own at = record {
  answered = ap (λ (bus : BusState). (answer, bus)) (seen_set b j number after log own at);
  numbers = refl;
  others = others_kept b.ports b.numbers j number after at;
}

received_seen : (b : BusState) (j number : ℕ) (port : SizedPort) (taken : Option (ℕ × PortState)) → AreOwn b.ports b.numbers
    → slice_get b.numbers j ≡ Some number
    → IsSeen b (received (seen b) (record { number = j; port = port }) taken) (received b (record { number = number; port = port }) taken)
unfolding seen with_own seen_answer
received_seen b j number port None own at = unchanged b _
received_seen b j number port (Some taken) own at =
    moved b j number (in_state port taken.1) (Done taken.0) (traced b.place b.cycle Recv taken.0 b.log) own at

sent_seen : (b : BusState) (j number : ℕ) (port : SizedPort) (word : ℕ) (after : Option PortState) → AreOwn b.ports b.numbers
    → slice_get b.numbers j ≡ Some number
    → IsSeen b (sent (seen b) (record { number = j; port = port }) word after) (sent b (record { number = number; port = port }) word after)
unfolding seen with_own seen_answer
sent_seen b j number port word None own at = unchanged b _
sent_seen b j number port word (Some after) own at =
    moved b j number (in_state port after) (Done 0) (traced b.place b.cycle Send word b.log) own at

-- the port of the part's j-th register group, by the part's own bus and by the tile's
indexed : BusState → ℕ → Option NumberedPort
indexed b j = option_and_then (λ number. option_map (λ port. record { number = number; port = port }) (slice_get b.ports number)) (slice_get b.numbers j)

-- what both buses find there
record Finds (b : BusState) (j : ℕ) : Type 0 where
  number : ℕ
  port : SizedPort
  at : slice_get b.numbers j ≡ Some number
  own : indexed (seen b) j ≡ Some (record { number = j; port = port })
  tile : indexed b j ≡ Some (record { number = number; port = port })

finds : (b : BusState) (j number : ℕ) → AreOwn b.ports b.numbers → slice_get b.numbers j ≡ Some number → Finds b j
unfolding indexed seen with_own
finds b j number own at =
    let within : j < length b.numbers = slice_get_within b.numbers j number at in
    let is : get_or b.numbers j 0 ≡ number = get_or_from_slice_get b.numbers j number 0 at in
    let inside : number < length b.ports = rw is at (own.within j 0 within) in
    let port = get_or b.ports number no_port in
    let size = length-own_ports b.ports b.numbers in
    let below : j < length (own_ports b.ports b.numbers) = rw size within in
    let there : slice_get (own_ports b.ports b.numbers) j ≡ Some port
    = slice_get-get_or (own_ports b.ports b.numbers) j no_port below ∙ ap (λ (p : SizedPort). Some p) (own_at b.ports b.numbers j no_port within ∙ ap (λ (k : ℕ). get_or b.ports k no_port) is) in
    let place : slice_get (range_with_len 0 (length (own_ports b.ports b.numbers))) j ≡ Some j
    = slice_get-get_or (range_with_len 0 (length (own_ports b.ports b.numbers))) j 0 (rw length-range_with_len below) ∙ ap (λ (k : ℕ). Some k) (get_or-range_with_len 0 (length (own_ports b.ports b.numbers)) j 0 below ∙ omega arith) in
    record {
      number = number;
      port = port;
      at = at;
      own = rw (place, there) refl;
      tile = rw (at, slice_get-get_or b.ports number no_port inside) refl;
    }

-- none is found past the part's ports
no_find : (b : BusState) (j : ℕ) → slice_get b.numbers j ≡ None → (indexed (seen b) j ≡ None) × (indexed b j ≡ None)
unfolding indexed seen with_own
no_find b j none =
    let past : length b.numbers ≤ j = ⊎_elim (λ (below : j < length b.numbers). absurd (none-some (get_or b.numbers j 0) (sym none ∙ slice_get-get_or b.numbers j 0 below))) (λ (h : length b.numbers ≤ j). h) (cases_lt j (length b.numbers)) in
    let count : length (range_with_len 0 (length (own_ports b.ports b.numbers))) ≤ j = rw (length-range_with_len, length-own_ports) past in
    (rw (slice_get_past (range_with_len 0 (length (own_ports b.ports b.numbers))) j count) refl, rw none refl)

-- a load from a register of a port
port_load_seen : (b : BusState) (register j : ℕ) → AreOwn b.ports b.numbers
    → IsSeen b (port_load (seen b) register (indexed (seen b) j)) (port_load b register (indexed b j))
port_load_seen b register j own = by (slice_get b.numbers j) refl
  where
    by : (number : Option ℕ) → slice_get b.numbers j ≡ number
        → IsSeen b (port_load (seen b) register (indexed (seen b) j)) (port_load b register (indexed b j))
    by None none = let f = no_find b j none in rw (f.0, f.1) (unchanged b _)
    by (Some number) at =
        let f = finds b j number own at in
        rw (f.own, f.tile)
        (either b (register == RECV) _ _ _ _ (received_seen b j f.number f.port (take_word f.port.port) own f.at)
        (either b (register == ROOM) _ _ _ _ (unchanged b _)
        (either b (register == FILL) _ _ _ _ (unchanged b _) (unchanged b _))))

-- a store to one
port_store_seen : (b : BusState) (register j value : ℕ) → AreOwn b.ports b.numbers
    → IsSeen b (port_store (seen b) register value (indexed (seen b) j)) (port_store b register value (indexed b j))
port_store_seen b register j value own = by (slice_get b.numbers j) refl
  where
    by : (number : Option ℕ) → slice_get b.numbers j ≡ number
        → IsSeen b (port_store (seen b) register value (indexed (seen b) j)) (port_store b register value (indexed b j))
    by None none = let f = no_find b j none in rw (f.0, f.1) (unchanged b _)
    by (Some number) at =
        let f = finds b j number own at in
        rw (f.own, f.tile)
        (either b (register == SEND) _ _ _ _ (sent_seen b j f.number f.port value (put f.port.queue value f.port.port) own f.at) (unchanged b _))

register_load_seen : (b : BusState) (addr : ℕ) (width : Width) → AreOwn b.ports b.numbers
    → IsSeen b (register_load (seen b) addr width) (register_load b addr width)
unfolding seen with_own indexed
register_load_seen b addr Byte own = unchanged b _
register_load_seen b addr Half own = unchanged b _
register_load_seen b addr Word own =
    either b (addr == CYCLE) _ _ _ _ (unchanged b _)
    (either b (addr == CYCLEH) _ _ _ _ (unchanged b _)
    (either b (nat_lt addr SEND) _ _ _ _ (unchanged b _) (port_load_seen b (register_of addr) ((addr - SEND) / PORT_BYTES) own)))

register_store_seen : (b : BusState) (addr : ℕ) (width : Width) (value : ℕ) → AreOwn b.ports b.numbers
    → IsSeen b (register_store (seen b) addr width value) (register_store b addr width value)
unfolding seen with_own seen_answer indexed
register_store_seen b addr Byte value own = unchanged b _
register_store_seen b addr Half value own = unchanged b _
register_store_seen b addr Word value own =
    either b (addr == TRACE) _ _ _ _ (record { answered = refl; numbers = refl; others = refl })
    (either b (nat_lt addr SEND) _ _ _ _ (unchanged b _) (port_store_seen b (register_of addr) ((addr - SEND) / PORT_BYTES) value own))

memory_seen : (b : BusState) (addr : ℕ) (width : Width) (value : ℕ) (refused : Option MemFault)
    → IsSeen b (memory_store refused (seen b) addr width value) (memory_store refused b addr width value)
unfolding seen with_own seen_answer
memory_seen b addr width value None = record { answered = refl; numbers = refl; others = refl }
memory_seen b addr width value (Some fault) = unchanged b _

-- a load
pub load_seen : (b : BusState) (addr : ℕ) (width : Width) → AreOwn b.ports b.numbers
    → IsSeen b (load_answer (seen b) addr width) (load_answer b addr width)
unfolding load_answer seen with_own
load_seen b addr width own =
    either b (nat_lt addr TRACE) _ _ _ _ (unchanged b (memory_answer (load_of b.bytes addr width)))
    (either b (addr % width_bytes width == 0) _ _ _ _ (register_load_seen b addr width own) (unchanged b (Fault Align)))

-- a store
pub store_seen : (b : BusState) (addr : ℕ) (width : Width) (value : ℕ) → AreOwn b.ports b.numbers
    → IsSeen b (store_answer (seen b) addr width value) (store_answer b addr width value)
unfolding store_answer seen with_own
store_seen b addr width value own =
    either b (nat_lt addr TRACE) _ _ _ _ (memory_seen b addr width value (refusal_of (length b.bytes) addr width))
    (either b (addr % width_bytes width == 0) _ _ _ _ (register_store_seen b addr width value own) (unchanged b (Fault Align)))

-- any access
pub ask_seen : (b : BusState) (request : Request) → AreOwn b.ports b.numbers
    → IsSeen b (ask part_bus request (seen b)) (ask part_bus request b)
ask_seen b Nothing own = unchanged b _
ask_seen b (LoadFrom addr width) own = load_seen b addr width own
ask_seen b (StoreTo addr width value) own = store_seen b addr width value own

-- the same of an instruction's effect
pub record IsSeenEnd (b : BusState) (own tile : CycleEnd BusState) : Type 0 where
  pub ended : own ≡ record tile { bus = seen tile.bus }
  pub numbers : tile.bus.numbers ≡ b.numbers
  pub others : other_ports tile.bus.ports b.numbers ≡ other_ports b.ports b.numbers

pub effect_seen : (b : BusState) (regs : Registers) (here : Result Instr Cause) → AreOwn b.ports b.numbers
    → IsSeenEnd b (effect_with part_bus regs (seen b) here) (effect_with part_bus regs b here)
unfolding seen_answer
effect_seen b regs (Err cause) own = record { ended = refl; numbers = refl; others = refl }
effect_seen b regs (Ok instr) own =
    let asked = ask_seen b (request_of regs instr) own in
    record {
      ended = ap (λ (a : Answer × BusState). ended (effect_of regs instr a.0).outcome (effect_of regs instr a.0).regs a.1) asked.answered;
      numbers = asked.numbers;
      others = asked.others;
    }

-- what an instruction leaves of a part's cycles
pub left_is : (b : BusState) (regs : Registers) (here : Result Instr Cause) (outcome : Outcome)
    → Some outcome ≡ (effect_with part_bus regs b here).outcome → left_after outcome ≡ (effect_with part_bus regs b here).left
left_is b regs (Err cause) outcome same = ap left_after (same_Some outcome _ same)
left_is b regs (Ok instr) outcome same = ap left_after (same_Some outcome _ same)
