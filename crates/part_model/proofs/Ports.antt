-- What a part's cycles keep of its ports, whatever words the part puts and takes.
use Rattle.std.proofs.Common.{◌≡◌, ℕ, zero, suc, ◌+◌, ◌<◌, ◌==◌, ⊎_elim, Bool, true, false, cond, List, [], ◌∷◌, ◌++◌, length, get_or, slice_get, slice_set, Some, None, refl, sym, ap, ◌∙◌, arith}
use Rattle.std.proofs.lemmas.List.{length-set, get_or-set_same, get_or-set_other}
use Rattle.std.proofs.lemmas.Option.{none-some, same_Some, slice_get_within, get_or_from_slice_get}
use Rattle.std.proofs.lemmas.Bool.{cases_eq}
use Rattle.soc_base.specs.Port.{PortState, put, take_from, take_word}
use Rattle.soc_base.specs.Steps.{after_steps}
use Rattle.ni_port.specs.SizedPort.{SizedPort, in_state}
use Rattle.platform_model.specs.declared.costs.Costs.{Costs}
use Rattle.part_model.specs.declared.record.Place.{Place}
use Rattle.part_model.specs.Part.{PartState, part_cycle}
use Rattle.part_model.proofs.Keeping.{IsKept, cycle_keeps}

-- the same port, but for words that its program put or took: the sizes of its queues, its credit, and how
-- many words were received of which no credit was sent back
pub record IsSamePort (before after : SizedPort) : Type 0 where
  pub queue : after.queue ≡ before.queue
  pub credit : after.port.credit ≡ before.port.credit
  pub places : after.port.owed + length after.port.recv ≡ before.port.owed + length before.port.recv

-- as many ports, each the same
pub record AreSamePorts (before after : List SizedPort) : Type 0 where
  pub count : length after ≡ length before
  pub each : (k : ℕ) (d : SizedPort) → k < length before → IsSamePort (get_or before k d) (get_or after k d)

then_port : (a b c : SizedPort) → IsSamePort a b → IsSamePort b c → IsSamePort a c
then_port a b c first second = record {
  queue = second.queue ∙ first.queue;
  credit = second.credit ∙ first.credit;
  places = second.places ∙ first.places;
}

then_ports : (a b c : List SizedPort) → AreSamePorts a b → AreSamePorts b c → AreSamePorts a c
then_ports a b c first second = record {
  count = second.count ∙ first.count;
  each = λ k d below. then_port (get_or a k d) (get_or b k d) (get_or c k d) (first.each k d below) (second.each k d (rw first.count below));
}

still_ports : (ports : List SizedPort) → AreSamePorts ports ports
still_ports ports = record { count = refl; each = λ k d below. record { queue = refl; credit = refl; places = refl } }

put_port : (port : SizedPort) (word : ℕ) (after : PortState) → put port.queue word port.port ≡ Some after → IsSamePort port (in_state port after)
put_port port word after done = by (length port.port.send == port.queue) done
  where
    by : (full : Bool) → cond full None (Some (record port.port { send = port.port.send ++ word ∷ [] })) ≡ Some after → IsSamePort port (in_state port after)
    by true none = absurd (none-some after none)
    by false is = let e = same_Some (record port.port { send = port.port.send ++ word ∷ [] }) after is in
        record { queue = refl; credit = ap (λ (p : PortState). p.credit) (sym e); places = ap (λ (p : PortState). p.owed + length p.recv) (sym e) }

take_port : (port : SizedPort) (taken : ℕ × PortState) → take_word port.port ≡ Some taken → IsSamePort port (in_state port taken.1)
take_port port taken done = by port.port.recv refl done
  where
    by : (recv : List ℕ) → port.port.recv ≡ recv → take_from recv port.port ≡ Some taken → IsSamePort port (in_state port taken.1)
    by [] here none = absurd (none-some taken none)
    by (word ∷ words) here is =
        let after : PortState = record port.port { recv = words; owed = port.port.owed + 1 } in
        let found : ℕ × PortState = (word, after) in
        let e = same_Some found taken is in
        let held : length port.port.recv ≡ suc (length words) = ap length here in
        let moved : port.port.owed + 1 + length words ≡ port.port.owed + length port.port.recv = omega (arith, held) in
        record { queue = refl; credit = ap (λ (t : ℕ × PortState). t.1.credit) (sym e); places = ap (λ (t : ℕ × PortState). t.1.owed + length t.1.recv) (sym e) ∙ moved }

-- one of the ports in another state
one_moved : (before ports : List SizedPort) (n : ℕ) (port after : SizedPort) → slice_get ports n ≡ Some port → IsSamePort port after
    → AreSamePorts before ports → AreSamePorts before (slice_set ports n after)
one_moved before ports n port after there same all = then_ports before ports (slice_set ports n after) all (record { count = length-set ports n after; each = each })
  where
    within : n < length ports
    within = slice_get_within ports n port there

    each : (k : ℕ) (d : SizedPort) → k < length ports → IsSamePort (get_or ports k d) (get_or (slice_set ports n after) k d)
    each k d below = ⊎_elim here other (cases_eq k n)
      where
        here : k ≡ n → IsSamePort (get_or ports k d) (get_or (slice_set ports n after) k d)
        here e = rw (e, get_or-set_same ports n after d within, get_or_from_slice_get ports n port d there) same

        other : (k ≡ n → ⊥) → IsSamePort (get_or ports k d) (get_or (slice_set ports n after) k d)
        other apart = rw (get_or-set_other ports n k after d apart) (record { queue = refl; credit = refl; places = refl })

ports_kept : (before : List SizedPort) → IsKept (λ bytes ports log. AreSamePorts before ports)
ports_kept before = record {
  store = λ bytes ports log addr width value done same. same;
  row = λ bytes ports log row same. same;
  end = λ bytes ports log end same. same;
  put = λ bytes ports log n port word after there done same. one_moved before ports n port (in_state port after) there (put_port port word after done) same;
  take = λ bytes ports log n port taken there done same. one_moved before ports n port (in_state port taken.1) there (take_port port taken done) same;
}

-- a part's cycle keeps its ports
pub cycle_ports : (costs : Costs) (place : Place) (cycle : ℕ) (p : PartState)
    → AreSamePorts p.ports (part_cycle costs place cycle p).ports
cycle_ports costs place cycle p =
    cycle_keeps (λ bytes ports log. AreSamePorts p.ports ports) (ports_kept p.ports) costs place cycle p (still_ports p.ports)

-- and so do any number of cycles
pub stretch_ports : (costs : Costs) (place : Place) (from n : ℕ) (p : PartState)
    → AreSamePorts p.ports (after_steps (part_cycle costs place) from n p).ports
unfolding after_steps
stretch_ports costs place from zero p = still_ports p.ports
stretch_ports costs place from (suc n) p =
    let before = after_steps (part_cycle costs place) from n p in
    then_ports p.ports before.ports (part_cycle costs place (from + n) before).ports (stretch_ports costs place from n p) (cycle_ports costs place (from + n) before)
