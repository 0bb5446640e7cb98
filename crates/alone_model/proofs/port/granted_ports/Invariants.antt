use Rattle.std.proofs.Common.{◌≡◌, ◌≤◌, length, map, take, vec_len, vec_capacity}
use Rattle.ni_port.specs.SizedPort.{granted_sized}
use Rattle.alone_model.proofs.port.granted_ports.Given as goal

abbrev pub invariant-loop-number : goal.invariant-loop-number
invariant-loop-number l =
    (l.ports.items ≡ map (λ number. granted_sized l.queue) (take l._number-index l.numbers)) × (vec_len l.ports ≡ l._number-index) × (length l.numbers ≤ vec_capacity l.ports)
