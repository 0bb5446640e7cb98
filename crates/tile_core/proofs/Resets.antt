-- The ports of a part are reset one after the other.
use Rattle.std.proofs.Common.{◌≡◌, ℕ, suc, ◌+◌, ◌<◌, List, [], length, get_or, drop, slice_set, sym, ap, ap₂, ◌∙◌, add-one, drop-cons}
use Rattle.soc_base.specs.Port.{empty_port}
use Rattle.ni_port.specs.SizedPort.{SizedPort, in_state}
use Rattle.tile_mmio.specs.Ports.{put_ports}
use Rattle.tile_core.specs.Slot.{with_each}
use Rattle.tile_core.proofs.Queues.{AreSized}

each_step : (port : SizedPort) (numbers : List ℕ) (ports : List SizedPort) (i : ℕ) → i < length numbers → with_each port (drop i numbers) ports ≡ with_each port (drop (suc i) numbers) (slice_set ports (get_or numbers i 0) port)
unfolding put_ports
each_step port numbers ports i inside = ap (λ (ns : List ℕ). with_each port ns ports) (drop-cons numbers i 0 inside)

-- a port of the size that is reset
pub reset_is : (queue credit : ℕ) (ports : List SizedPort) (number : ℕ) (d after : SizedPort) → AreSized queue ports → number < length ports → after ≡ in_state (get_or ports number d) (empty_port credit) → after ≡ record { queue = queue; port = empty_port credit }
reset_is queue credit ports number d after are inside is =
    is ∙ ap (λ (n : ℕ). let p : SizedPort = record { queue = n; port = empty_port credit } in p) (are number d inside)

-- one more is reset
pub reset_step : (port : SizedPort) (numbers : List ℕ) (before ports : List SizedPort) (i number : ℕ) (after : SizedPort) → i < length numbers → number ≡ get_or numbers i 0 → after ≡ port → with_each port (drop i numbers) ports ≡ with_each port numbers before → with_each port (drop (i + 1) numbers) (slice_set ports number after) ≡ with_each port numbers before
reset_step port numbers before ports i number after inside is made so_far =
    ap₂ (λ (n : ℕ) (p : SizedPort). with_each port (drop (i + 1) numbers) (slice_set ports n p)) is made
    ∙ rw (add-one i) (sym (each_step port numbers ports i inside))
    ∙ so_far

-- all are reset
pub reset_all : (port : SizedPort) (numbers rest : List ℕ) (before ports : List SizedPort) → rest ≡ [] → with_each port rest ports ≡ with_each port numbers before → ports ≡ with_each port numbers before
unfolding put_ports
reset_all port numbers rest before ports none so_far = ap (λ (ns : List ℕ). with_each port ns ports) (sym none) ∙ so_far
