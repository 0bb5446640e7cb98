use Rattle.std.proofs.Common.{◌≡◌, drop, length, All}
use Rattle.soc_base.specs.Port.{empty_port}
use Rattle.tile_core.specs.Slot.{with_each}
use Rattle.tile_core.proofs.tile.grants.reset_each.Given as goal

abbrev pub invariant-loop-number : goal.invariant-loop-number
invariant-loop-number l = record {
  rest : with_each (record { queue = l.queue; port = empty_port l.credit }) (drop l.number-index l.numbers) l.ports ≡ with_each (record { queue = l.queue; port = empty_port l.credit }) l.numbers l.fn.ports;
  size : length l.ports ≡ length l.fn.ports;
  queues : All (λ port. port.queue ≡ l.queue) l.ports;
}
