use Rattle.std.proofs.Common.{◌≡◌, ◌++◌, take, drop}
use Rattle.alone_model.specs.Network.{each_port}
use Rattle.alone_model.specs.inner.Exchange.{after_leaving}
use Rattle.alone_model.proofs.port.leave_each.Given as goal

abbrev pub invariant-loop-place : goal.invariant-loop-place
invariant-loop-place l =
    l.ports ≡ each_port (after_leaving l.senders l.tile) (take l.place l.numbers) (take l.place l.fn.ports) ++ drop l.place l.fn.ports
