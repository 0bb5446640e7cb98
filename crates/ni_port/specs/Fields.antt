-- What the code keeps of a port.
use Rattle.std.specs.Prelude.{◌≡◌}
use Rattle.ni_port.specs.declared.port.Port.TheInside.{Inside}
use Rattle.ni_port.specs.SizedPort.{SizedPort, IsWithin}

-- the port that its fields stand for
abbrev pub shown : Inside → SizedPort
shown fields = record {
  queue = fields.queue;
  port = record { send = fields.send.items; recv = fields.recv.items; credit = fields.credit; owed = fields.owed };
}

-- both rings have as many places as a queue holds words
pub record IsSized (fields : Inside) : Type 0 where
  pub send : fields.send.capacity ≡ fields.queue
  pub recv : fields.recv.capacity ≡ fields.queue
  pub within : IsWithin (shown fields)
