-- What a wire of the core is to the laws.
use Rattle.std.specs.Prelude.{◌<◌}
use Rattle.std.specs.VecDeque.{deque_len, deque_capacity}
use Rattle.soc_base.specs.Port.{WordAndCredits}
use Rattle.core_model.specs.Core.{Line}
use Rattle.event_core.specs.declared.wires.Wire.{Wire}

-- the line of a wire
abbrev pub line_of : Wire → Line WordAndCredits
line_of wire = record { link = wire.link; flits = wire.flits.items }

-- there is room for one more flit
abbrev pub HasRoom : Wire → Type 0
HasRoom wire = deque_len wire.flits < deque_capacity wire.flits
