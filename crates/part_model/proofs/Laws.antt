-- What is proved of this crate's definitions, for the proofs of the crates above. They cite this file
-- alone.
pub use Rattle.part_model.proofs.Stretches.{ended_still, ended_stays, waits_for, does_in, cost_of_word}
pub use Rattle.part_model.proofs.Keeping.{IsKept, cycle_keeps, cycle_size, stretch_size}
pub use Rattle.part_model.proofs.Shapes.{cycle_registers}
pub use Rattle.part_model.proofs.Ports.{IsSamePort, AreSamePorts, cycle_ports, stretch_ports}
