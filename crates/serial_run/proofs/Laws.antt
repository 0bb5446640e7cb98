-- What is proved of the end of a run, for the proofs of the crates above. They cite this file alone.
pub use Rattle.serial_run.proofs.Ending.{IsScheduled, AreReadyToFinish, can_finish}
pub use Rattle.serial_run.proofs.Ranges.{all_range}
