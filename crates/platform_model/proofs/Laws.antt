-- What is proved of this crate's definitions, for the proofs of the crates above. They cite this file
-- alone.
pub use Rattle.platform_model.proofs.Passing.{all_at, passed_over, neither}
pub use Rattle.platform_model.proofs.Ranges.{read_back, within_read, no_remainder}
