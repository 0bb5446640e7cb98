-- What is proved of this crate's definitions, for the proofs of the crates above. They cite this file
-- alone.
pub use Rattle.soc_io.proofs.Writing.{writes_of_printed}
