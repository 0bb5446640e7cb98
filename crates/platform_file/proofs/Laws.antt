-- What is proved of this crate's definitions, for the proofs of the crates above. They cite this file
-- alone.
pub use Rattle.platform_file.proofs.Exclusive.{gives_breaks_none, breaks_one, gives_one}
