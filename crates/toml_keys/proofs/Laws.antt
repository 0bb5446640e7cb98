-- What is proved of this crate's definitions, for the proofs of the crates above. They cite this file
-- alone.
pub use Rattle.toml_keys.proofs.Documents.{reads_one, gives_breaks_none, breaks_one, gives_one}
