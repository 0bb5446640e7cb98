-- What is proved of this crate's definitions, for the proofs of the crates above. They cite this file
-- alone.
pub use Rattle.soc_base.proofs.StepLemmas.{steps_none, steps_more, steps_split, steps_still}
pub use Rattle.soc_base.proofs.Slots.{among_slots}
