-- What is proved of setups and histories, for the proofs of the crates above. They cite this file alone.
pub use Rattle.vep_manager.proofs.SetupLemmas.{sound_world}
pub use Rattle.vep_manager.proofs.Standing.{legal_none, legal_more}
pub use Rattle.vep_manager.proofs.Settled.{legal_apart, legal_counts, grants_of_loads, horizon_complete}
pub use Rattle.vep_manager.proofs.Horizons.{horizon_grows, horizon_within}
pub use Rattle.vep_manager.proofs.Longer.{legal_front, legal_goes_on}
