-- The laws of the core, for the proofs of the crates above. They cite this file alone.

-- what was done stays
pub use Rattle.core_model.proofs.Staying.{history_alike, histories_stay, history_runs_stay}
-- the fresh core is in order, and every event keeps it so
pub use Rattle.core_model.proofs.Events.{fresh_order, happens_keeps, core_in_order}
-- the tile of least slot may take its next slot
pub use Rattle.core_model.proofs.Least.{least_may_go, none_is_ready}
