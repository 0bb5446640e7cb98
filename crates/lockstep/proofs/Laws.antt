-- The laws of machines in step, for the proofs of the crates above. They cite this file alone.

-- the machine and one tile by itself, slot by slot; each tile is at the slot that the machine is at
pub use Rattle.lockstep.proofs.Steps.{lockstep_none, lockstep_more, run_none, run_more}
pub use Rattle.lockstep.proofs.Stays.{lockstep_at, run_at}
-- a tile's inputs are what its links carry
pub use Rattle.lockstep.proofs.Inputs.{inputs_same}
-- tiles by themselves are those of the machine in step
pub use Rattle.lockstep.proofs.Joined.{tiles_run_alone, one_solution, one_passage}
pub use Rattle.lockstep.proofs.Rings.{rings_join, ring_tiles_agree, ring_flits_agree}
-- functions that agree where they are read make one list
pub use Rattle.lockstep.proofs.Rings.{made_same}
-- grants that are known alike, and what looks at no more of them
pub use Rattle.lockstep.proofs.Seen.{grants_are_seen_alike, seen_alike_by}
pub use Rattle.lockstep.proofs.Looking.{find_is_seen, filter_is_seen, filter_seen_alike, fold_seen_alike}
-- what was done stays
pub use Rattle.lockstep.proofs.Stays.{lockstep_stays, run_stays}
