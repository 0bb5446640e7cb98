-- What is proved of this crate's definitions, for the proofs of the crates above. They cite this file
-- alone.

-- time: the next cycle's place, and a cycle as its offset past its instance's beginning
pub use Rattle.comik.proofs.Times.{next_cycle, next_offset, cycle_split}
-- rows: each keeps every part's words and the step, and what it does to the parts that are held and next
pub use Rattle.comik.proofs.Switches.{row_keeps, cycle_keeps, row_still, held_is, of_held, of_other}
pub use Rattle.comik.proofs.Rows.{RowParts, row_parts}
pub use Rattle.comik.proofs.Still.{still_row, still_rows}
-- the words of parts: a part that comes or leaves, and the cycle of the part that is held
pub use Rattle.comik.proofs.Parts.{prepared_own, prepared_others, prepared_in_step, cleared_others, cleared_in_step, cycle_own, cycle_others, installed_apart, held_apart}
-- what a kernel is made of stays
pub use Rattle.comik.proofs.Whole.{kernel_fresh, whole_fresh, none_at, owner_below, row_whole, whole_words, still_installed, now_installed, kernel_prepared, whole_prepared, kernel_cleared, whole_cleared, whole_file}
-- the owner of each slot after a part has come or left
pub use Rattle.comik.proofs.Owners.{claimed_at, freed_at, length_claimed}
pub use Rattle.comik.proofs.Least.{least_is_in, least_below}
-- which part is held
pub use Rattle.comik.proofs.Turns.{turn_fresh, turn_cycle, turn_cleared, turn_prepared, held_runs}
