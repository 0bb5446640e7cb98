-- Words of clauses between the steps of a part's cycle.
pub mod Steps
