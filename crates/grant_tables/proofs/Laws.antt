-- What is proved of this crate's definitions, for the proofs of the crates above. They cite this file
-- alone.

-- tables hold the entries of the grants that stand, before the first slot and slot after slot
pub use Rattle.grant_tables.proofs.Tabled.{tables_begin, tables_go_on}
-- what is looked up in them is what the channels of those grants claim, at ports of the platform
pub use Rattle.grant_tables.proofs.Looked.{injects_are_read, outputs_are_read, deliveries_are_read, departed, arrived, injects_within, delivers_within}
-- a grant that ends in a slot, begins in it, or stays
pub use Rattle.grant_tables.proofs.Changes.{ended_stood, ended_gone, begun_stands, begun_late, stays_stands, stood_begins, none_stands}
-- the links of a platform
pub use Rattle.grant_tables.proofs.Wired.{any_at, all_at, no_twin, numbers_equal, raw_at, one_link, link_ports, link_is}
-- the entries of a bundle and the claims of its channels, side by side
pub use Rattle.grant_tables.proofs.Sides.{entry_sides, held_place, entry_held}
