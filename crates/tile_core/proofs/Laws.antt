-- What is proved of this crate's definitions, for the proofs of the crates above. They cite this file
-- alone.

-- a tile before its first slot
pub use Rattle.tile_core.proofs.FreshMade.{fresh_made}
pub use Rattle.tile_core.proofs.Fresh.{fresh_fits, fresh_at, fresh_begins, holds_first}
-- a slot: what the tile was made for stays, it is fit again, and it holds its parts, each after the slot
pub use Rattle.tile_core.proofs.Made.{frame_is, load_part_own, IsAlike, cycles_kept, settled_alike}
pub use Rattle.tile_core.proofs.SlotMade.{granted_alike, granted_tables, slot_made, slot_at}
pub use Rattle.tile_core.proofs.Slots.{site_of, slot_number, slot_loads, slot_tables, slot_fits, slot_goes_on, slot_ports, slot_holds}
-- the ports of a tile: the change of one, as the part sees it that has it
pub use Rattle.tile_core.proofs.Ports.{ArePartedPorts, change_at, own_changed}
-- the loads of a tile, their parts and their grants
pub use Rattle.tile_core.proofs.Sites.{IsSite, loads_keyed, load_has, bundle_is}
-- the grant of a load that stands at a slot
pub use Rattle.tile_core.proofs.Standing.{AreLabelled, if_stands, standing_is, first_cycle}
pub use Rattle.tile_core.proofs.Settling.{own_grant}
pub use Rattle.tile_core.proofs.Viewing.{granted_is, opened_is}
-- what a tile answers of the load at a place
pub use Rattle.tile_core.proofs.Found.{place_is, grant_place, no_grant_place, log_found, state_found, state_none}
-- a tile looks in a slot at nothing later
pub use Rattle.tile_core.proofs.Paced.{tiles_are_paced}
-- a station that has run by itself can go on, and has run so by any grants that go on from the same
pub use Rattle.tile_core.proofs.Running.{run_underway, has_run_stays}
pub use Rattle.tile_core.proofs.OneMore.{all_underway}
