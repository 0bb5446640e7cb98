-- What is proved of this crate's definitions, for the proofs of the crates above. They cite this file
-- alone.

-- an application alone, slot by slot, and its flits from link to link
pub use Rattle.alone_model.proofs.Cycle.{alone_is_slots, alone_begins, alone_next}
pub use Rattle.alone_model.proofs.Flight.{new_flit, IsNew, new_at, new_found, is_on, next_hop, first_hop}
pub use Rattle.alone_model.proofs.Finding.{find_later, find_first, find_kept, find_same}
-- what is true of its parts in every slot
pub use Rattle.alone_model.proofs.Kept.{IsKeptInSlots, cycles_keep, slot_keeps, alone_keeps}
pub use Rattle.alone_model.proofs.KeptLogs.{alone_parts, alone_fits}
-- its ports have the platform's queues and no more credit than these have places for, and its flits were
-- injected in slots of their channels
pub use Rattle.alone_model.proofs.Sound.{IsModest, AreModest, modest_kept, alone_modest, AreInjected, new_injected, alone_injected}
-- the port at an end, by the place of its part
pub use Rattle.alone_model.proofs.PortPlaces.{IsPortAt, port_of_at}
-- its ports by their numbers
pub use Rattle.alone_model.proofs.Ports.{each_port_same, each_port_still, each_port_length, with_ports_same, with_ports_still}
-- the rows of one part more
pub use Rattle.alone_model.proofs.Merged.{merged_more}
