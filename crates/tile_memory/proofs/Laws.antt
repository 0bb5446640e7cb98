-- What is proved of this crate's definitions, for the proofs of the crates above. They cite this file
-- alone.
pub use Rattle.tile_memory.proofs.Regions.{take-with_region, drop-with_region, region-with_region, length-with_region, length-region_bytes, length-stored_bytes, length-filled_bytes, stored_inside}
