-- What is proved of this crate's definitions, for the proofs of the crates above. They cite this file
-- alone.
pub use Rattle.tile_mmio.proofs.Own.{put_lost, put_same, put_others, ports_after, own_at, own_set, own_all, own_put, others_own, length-own_ports, length-put_ports}
pub use Rattle.tile_mmio.proofs.Seen.{seen, IsSeen, load_seen, store_seen, ask_seen, IsSeenEnd, effect_seen}
pub use Rattle.tile_mmio.proofs.Rest.{rest_own, rest_ports}
