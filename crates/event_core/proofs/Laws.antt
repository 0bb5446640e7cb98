-- The laws of the machine in step, for the proofs of the crates above. They cite this file alone.

-- every grant stands on every tile as its application would alone, and leaves that log
pub use Rattle.event_core.proofs.Standing.{grants_stand, logs_are_alone}
-- the links carry what the applications have there alone, and hop by hop equals delay
pub use Rattle.event_core.proofs.Machine.{links_follow}
pub use Rattle.event_core.proofs.Hops.{hops_are_delay, nothing_else_arrives}
-- the machine follows its grants, slot by slot
pub use Rattle.event_core.proofs.Settled.{IsSettled}
pub use Rattle.event_core.proofs.Follows.{FollowsOn, Follows}
pub use Rattle.event_core.proofs.Machine.{follows_first, follows_next, machine_follows}
-- tile number n stands at place n
pub use Rattle.event_core.proofs.Numbers.{tiles_numbered}
