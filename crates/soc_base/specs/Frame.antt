-- The limits of the frame by which partitions share a core.
use Rattle.std.specs.Prelude.{◌<◌, ◌≤◌}
use Rattle.soc_base.specs.Time.{FrameTimes}
use Rattle.soc_base.specs.declared.limits.TheConstants.{LEAST_KERNEL_CYCLES, MOST_KERNEL_CYCLES, MOST_PARTITION_CYCLES, MOST_PARTITION_SLOTS}

-- a frame has 66 to 4096 microkernel cycles and 1 to 65536 partition cycles in an instance, and 1 to
-- 16 partition slots
pub record IsFrame (frame : FrameTimes) : Type 0 where
  pub kernel_least : LEAST_KERNEL_CYCLES ≤ frame.kernel
  pub kernel_most : frame.kernel ≤ MOST_KERNEL_CYCLES
  pub partition_least : 0 < frame.partition
  pub partition_most : frame.partition ≤ MOST_PARTITION_CYCLES
  pub slots_least : 0 < frame.slots
  pub slots_most : frame.slots ≤ MOST_PARTITION_SLOTS
