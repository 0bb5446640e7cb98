-- Where a cycle lies in the frame.
use Rattle.std.specs.Prelude.{ℕ, ◌<◌}
use Rattle.soc_base.specs.Time.{FrameTimes, instance_cycles, served_at, offset_at}
use Rattle.comik.specs.declared.place.FramePlace.{FramePlace}

-- the partition slot that is served in a cycle, and the cycle's offset
abbrev pub frame_place : FrameTimes → ℕ → FramePlace
frame_place f cycle = record { served = served_at f cycle; offset = offset_at f cycle }

-- a place that a cycle can have
pub record IsPlace (f : FrameTimes) (at : FramePlace) : Type 0 where
  pub served : at.served < f.slots
  pub offset : at.offset < instance_cycles f
