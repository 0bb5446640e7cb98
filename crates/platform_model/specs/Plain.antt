-- The platform from which tests and examples begin.
use Rattle.std.specs.Prelude.{pos, []}
use Rattle.platform_model.specs.declared.raw.RawPlatform.{RawPlatform}
use Rattle.platform_model.specs.declared.raw.TheConstants.{DEFAULT_COSTS}

-- one tile of 4096 bytes, slots of 8 cycles in tables of 8, frames of 72 and 56 cycles with two
-- partition slots, two ports with queues of 8 words, no links, and the default costs
abbrev pub plain_platform : RawPlatform
plain_platform = record {
  tiles = pos 1;
  mem_bytes = pos 4096;
  slot_cycles = pos 8;
  table_slots = pos 8;
  kernel_cycles = pos 72;
  partition_cycles = pos 56;
  partition_slots = pos 2;
  ports = pos 2;
  queue = pos 8;
  links = [];
  costs = DEFAULT_COSTS;
}
