-- What a platform is made of, and what judging a platform file answers.
use Rattle.std.specs.Prelude.{◌≡◌, pos, map, Option, Some, None, Result, Ok, Err}
use Rattle.soc_base.specs.Time.{FrameTimes}
use Rattle.platform_model.specs.Links.{raw_link}
use Rattle.platform_model.specs.declared.costs.Costs.{Costs}
use Rattle.platform_model.specs.declared.platform.Platform.{Platform}
use Rattle.platform_model.specs.declared.raw.RawCosts.{RawCosts}
use Rattle.platform_model.specs.declared.raw.RawPlatform.{RawPlatform}
use Rattle.platform_model.specs.declared.rules.PRule.{PRule}
use Rattle.platform_model.specs.declared.rules.PlatformFault.{PlatformFault}
use Rattle.platform_model.specs.declared.rules.PlatformFault.TheVariants.{Rule, NoMemory}

-- the raw numbers of a cost table
abbrev pub raw_costs : Costs → RawCosts
raw_costs costs = record {
  integer = pos costs.integer;
  mul = pos costs.mul;
  div = pos costs.div;
  load = pos costs.load;
  store = pos costs.store;
  taken = pos costs.taken;
  untaken = pos costs.untaken;
  jump = pos costs.jump;
  device = pos costs.device;
  system = pos costs.system;
}

-- the raw numbers of a platform
abbrev pub raw_of : Platform → RawPlatform
raw_of platform = record {
  tiles = pos platform.tiles;
  mem_bytes = pos platform.mem_bytes;
  slot_cycles = pos platform.slot_cycles;
  table_slots = pos platform.table_slots;
  kernel_cycles = pos platform.kernel_cycles;
  partition_cycles = pos platform.partition_cycles;
  partition_slots = pos platform.partition_slots;
  ports = pos platform.ports;
  queue = pos platform.queue;
  links = map raw_link platform.links;
  costs = raw_costs platform.costs;
}

-- what the answer of a judgement says of the least rule that is broken
abbrev pub Judges : Option PRule → Result Platform PlatformFault → Type 0
Judges least (Ok platform) = least ≡ None
Judges least (Err (Rule rule)) = least ≡ Some rule
Judges least (Err NoMemory) = Unit {0}

-- the frame by which partitions share a core of the platform
abbrev pub frame_of : Platform → FrameTimes
frame_of platform = record {
  kernel = platform.kernel_cycles;
  partition = platform.partition_cycles;
  slots = platform.partition_slots;
}
