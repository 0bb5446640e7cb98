-- The bundle that raw values mean, and what judging a bundle file answers.
use Rattle.std.specs.Prelude.{◌≡◌, ℤ, nat_abs, map, List, [], Option, Some, None, Result, Ok, Err, unwrap_or, slice_index_or, pos}
use Rattle.bundle_model.specs.Sets.{slot_set, kind_set}
use Rattle.bundle_model.specs.declared.raw.RawChannel.{RawChannel}
use Rattle.bundle_model.specs.declared.raw.RawPair.{RawPair}
use Rattle.bundle_model.specs.declared.raw.RawPart.{RawPart}
use Rattle.bundle_model.specs.declared.raw.RawBundle.{RawBundle}
use Rattle.bundle_model.specs.declared.bundle.End.{End}
use Rattle.bundle_model.specs.declared.bundle.Channel.{Channel}
use Rattle.bundle_model.specs.declared.bundle.Pair.{Pair}
use Rattle.bundle_model.specs.declared.bundle.Part.{Part}
use Rattle.bundle_model.specs.declared.bundle.Bundle.{Bundle}
use Rattle.bundle_model.specs.declared.rules.BRule.{BRule}
use Rattle.bundle_model.specs.declared.rules.BundleFault.{BundleFault}
use Rattle.bundle_model.specs.declared.rules.BundleFault.TheVariants.{Rule, NoMemory}

-- the part that raw values mean
abbrev pub part_of : RawPart → Part
part_of raw = record {
  tile = nat_abs raw.tile;
  slots = slot_set raw.slots;
  region = record { base = nat_abs raw.base; len = nat_abs raw.len };
  image = unwrap_or raw.image [];
  entry = nat_abs raw.entry;
  trace = nat_abs raw.trace;
  kinds = kind_set raw.kinds;
  ports = map nat_abs raw.ports;
}

-- the end that a tile and a port mean
abbrev pub end_of : List ℤ → End
end_of numbers = record {
  tile = nat_abs (slice_index_or numbers 0 (pos 0));
  port = nat_abs (slice_index_or numbers 1 (pos 0));
}

-- the channel that raw values mean
abbrev pub channel_of : RawChannel → Channel
channel_of raw = record { path = map nat_abs raw.path; slots = map nat_abs raw.slots }

-- the channel pair that raw values mean
abbrev pub pair_of : RawPair → Pair
pair_of raw = record { a = end_of raw.a; b = end_of raw.b; there = channel_of raw.there; back = channel_of raw.back }

-- the bundle that raw values mean which break no rule
abbrev pub bundle_of : RawBundle → Bundle
bundle_of raw = record { parts = map part_of raw.parts; pairs = map pair_of raw.pairs }

-- what the answer of a judgement says of the least rule that is broken
abbrev pub Judges : Option BRule → Result Bundle BundleFault → Type 0
Judges least (Ok bundle) = least ≡ None
Judges least (Err (Rule rule)) = least ≡ Some rule
Judges least (Err NoMemory) = Unit {0}
