-- The channels of a bundle, each with its ends.
use Rattle.std.specs.Prelude.{ℕ, List, [], ◌∷◌}
use Rattle.std.specs.List.{flat_map}
use Rattle.bundle_model.specs.declared.bundle.End.{End}
use Rattle.bundle_model.specs.declared.bundle.Channel.{Channel}
use Rattle.bundle_model.specs.declared.bundle.Pair.{Pair}
use Rattle.bundle_model.specs.declared.bundle.Bundle.{Bundle}

-- a channel with the port that it leaves and the port that it ends at
pub record Way : Type 0 where
  pub from : End
  pub to : End
  pub path : List ℕ
  pub slots : List ℕ

-- a channel between two ends
abbrev pub way_of : End → End → Channel → Way
way_of from to channel = record { from = from; to = to; path = channel.path; slots = channel.slots }

-- the channels of a pair: there, and back
abbrev pub pair_ways : Pair → List Way
pair_ways pair = way_of pair.a pair.b pair.there ∷ way_of pair.b pair.a pair.back ∷ []

-- the channels of a bundle, in the order in which they claim resources. A channel's number is its place.
abbrev pub ways_of : Bundle → List Way
ways_of bundle = flat_map pair_ways bundle.pairs
