-- What a bundle file means on a platform: the rules B1 to B14 over its document, and the values
-- that it gives.
use Rattle.std.specs.Prelude.{◌≡◌, codes, ℕ, Bool, ◌&&◌, List, map, Option, Some, None}
use Rattle.std.specs.List.{list_all}
use Rattle.toml.specs.Data.{Members}
use Rattle.toml_keys.specs.Judged.{least_broken, BreaksBy, GivesBy}
use Rattle.toml_keys.specs.Keys.{KeyRule}
use Rattle.toml_keys.specs.Values.{integer_at, text_at, table_at, integers_at, texts_at, tables_at}
use Rattle.platform_model.specs.declared.platform.Platform.{Platform}
use Rattle.bundle_model.specs.Bundle.{bundle_of}
use Rattle.bundle_model.specs.Rules.{first_rule}
use Rattle.bundle_model.specs.declared.bundle.Bundle.{Bundle}
use Rattle.bundle_model.specs.declared.raw.RawChannel.{RawChannel}
use Rattle.bundle_model.specs.declared.raw.RawPair.{RawPair}
use Rattle.bundle_model.specs.declared.raw.RawPart.{RawPart}
use Rattle.bundle_model.specs.declared.raw.RawBundle.{RawBundle}
use Rattle.bundle_model.specs.declared.rules.BRule.{BRule}
use Rattle.bundle_model.specs.declared.rules.BRule.TheVariants.{B1, B2, B3}
use Rattle.bundle_file.specs.Format.{top_keys, part_keys, pair_keys, channel_keys}
use Rattle.bundle_file.specs.Image.{image_of}

-- the tables of a channel pair pass a test with the keys of their places: the pair and its two channels
unfoldable pub pair_passes : (List KeyRule → Members → Bool) → Members → Bool
pair_passes test pair =
    test pair_keys pair
    && test channel_keys (table_at (codes "there") pair)
    && test channel_keys (table_at (codes "back") pair)

-- each table of a file passes a test with the keys of its place: the top, each part, each channel pair
unfoldable pub passes : (List KeyRule → Members → Bool) → Members → Bool
passes test ms =
    test top_keys ms
    && list_all (test part_keys) (tables_at (codes "part") ms)
    && list_all (pair_passes test) (tables_at (codes "pair") ms)

-- the values of a part whose keys have their types
unfoldable pub raw_part : Members → RawPart
raw_part ms = record {
  tile = integer_at (codes "tile") ms;
  slots = integers_at (codes "slots") ms;
  base = integer_at (codes "base") ms;
  len = integer_at (codes "len") ms;
  image = image_of (text_at (codes "image") ms);
  entry = integer_at (codes "entry") ms;
  trace = integer_at (codes "trace") ms;
  kinds = texts_at (codes "kinds") ms;
  ports = integers_at (codes "ports") ms;
}

-- the values of a channel
unfoldable pub raw_channel : Members → RawChannel
raw_channel ms = record { path = integers_at (codes "path") ms; slots = integers_at (codes "slots") ms }

-- the values of a channel pair
unfoldable pub raw_pair : Members → RawPair
raw_pair ms = record {
  a = integers_at (codes "a") ms;
  b = integers_at (codes "b") ms;
  there = raw_channel (table_at (codes "there") ms);
  back = raw_channel (table_at (codes "back") ms);
}

-- the values of a bundle file whose keys have their types
unfoldable pub raw_bundle : Members → RawBundle
raw_bundle ms = record {
  version = integer_at (codes "version") ms;
  parts = map raw_part (tables_at (codes "part") ms);
  pairs = map raw_pair (tables_at (codes "pair") ms);
}

-- the least rule that a file breaks on a platform, by what its bytes are: a document or none
unfoldable pub least_rule : Platform → Option Members → Option BRule
least_rule platform document = least_broken B1 B2 B3 passes (λ ms. first_rule platform (raw_bundle ms)) document

-- a document with these members breaks no rule on the platform, and gives the bundle
abbrev pub MeansBundle : Platform → Members → Bundle → Type 0
MeansBundle platform ms bundle = (least_rule platform (Some ms) ≡ None) × (bundle ≡ bundle_of (raw_bundle ms))

-- the rule is the least that the bytes break on the platform
abbrev pub Breaks : Platform → List ℕ → BRule → Type 0
Breaks platform bytes rule = BreaksBy (least_rule platform) bytes rule

-- the bytes break no rule on the platform, and give the bundle
abbrev pub Gives : Platform → List ℕ → Bundle → Type 0
Gives platform bytes bundle = GivesBy (least_rule platform) (λ ms. bundle ≡ bundle_of (raw_bundle ms)) bytes
