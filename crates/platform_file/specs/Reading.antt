-- What a platform file means: the rules P1 to P12 over its document, and the numbers that it gives.
use Rattle.std.specs.Prelude.{◌≡◌, codes, ℕ, Bool, ◌&&◌, List, map, Option, Some, None}
use Rattle.std.specs.List.{list_all}
use Rattle.toml.specs.Data.{Members}
use Rattle.toml_keys.specs.Judged.{least_broken, BreaksBy, GivesBy}
use Rattle.toml_keys.specs.Keys.{KeyRule}
use Rattle.toml_keys.specs.Values.{integer_at, integer_or, table_at, tables_at}
use Rattle.platform_model.specs.Platform.{raw_of}
use Rattle.platform_model.specs.Rules.{first_rule}
use Rattle.platform_model.specs.declared.platform.Platform.{Platform}
use Rattle.platform_model.specs.declared.raw.RawLink.{RawLink}
use Rattle.platform_model.specs.declared.raw.RawCosts.{RawCosts}
use Rattle.platform_model.specs.declared.raw.RawPlatform.{RawPlatform}
use Rattle.platform_model.specs.declared.raw.TheConstants.{DEFAULT_COSTS}
use Rattle.platform_model.specs.declared.rules.PRule.{PRule}
use Rattle.platform_model.specs.declared.rules.PRule.TheVariants.{P1, P2, P3}
use Rattle.platform_file.specs.Format.{top_keys, link_keys, cost_keys}

-- each table of a file passes a test with the keys of its place: the top, each link, and the costs
unfoldable pub passes : (List KeyRule → Members → Bool) → Members → Bool
passes test ms =
    test top_keys ms
    && list_all (test link_keys) (tables_at (codes "link") ms)
    && test cost_keys (table_at (codes "costs") ms)

-- the numbers of a link
unfoldable pub link_of : Members → RawLink
link_of ms = record {
  from = integer_at (codes "from") ms;
  out = integer_at (codes "out") ms;
  to = integer_at (codes "to") ms;
  input = integer_at (codes "input") ms;
}

-- the costs, each with its default
unfoldable pub costs_of : Members → RawCosts
costs_of ms = record {
  integer = integer_or (codes "integer") DEFAULT_COSTS.integer ms;
  mul = integer_or (codes "mul") DEFAULT_COSTS.mul ms;
  div = integer_or (codes "div") DEFAULT_COSTS.div ms;
  load = integer_or (codes "load") DEFAULT_COSTS.load ms;
  store = integer_or (codes "store") DEFAULT_COSTS.store ms;
  taken = integer_or (codes "taken") DEFAULT_COSTS.taken ms;
  untaken = integer_or (codes "untaken") DEFAULT_COSTS.untaken ms;
  jump = integer_or (codes "jump") DEFAULT_COSTS.jump ms;
  device = integer_or (codes "device") DEFAULT_COSTS.device ms;
  system = integer_or (codes "system") DEFAULT_COSTS.system ms;
}

-- the numbers of a platform file whose keys have their types
unfoldable pub platform_of : Members → RawPlatform
platform_of ms = record {
  tiles = integer_at (codes "tiles") ms;
  mem_bytes = integer_at (codes "mem_bytes") ms;
  slot_cycles = integer_at (codes "slot_cycles") ms;
  table_slots = integer_at (codes "table_slots") ms;
  kernel_cycles = integer_at (codes "kernel_cycles") ms;
  partition_cycles = integer_at (codes "partition_cycles") ms;
  partition_slots = integer_at (codes "partition_slots") ms;
  ports = integer_at (codes "ports") ms;
  queue = integer_at (codes "queue") ms;
  links = map link_of (tables_at (codes "link") ms);
  costs = costs_of (table_at (codes "costs") ms);
}

-- the least rule that a file breaks, by what its bytes are: a document or none
unfoldable pub least_rule : Option Members → Option PRule
least_rule document = least_broken P1 P2 P3 passes (λ ms. first_rule (platform_of ms)) document

-- a document with these members breaks no rule, and gives the platform
abbrev pub MeansPlatform : Members → Platform → Type 0
MeansPlatform ms platform = (least_rule (Some ms) ≡ None) × (raw_of platform ≡ platform_of ms)

-- the rule is the least that the bytes break
abbrev pub Breaks : List ℕ → PRule → Type 0
Breaks bytes rule = BreaksBy least_rule bytes rule

-- the bytes break no rule, and give the platform
abbrev pub Gives : List ℕ → Platform → Type 0
Gives bytes platform = GivesBy least_rule (λ ms. raw_of platform ≡ platform_of ms) bytes
