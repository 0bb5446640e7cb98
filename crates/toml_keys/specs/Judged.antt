-- Files that are judged in four steps, each by a rule of its own: the bytes are a document, its keys are
-- known, each key is there and has its type, and the values keep the rules of the layer above.
use Rattle.std.specs.Prelude.{◌≡◌, ℕ, Bool, not, List, Option, Some, None, if◌then◌else◌}
use Rattle.toml.specs.Data.{Members}
use Rattle.toml_keys.specs.Document.{Reads}
use Rattle.toml_keys.specs.Keys.{KeyRule, has_only, has_types}

-- the least rule that a file breaks, by what its bytes are, a document or none. `passes` says whether
-- each table of a document passes a test with the keys of its place, and `values` finds the least rule
-- that the values of a document break.
abbrev pub least_broken : {Rule : Type 0} → Rule → Rule → Rule
    → ((List KeyRule → Members → Bool) → Members → Bool) → (Members → Option Rule) → Option Members → Option Rule
least_broken document keys types passes values None = Some document
least_broken document keys types passes values (Some ms) =
    if not (passes has_only ms) then Some keys
    else if not (passes has_types ms) then Some types
    else values ms

-- the rule is the least that the bytes break, where `least` finds it by what they are
abbrev pub BreaksBy : {Rule : Type 0} → (Option Members → Option Rule) → List ℕ → Rule → Type 0
BreaksBy least bytes rule = (document : Option Members) × Reads bytes document × (least document ≡ Some rule)

-- the bytes break no rule, and are a document with this meaning
abbrev pub GivesBy : {Rule : Type 0} → (Option Members → Option Rule) → (Members → Type 0) → List ℕ → Type 0
GivesBy least Meaning bytes = (ms : Members) × Reads bytes (Some ms) × (least (Some ms) ≡ None) × Meaning ms
