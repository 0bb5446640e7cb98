-- Bytes are one document, or none. So they give one meaning, or break one rule.
use Rattle.std.proofs.Common.{◌≡◌, ℕ, List, Option, Some, None, refl, sym, ap, ◌∙◌}
use Rattle.toml.specs.Data.{Members}
use Rattle.toml_keys.specs.Document.{Reads}
use Rattle.toml_keys.specs.Judged.{BreaksBy, GivesBy}

-- what bytes are is told in one way
pub reads_one : (bytes : List ℕ) (document other : Option Members) → Reads bytes document → Reads bytes other → document ≡ other
reads_one bytes None None one other = refl
reads_one bytes None (Some ms) missing is = absurd (missing ms is)
reads_one bytes (Some ms) None is missing = absurd (missing ms is)
reads_one bytes (Some ms) (Some others) is also = sym is.2 ∙ also.2

-- bytes that give something break no rule
pub gives_breaks_none : {Rule : Type 0} (least : Option Members → Option Rule) (Meaning : Members → Type 0) (bytes : List ℕ) (rule : Rule) → GivesBy least Meaning bytes → BreaksBy least bytes rule → ⊥
gives_breaks_none least Meaning bytes rule gives breaks =
    let same = ap least (reads_one bytes (Some gives.0) breaks.0 gives.1 breaks.1) in
    let clash : Some rule ≡ None = sym breaks.2 ∙ sym same ∙ gives.2 in
    cc

-- bytes break one rule alone as the least
pub breaks_one : {Rule : Type 0} (least : Option Members → Option Rule) (bytes : List ℕ) (rule other : Rule) → BreaksBy least bytes rule → BreaksBy least bytes other → rule ≡ other
breaks_one least bytes rule other breaks also =
    let same = ap least (reads_one bytes breaks.0 also.0 breaks.1 also.1) in
    let both : Some rule ≡ Some other = sym breaks.2 ∙ same ∙ also.2 in
    cc

-- bytes that give something are one document
pub gives_one : {Rule : Type 0} (least : Option Members → Option Rule) (Meaning Other : Members → Type 0) (bytes : List ℕ) (gives : GivesBy least Meaning bytes) (also : GivesBy least Other bytes) → gives.0 ≡ also.0
gives_one least Meaning Other bytes gives also =
    let same : Some gives.0 ≡ Some also.0 = reads_one bytes (Some gives.0) (Some also.0) gives.1 also.1 in
    cc
