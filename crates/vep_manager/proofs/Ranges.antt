-- Resources that meet lie in one row, and neither begins behind the other's end.
use Rattle.std.proofs.Common.{◌≡◌, ℕ, ◌+◌, ◌*◌, ◌≤◌, nat_lt, ◌==◌, ◌&&◌, ◌||◌, if◌then◌else◌, true, false, inl, inr, ap, ap₂, arith, eqb-true}
use Rattle.std.specs.Prelude.{max, min}
use Rattle.std.proofs.lemmas.Bool.{and_parts, or_cases, false≢true, ltb-true}
use Rattle.bundle_model.specs.declared.resource.Resource.{Resource}
use Rattle.bundle_model.specs.declared.resource.Resource.TheVariants.{Partition, Span, Port, Inject, LinkSlot, Deliver}
use Rattle.bundle_model.specs.Resources.{meets_of}
use Rattle.vep_manager.specs.declared.owners.places.TheConstants.{GROUP, PARTITIONS, PORTS, INJECTS, DELIVERS}
use Rattle.vep_manager.specs.inner.Places.{low_of, high_of, place_of, row_of}

-- two places that are made alike of two numbers
same_numbers : (f : ℕ → ℕ → ℕ) (a b c d : ℕ) → ((a == c && b == d) || false) ≡ true → f a b ≡ f c d
same_numbers f a b c d meets =
    elim (or_cases (a == c && b == d) false meets) [
      | inl same ↦
          let parts = and_parts (a == c) (b == d) same in
          ap₂ f (eqb-true a c parts.0) (eqb-true b d parts.1)
      | inr never ↦ absurd (false≢true never)
    ]

same_tile : (a b c d e f : ℕ) → meets_of (Span a b c) (Span d e f) ≡ true → a ≡ d
same_tile a b c d e f meets =
    elim (or_cases (a == d && b == e && c == f) (a == d && nat_lt (max b e) (min (b + c) (e + f))) meets) [
      | inl same ↦
          eqb-true a d (and_parts (a == d) (b == e) (and_parts (a == d && b == e) (c == f) same).0).0
      | inr share ↦ eqb-true a d (and_parts (a == d) (nat_lt (max b e) (min (b + c) (e + f))) share).0
    ]

-- neither of two spans that meet begins behind the other's end
touching : (a b c d e f : ℕ) → meets_of (Span a b c) (Span d e f) ≡ true → (b ≤ e + f) × (e ≤ b + c)
touching a b c d e f meets =
    elim (or_cases (a == d && b == e && c == f) (a == d && nat_lt (max b e) (min (b + c) (e + f))) meets) [
      | inl same ↦
          let begin = eqb-true b e (and_parts (a == d) (b == e) (and_parts (a == d && b == e) (c == f) same).0).1 in
          (omega (arith, begin), omega (arith, begin))
      | inr share ↦
          let low = ltb-true (max b e) (min (b + c) (e + f))
          (and_parts (a == d) (nat_lt (max b e) (min (b + c) (e + f))) share).1 in
          (omega (arith, low), omega (arith, low))
    ]

meet_place : (tiles : ℕ) (held resource : Resource) → meets_of held resource ≡ true
    → place_of tiles held ≡ place_of tiles resource
meet_place tiles (Partition t s) (Partition u v) meets = same_numbers (λ a b. a * GROUP + PARTITIONS + b) t s u v meets
meet_place tiles (Span t b l) (Span u a s) meets = ap (λ tile. tile * GROUP) (same_tile t b l u a s meets)
meet_place tiles (Port t s) (Port u v) meets = same_numbers (λ a b. a * GROUP + PORTS + b) t s u v meets
meet_place tiles (Inject t s) (Inject u v) meets = same_numbers (λ a b. a * GROUP + INJECTS + b) t s u v meets
meet_place tiles (LinkSlot t s) (LinkSlot u v) meets = same_numbers (λ a b. (tiles + a) * GROUP + b) t s u v meets
meet_place tiles (Deliver t s) (Deliver u v) meets = same_numbers (λ a b. a * GROUP + DELIVERS + b) t s u v meets
meet_place tiles _ _ meets = absurd (false≢true meets)

pub meet_row : (tiles rows : ℕ) (held resource : Resource) → meets_of held resource ≡ true
    → row_of tiles rows held ≡ row_of tiles rows resource
meet_row tiles rows held resource meets =
    ap (λ place. if nat_lt place rows then place else 0) (meet_place tiles held resource meets)

pub meet_range : (held resource : Resource) → meets_of held resource ≡ true
    → (low_of held ≤ high_of resource) × (low_of resource ≤ high_of held)
meet_range (Partition t s) (Partition u v) meets = (omega arith, omega arith)
meet_range (Span t b l) (Span u a s) meets = touching t b l u a s meets
meet_range (Port t s) (Port u v) meets = (omega arith, omega arith)
meet_range (Inject t s) (Inject u v) meets = (omega arith, omega arith)
meet_range (LinkSlot t s) (LinkSlot u v) meets = (omega arith, omega arith)
meet_range (Deliver t s) (Deliver u v) meets = (omega arith, omega arith)
meet_range _ _ meets = absurd (false≢true meets)
