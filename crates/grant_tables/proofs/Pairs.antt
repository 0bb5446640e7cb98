-- Two grants, for the tests.
use Rattle.std.proofs.Common.{◌≡◌, ◌≢◌, ℕ, ◌≤◌, ◌⊎◌, [], ◌∷◌, get_or, All, AllPairs, IsTrue, IsSome, IfSome, subst, inl, arith}
use Rattle.std.proofs.lemmas.List.Elements.{All-nil, All-cons}
use Rattle.bundle_model.specs.declared.world.World.{World}
use Rattle.bundle_model.specs.declared.world.Grant.{Grant}
use Rattle.bundle_model.specs.Grants.{IsApart, EndsBefore, bundle_at, do_meet}

two_all : {X : Type 0} (P : X → Type 0) (x y : X) → P x → P y → All P (x ∷ y ∷ [])
two_all P x y one other = All-cons P x (y ∷ []) one (All-cons P y [] other (All-nil P))

two_pairs : {X : Type 0} (R : X → X → Type 0) (x y : X) → R x y → AllPairs R (x ∷ y ∷ [])
two_pairs R x y r = λ i j d below inside.
    let first : 0 ≡ i = omega (arith, below, inside) in
    let second : 1 ≡ j = omega (arith, below, inside) in
    let P : ℕ → Type 0 = λ n. R (get_or (x ∷ y ∷ []) n d) (get_or (x ∷ y ∷ []) j d) in
    let Q : ℕ → Type 0 = λ n. R x (get_or (x ∷ y ∷ []) n d) in
    subst P first (subst Q second r)

-- two grants are apart of which the first ends before the second begins where their resources meet
pub two_apart : (world : World) (first second : Grant) → IsSome (bundle_at world first.bundle) → IsSome (bundle_at world second.bundle) → first.label ≢ second.label → IfSome first.end (λ end. first.start ≤ end) → IfSome second.end (λ end. second.start ≤ end) → (IsTrue (do_meet world first second) → EndsBefore first second) → IsApart world (first ∷ second ∷ [])
two_apart world first second known other differ ordered later apart = record {
  known = two_all (λ (grant : Grant). IsSome (bundle_at world grant.bundle)) first second known other;
  labelled = two_pairs (λ (one two : Grant). one.label ≢ two.label) first second differ;
  in_order = two_all (λ (grant : Grant). IfSome grant.end (λ end. grant.start ≤ end)) first second ordered later;
  apart = two_pairs (λ (one two : Grant). IsTrue (do_meet world one two) → EndsBefore one two ⊎ EndsBefore two one) first second (λ meets. inl (apart meets));
}
