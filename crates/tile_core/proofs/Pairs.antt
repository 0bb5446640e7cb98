-- Two grants of two loads, for the tests.
use Rattle.std.proofs.Common.{◌≡◌, ◌≢◌, ℕ, ◌≤◌, ◌⊎◌, Bool, false, List, [], ◌∷◌, get_or, All, AllPairs, Contains, IsTrue, IsSome, IfSome, sym, subst, arith}
use Rattle.std.proofs.lemmas.Bool.{false≢true}
use Rattle.std.proofs.lemmas.List.Elements.{All-nil, All-cons}
use Rattle.bundle_model.specs.declared.world.World.{World}
use Rattle.bundle_model.specs.declared.world.LoadName.{LoadName}
use Rattle.bundle_model.specs.declared.world.Grant.{Grant}
use Rattle.bundle_model.specs.Grants.{IsApart, EndsBefore, bundle_at, do_meet}
use Rattle.bundle_model.specs.World.{AreOfLoads}

two_all : {X : Type 0} (P : X → Type 0) (x y : X) → P x → P y → All P (x ∷ y ∷ [])
two_all P x y one other = All-cons P x (y ∷ []) one (All-cons P y [] other (All-nil P))

two_pairs : {X : Type 0} (R : X → X → Type 0) (x y : X) → R x y → AllPairs R (x ∷ y ∷ [])
two_pairs R x y r = λ i j d below inside.
    let first : 0 ≡ i = omega (arith, below, inside) in
    let second : 1 ≡ j = omega (arith, below, inside) in
    let P : ℕ → Type 0 = λ n. R (get_or (x ∷ y ∷ []) n d) (get_or (x ∷ y ∷ []) j d) in
    let Q : ℕ → Type 0 = λ n. R x (get_or (x ∷ y ∷ []) n d) in
    subst P first (subst Q second r)

-- two grants whose resources don't meet are apart
pub two_apart : (world : World) (first second : Grant) (grants : List Grant) → grants ≡ first ∷ second ∷ [] → IsSome (bundle_at world first.bundle) → IsSome (bundle_at world second.bundle) → first.label ≢ second.label → IfSome first.end (λ end. first.start ≤ end) → IfSome second.end (λ end. second.start ≤ end) → do_meet world first second ≡ false → IsApart world grants
two_apart world first second grants are known other differ ordered later apart =
    let P : List Grant → Type 0 = λ xs. IsApart world xs in
    let Q : Bool → Type 0 = λ meet. IsTrue meet → EndsBefore first second ⊎ EndsBefore second first in
    subst P (sym are) (record {
      known = two_all (λ (grant : Grant). IsSome (bundle_at world grant.bundle)) first second known other;
      labelled = two_pairs (λ (one two : Grant). one.label ≢ two.label) first second differ;
      in_order = two_all (λ (grant : Grant). IfSome grant.end (λ end. grant.start ≤ end)) first second ordered later;
      apart = two_pairs (λ (one two : Grant). IsTrue (do_meet world one two) → EndsBefore one two ⊎ EndsBefore two one) first second (subst Q (sym apart) (λ never. absurd (false≢true never)));
    })

-- they are of two loads
pub two_of_loads : (loads : List LoadName) (one other : LoadName) (first second : Grant) (grants : List Grant) → loads ≡ one ∷ other ∷ [] → grants ≡ first ∷ second ∷ [] → one ≡ record { label = first.label; bundle = first.bundle } → other ≡ record { label = second.label; bundle = second.bundle } → AreOfLoads loads grants
two_of_loads loads one other first second grants these are a b =
    let Q : List LoadName → Type 0 = λ names. AreOfLoads names grants in
    let R : List Grant → Type 0 = λ xs. AreOfLoads (one ∷ other ∷ []) xs in
    subst Q (sym these) (subst R (sym are) (two_all (λ (grant : Grant). Contains (one ∷ other ∷ []) (record { label = grant.label; bundle = grant.bundle })) first second (0, omega arith, a) (1, omega arith, b)))
