-- The claims of paths, link by link.
use Rattle.std.proofs.Common.{◌≡◌, ℕ, ◌+◌, ◌<◌, ◌%◌, List, [], ◌∷◌, ◌++◌, length, get_or, take, sym, ap, ◌∙◌, append_assoc, arith}
use Rattle.std.proofs.lemmas.List.{take_more, length-take-le}
use Rattle.bundle_model.specs.declared.resource.Resource.{Resource}
use Rattle.bundle_model.specs.declared.resource.Resource.TheVariants.{LinkSlot}
use Rattle.bundle_model.specs.Resources.{link_claims}

claims_push : (table at : ℕ) (path : List ℕ) (link : ℕ) → link_claims table at (path ++ link ∷ []) ≡ link_claims table at path ++ LinkSlot link ((at + length path) % table) ∷ []
claims_push table at [] link =
    let e : at ≡ at + 0 = omega arith in
    ap (λ n. LinkSlot link (n % table) ∷ []) e
claims_push table at (first ∷ path) link =
    let e : at + 1 + length path ≡ at + length (first ∷ path) = omega arith in
    ap (λ rest. LinkSlot first (at % table) ∷ rest) (claims_push table (at + 1) path link ∙ ap (λ n. link_claims table (at + 1) path ++ LinkSlot link (n % table) ∷ []) e)

-- one link more
pub claims_more : (table slot : ℕ) (path : List ℕ) (hop link later : ℕ) (before list more : List Resource) → hop < length path → link ≡ get_or path hop 0 → later ≡ (slot + (hop + 1)) % table → list ≡ before ++ link_claims table (slot + 1) (take hop path) → more ≡ list ++ LinkSlot link later ∷ [] → more ≡ before ++ link_claims table (slot + 1) (take (hop + 1) path)
claims_more table slot path hop link later before list more inside is at listed grown =
    let short : length (take hop path) ≡ hop = length-take-le hop path (omega arith) in
    let place : slot + (hop + 1) ≡ slot + 1 + length (take hop path) = omega arith in
    let last : LinkSlot link later ≡ LinkSlot (get_or path hop 0) ((slot + 1 + length (take hop path)) % table) =
    ap (λ l. LinkSlot l later) is ∙ ap (LinkSlot (get_or path hop 0)) (at ∙ ap (λ n. n % table) place) in
    let longer : link_claims table (slot + 1) (take (hop + 1) path) ≡ link_claims table (slot + 1) (take hop path) ++ LinkSlot link later ∷ [] =
    ap (link_claims table (slot + 1)) (take_more path hop 0 inside) ∙ claims_push table (slot + 1) (take hop path) (get_or path hop 0)
    ∙ ap (λ r. link_claims table (slot + 1) (take hop path) ++ r ∷ []) (sym last) in
    grown ∙ ap (λ l. l ++ LinkSlot link later ∷ []) listed ∙ append_assoc before (link_claims table (slot + 1) (take hop path)) (LinkSlot link later ∷ []) ∙ ap (λ l. before ++ l) (sym longer)
