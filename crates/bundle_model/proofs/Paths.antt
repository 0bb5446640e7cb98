-- A raw path that leads from one tile to another means a path.
use Rattle.std.proofs.Common.{◌≡◌, ℕ, ℤ, zero, suc, pos, negsuc, ◌-◌, ◌<◌, ◌≤◌, ◌==◌, Bool, true, false, not, ◌&&◌, cond, List, [], ◌∷◌, map, length, int_le, slice_get, Option, Some, None, refl, sym, ap, ◌∙◌, subst, arith}
use Rattle.std.specs.Prelude.{nat_abs, nat_le}
use Rattle.std.specs.List.{AllByRecursion}
use Rattle.std.specs.Option.{option_map_or}
use Rattle.std.proofs.lemmas.Bool.{and_parts, eqb-true, leb-true}
use Rattle.std.proofs.lemmas.List.{length-map}
use Rattle.std.proofs.lemmas.Option.{none-some, same_Some, slice_get_within}
use Rattle.soc_base.specs.declared.limits.TheConstants.{MOST_PATH}
use Rattle.platform_model.specs.declared.link.Link.{Link}
use Rattle.platform_model.specs.declared.platform.Platform.{Platform}
use Rattle.bundle_model.specs.Rules.{is_empty, link_at, leads, is_path}
use Rattle.bundle_model.specs.WellFormed.{IsPath}
use Rattle.bundle_model.proofs.Raws.{IsBelow}

-- the links lead from one tile to another
abbrev Leads : Platform → ℕ → ℕ → List ℕ → Type 0
Leads platform from to [] = from ≡ to
Leads platform from to (number ∷ rest) = (link : Link) × (slice_get platform.links number ≡ Some link) × (link.from ≡ from) × Leads platform link.to to rest

-- a link that there is has a number below that of the links
named_link : (platform : Platform) (number : ℤ) (link : Link) → link_at platform number ≡ Some link → (slice_get platform.links (nat_abs number) ≡ Some link) × IsBelow (length platform.links) number
named_link platform (pos n) link is = by_sign (int_le (pos 0) (pos n)) is
  where
    by_sign : (there : Bool) → cond there (slice_get platform.links n) None ≡ Some link → (slice_get platform.links n ≡ Some link) × IsBelow (length platform.links) (pos n)
    by_sign true at = (at, (n, refl, slice_get_within platform.links n link at))
    by_sign false at = absurd (none-some link at)
named_link platform (negsuc n) link is = absurd (none-some link is)

leads_so : (platform : Platform) (from to : ℕ) (path : List ℤ) → leads platform from to path ≡ true → Leads platform from to (map nat_abs path) × AllByRecursion (IsBelow (length platform.links)) path
leads_so platform from to [] lead = (eqb-true from to lead, tt)
leads_so platform from to (number ∷ path) lead = by_link (link_at platform number) (λ link. leads_so platform link.to to path) refl lead
  where
    by_link : (named : Option Link) → ((link : Link) → leads platform link.to to path ≡ true → Leads platform link.to to (map nat_abs path) × AllByRecursion (IsBelow (length platform.links)) path) → link_at platform number ≡ named → option_map_or (λ (link : Link). link.from == from && leads platform link.to to path) named false ≡ true
        → Leads platform from to (map nat_abs (number ∷ path)) × AllByRecursion (IsBelow (length platform.links)) (number ∷ path)
    by_link None later is lead = cc
    by_link (Some link) later is lead =
        let both = and_parts (link.from == from) (leads platform link.to to path) lead in
        let there = named_link platform number link is in
        let rest = later link both.1 in
        ((link, there.0, eqb-true link.from from both.0, rest.0), (there.1, rest.1))

linked : (platform : Platform) (from to : ℕ) (path : List ℕ) → Leads platform from to path → (k number : ℕ) → slice_get path k ≡ Some number → (link : Link) × (slice_get platform.links number ≡ Some link)
linked platform from to [] lead k number at = absurd (none-some number at)
linked platform from to (first ∷ path) (link, there, begins, rest) zero number at =
    (link, ap (slice_get platform.links) (sym (same_Some first number at)) ∙ there)
linked platform from to (first ∷ path) (link, there, begins, rest) (suc k) number at = linked platform link.to to path rest k number at

same_link : (platform : Platform) (number other : ℕ) (link also : Link) → slice_get platform.links number ≡ Some link → number ≡ other → slice_get platform.links other ≡ Some also → link ≡ also
same_link platform number other link also there same too = same_Some link also (sym there ∙ ap (slice_get platform.links) same ∙ too)

begins : (platform : Platform) (from to : ℕ) (path : List ℕ) → Leads platform from to path → (number : ℕ) (link : Link) → slice_get path 0 ≡ Some number → slice_get platform.links number ≡ Some link → link.from ≡ from
begins platform from to [] lead number link at there = absurd (none-some number at)
begins platform from to (first ∷ path) (named, is, starts, rest) number link at there =
    sym (ap (λ (l : Link). l.from) (same_link platform first number named link is (same_Some first number at) there)) ∙ starts

joined : (platform : Platform) (from to : ℕ) (path : List ℕ) → Leads platform from to path → (k number next : ℕ) (link other : Link) → slice_get path k ≡ Some number → slice_get path (suc k) ≡ Some next → slice_get platform.links number ≡ Some link → slice_get platform.links next ≡ Some other → other.from ≡ link.to
joined platform from to [] lead k number next link other at behind there too = absurd (none-some number at)
joined platform from to (first ∷ path) (named, is, starts, rest) zero number next link other at behind there too =
    begins platform named.to to path rest next other behind too ∙ ap (λ (l : Link). l.to) (same_link platform first number named link is (same_Some first number at) there)
joined platform from to (first ∷ path) (named, is, starts, rest) (suc k) number next link other at behind there too =
    joined platform named.to to path rest k number next link other at behind there too

ends : (platform : Platform) (from to : ℕ) (path : List ℕ) → Leads platform from to path → (k number : ℕ) (link : Link) → suc k ≡ length path → slice_get path k ≡ Some number → slice_get platform.links number ≡ Some link → link.to ≡ to
ends platform from to [] lead k number link last at there = absurd (none-some number at)
ends platform from to (first ∷ []) (named, is, starts, arrives) zero number link last at there =
    sym (ap (λ (l : Link). l.to) (same_link platform first number named link is (same_Some first number at) there)) ∙ arrives
ends platform from to (first ∷ []) (named, is, starts, arrives) (suc k) number link last at there = absurd (none-some number at)
ends platform from to (first ∷ second ∷ path) (named, is, starts, rest) zero number link last at there = absurd (omega arith)
ends platform from to (first ∷ second ∷ path) (named, is, starts, rest) (suc k) number link last at there =
    ends platform named.to to (second ∷ path) rest k number link (omega arith) at there

some_length : (path : List ℤ) → not (is_empty path) ≡ true → 0 < length path
some_length [] some = cc
some_length (number ∷ path) some = omega arith

-- what a raw path means
pub path_so : (platform : Platform) (from to : ℕ) (path : List ℤ) → is_path platform from to path ≡ true → IsPath platform from to (map nat_abs path) × AllByRecursion (IsBelow (length platform.links)) path
path_so platform from to path kept =
    let two = and_parts (not (is_empty path) && nat_le (length path) MOST_PATH) (leads platform from to path) kept in
    let one = and_parts (not (is_empty path)) (nat_le (length path) MOST_PATH) two.0 in
    let some = some_length path one.0 in
    let few = leb-true (length path) MOST_PATH one.1 in
    let lead = leads_so platform from to path two.1 in
    let same : length (map nat_abs path) ≡ length path = length-map path nat_abs in (
      record {
        some_link = omega arith;
        few_links = subst (λ n. n ≤ MOST_PATH) (sym same) few;
        linked = linked platform from to (map nat_abs path) lead.0;
        begins = begins platform from to (map nat_abs path) lead.0;
        joined = joined platform from to (map nat_abs path) lead.0;
        ends = λ number link at there. ends platform from to (map nat_abs path) lead.0 (length (map nat_abs path) - 1) number link (omega arith) at there;
      },
      lead.1,
    )
