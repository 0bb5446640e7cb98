-- The places of the ends of links.
use Rattle.std.proofs.Common.{◌≡◌, ℕ, Bool, true, List, [], ◌∷◌, get_or, slice_get, find, position, length, Option, Some, None, IsSome, refl, sym, ap, subst, ◌∙◌, arith}
use Rattle.std.specs.List.{position_or_len}
use Rattle.std.proofs.lemmas.List.Folds.{find_at}
use Rattle.std.proofs.lemmas.Option.{none-some, same_Some, cond_some, slice_get_within, slice_get-get_or}
use Rattle.platform_model.specs.declared.link.Link.{Link}
use Rattle.tile_core.specs.Station.{Ends}
use Rattle.bundle_model.proofs.Laws.{none_found, no_place, passing_place}
use Rattle.serial_run.specs.declared.hops.Hop.{Hop}
use Rattle.serial_run.specs.inner.Hops.{AreHops, AllHaveEnds, HasEnds}

-- what is found stands at a position
pub some_place : {X : Type 0} (test : X → Bool) (xs : List X) (x : X) → find test xs ≡ Some x
    → IsSome (position test xs)
some_place test xs x is = by (position test xs) refl
  where
    by : (o : Option ℕ) → position test xs ≡ o → IsSome o
    by None none = absurd (none-some x (sym (none_found test xs (λ k y at. no_place test xs k y none at)) ∙ is))
    by (Some k) place = refl

pub placed : {X : Type 0} (test : X → Bool) (xs : List X) (x : X) (k : ℕ) → find test xs ≡ Some x
    → position test xs ≡ Some k
    → (slice_get xs k ≡ Some x) × (test x ≡ true)
placed test xs x k is place =
    let (y, y_at, passes) = passing_place test xs k place in
    let at : slice_get xs k ≡ Some x = ap (slice_get xs) (sym (cond_some _ (position_or_len test xs) k place).1)
    ∙ sym (find_at test xs) ∙ is in
    let same : y ≡ x = same_Some y x (sym y_at ∙ at) in
    (at, ap test (sym same) ∙ passes)

-- places that are those of as many links are each those of one
pub all_have_ends : (stations : List Ends) (links : List Link) (hops : List Hop) → AreHops stations links hops
    → length hops ≡ length links → AllHaveEnds stations hops
all_have_ends stations [] hops places as_many number hop at =
    absurd (let inside = slice_get_within hops number hop at in omega (arith, inside, as_many))
all_have_ends stations (link ∷ links) hops places as_many number hop at =
    let inside = slice_get_within hops number hop at in
    let (other, other_at, is) = places number (get_or (link ∷ links) number link)
    (slice_get-get_or (link ∷ links) number link (omega (arith, inside, as_many))) in
    let Has = HasEnds stations number in
    subst Has (same_Some other hop (sym other_at ∙ at)) is.ends
