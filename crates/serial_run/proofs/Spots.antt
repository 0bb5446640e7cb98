-- The ends of a tile's links: they are numbered upwards, and stand at different outputs or inputs.
use Rattle.std.proofs.Common.{◌≡◌, ℕ, zero, suc, ◌+◌, ◌<◌, ◌==◌, List, [], ◌∷◌, map, slice_get, Option, Some, None, refl, sym, ap, ◌∙◌, eq-eqb, arith}
use Rattle.std.specs.Option.{option_map_or}
use Rattle.std.proofs.lemmas.Bool.{eqb-true}
use Rattle.std.proofs.lemmas.Option.{none-some, same_Some, slice_get-map}
use Rattle.platform_model.specs.declared.link.Link.{Link}
use Rattle.tile_core.specs.Wires.{Seen, Spot, spot_of, spots, spots_from, flits_at}
use Rattle.bundle_model.proofs.Laws.{found_at}

-- a spot is that of a link
pub record IsSpot (place : Link → Option ℕ) (first : ℕ) (links : List Link) (spot : Spot) : Type 0 where
  pub number : ℕ
  pub link : Link
  pub at : slice_get links number ≡ Some link
  pub is : place link ≡ Some spot.place
  pub numbered : spot.link ≡ first + number

later : (place : Link → Option ℕ) (first : ℕ) (link : Link) (links : List Link) (spot : Spot)
    → IsSpot place (first + 1) links spot → IsSpot place first (link ∷ links) spot
later place first link links spot is = record {
  number = suc is.number;
  link = is.link;
  at = is.at;
  is = is.is;
  numbered = omega (arith, is.numbered);
}

pub spot_at : (place : Link → Option ℕ) (first : ℕ) (links : List Link) (k : ℕ) (spot : Spot)
    → slice_get (spots place first links) k ≡ Some spot → IsSpot place first links spot
spot_at place first [] k spot there = absurd (none-some spot there)
spot_at place first (link ∷ links) k spot there =
    by (place link) refl k there (λ j at. spot_at place (first + 1) links j spot at)
  where
    by : (o : Option ℕ) → place link ≡ o → (k : ℕ)
        → slice_get (spots_from first o (spots place (first + 1) links)) k ≡ Some spot
        → ((j : ℕ) → slice_get (spots place (first + 1) links) j ≡ Some spot → IsSpot place (first + 1) links spot)
        → IsSpot place first (link ∷ links) spot
    by None is k there rest = later place first link links spot (rest k there)
    by (Some p) is zero there rest =
        let same : record { link = first; place = p } ≡ spot = same_Some _ spot there in record {
          number = zero;
          link = link;
          at = refl;
          is = is ∙ ap (λ (s : Spot). Some s.place) same;
          numbered = sym (ap (λ (s : Spot). s.link) same) ∙ omega arith;
        }
    by (Some p) is (suc k) there rest = later place first link links spot (rest k there)

-- of each link there is one spot at most
pub spot_once : (place : Link → Option ℕ) (first : ℕ) (links : List Link) (i j : ℕ) (one other : Spot)
    → slice_get (spots place first links) i ≡ Some one → slice_get (spots place first links) j ≡ Some other
    → one.link ≡ other.link → i ≡ j
spot_once place first [] i j one other at_i at_j same = absurd (none-some one at_i)
spot_once place first (link ∷ links) i j one other at_i at_j same =
    by (place link) i j at_i at_j (λ k l at_k at_l. spot_once place (first + 1) links k l one other at_k at_l same)
  where
    past : (k : ℕ) (spot : Spot) → slice_get (spots place (first + 1) links) k ≡ Some spot → first < spot.link
    past k spot there = let is = spot_at place (first + 1) links k spot there in omega (arith, is.numbered)

    here : (p : ℕ) (spot : Spot) → ◌≡◌ {A = Option Spot} (Some (record { link = first; place = p })) (Some spot)
        → first ≡ spot.link
    here p spot is = ap (λ (s : Spot). s.link) (same_Some _ spot is)

    by : (o : Option ℕ) (i j : ℕ) → slice_get (spots_from first o (spots place (first + 1) links)) i ≡ Some one
        → slice_get (spots_from first o (spots place (first + 1) links)) j ≡ Some other
        → ((k l : ℕ) → slice_get (spots place (first + 1) links) k ≡ Some one
        → slice_get (spots place (first + 1) links) l ≡ Some other → k ≡ l) → i ≡ j
    by None i j at_i at_j rest = rest i j at_i at_j
    by (Some p) zero zero at_i at_j rest = refl
    by (Some p) zero (suc j) at_i at_j rest = absurd (omega (arith, here p one at_i, past j other at_j))
    by (Some p) (suc i) zero at_i at_j rest = absurd (omega (arith, here p other at_j, past i one at_i))
    by (Some p) (suc i) (suc j) at_i at_j rest = ap suc (rest i j at_i at_j)

-- no two links have one place
abbrev pub AreApartAt : (Link → Option ℕ) → List Link → Type 0
AreApartAt place links =
    (l m : ℕ) (one other : Link) (at : ℕ) → slice_get links l ≡ Some one → slice_get links m ≡ Some other
    → place one ≡ Some at → place other ≡ Some at → l ≡ m

module _ (place : Link → Option ℕ) (links : List Link) (ends : List Seen)
    (wired : map spot_of ends ≡ spots place 0 links) where
  seen_spot : (k : ℕ) (seen : Seen) → slice_get ends k ≡ Some seen
      → slice_get (spots place 0 links) k ≡ Some (spot_of seen)
  seen_spot k seen there = ap (λ (l : List Spot). slice_get l k) (sym wired) ∙ slice_get-map spot_of ends k
      ∙ ap (λ o. map_it o) there
    where
      map_it : Option Seen → Option Spot
      map_it None = None
      map_it (Some s) = Some (spot_of s)

  -- the link of an end
  pub end_link : (k : ℕ) (seen : Seen) → slice_get ends k ≡ Some seen → IsSpot place 0 links (spot_of seen)
  end_link k seen there = spot_at place 0 links k (spot_of seen) (seen_spot k seen there)

  -- two ends of one link are one
  pub end_once : (i j : ℕ) (one other : Seen) → slice_get ends i ≡ Some one → slice_get ends j ≡ Some other
      → one.link ≡ other.link → i ≡ j
  end_once i j one other at_i at_j same =
      spot_once place 0 links i j (spot_of one) (spot_of other) (seen_spot i one at_i) (seen_spot j other at_j) same

  -- the flits at an output or input are those of the end that stands there
  pub flits_there : AreApartAt place links → (k : ℕ) (seen : Seen) → slice_get ends k ≡ Some seen
      → flits_at ends seen.place ≡ seen.flits
  flits_there apart k seen there =
      ap (λ (o : Option Seen). option_map_or (λ (s : Seen). s.flits) o [])
      (found_at (λ (s : Seen). s.place == seen.place) ends k seen there (eq-eqb seen.place seen.place refl)
      (λ j other at_j passes.
      let one = end_link k seen there in
      let two = end_link j other at_j in
      let same : other.place ≡ seen.place = eqb-true other.place seen.place passes in
      let numbers = apart two.number one.number two.link one.link seen.place two.at one.at
      (two.is ∙ ap (λ (p : ℕ). Some p) same) one.is in
      end_once j k other seen at_j there (omega (arith, two.numbered, one.numbered, numbers))))
