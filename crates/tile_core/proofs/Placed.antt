-- The ends of a tile's links, by the places at which they stand.
use Rattle.std.proofs.Common.{◌≡◌, ℕ, zero, suc, ◌+◌, ◌<◌, ◌==◌, Bool, true, false, cond, ◌||◌, ◌&&◌, List, [], ◌∷◌, map, find, length, get_or, Contains, Option, Some, None, option_map, is_some, pos, refl, sym, ap, ap₂, ◌∙◌, arith}
use Rattle.std.specs.Ordering.{int_eq}
use Rattle.std.specs.List.{list_any}
use Rattle.std.specs.Option.{option_map_or}
use Rattle.std.proofs.lemmas.Bool.{true≢false, eq-eqb, eqb-true, ne_eqb}
use Rattle.std.proofs.lemmas.Bool.Decides.{Decides-int_eq}
use Rattle.std.proofs.lemmas.Option.{none-some}
use Rattle.soc_base.specs.Twins.{has_twin}
use Rattle.platform_model.specs.Links.{raw_link, enters_alike}
use Rattle.platform_model.specs.declared.link.Link.{Link}
use Rattle.platform_model.specs.declared.raw.RawLink.{RawLink}
use Rattle.platform_model.specs.declared.platform.Platform.{Platform}
use Rattle.tile_core.specs.Wires.{Spot, Seen, spot_of, spots_from, spots, input_on}

-- ---- finding in lists of images

pub find_map : {X Y : Type 0} (f : X → Y) (p : Y → Bool) (xs : List X) → find p (map f xs) ≡ option_map f (find (λ x. p (f x)) xs)
find_map f p [] = refl
find_map {X} {Y} f p (x ∷ xs) = by (p (f x)) (find_map f p xs)
  where
    by : (b : Bool) → find p (map f xs) ≡ option_map f (find (λ x. p (f x)) xs) → cond b (Some (f x)) (find p (map f xs)) ≡ option_map f (cond b (Some x) (find (λ x. p (f x)) xs))
    by true is = refl
    by false is = is

pub some_map : {X Y : Type 0} (f : X → Y) (o : Option X) → is_some (option_map f o) ≡ is_some o
some_map f None = refl
some_map f (Some x) = refl

pub map_or_map : {X Y Z : Type 0} (f : X → Y) (g : Y → Z) (d : Z) (o : Option X) → option_map_or g (option_map f o) d ≡ option_map_or (λ x. g (f x)) o d
map_or_map f g d None = refl
map_or_map f g d (Some x) = refl

-- what passes at a place is found
pub found_within : {X : Type 0} (p : X → Bool) (xs : List X) (k : ℕ) (d : X) → k < length xs → p (get_or xs k d) ≡ true → is_some (find p xs) ≡ true
found_within p [] k d low passes = absurd (omega arith)
found_within p (x ∷ xs) zero d low passes = ap (λ b. is_some (cond b (Some x) (find p xs))) passes
found_within {X} p (x ∷ xs) (suc k) d low passes = by (p x) (found_within p xs k d (omega arith) passes)
  where
    by : (b : Bool) → is_some (find p xs) ≡ true → is_some (cond b (Some x) (find p xs)) ≡ true
    by true is = refl
    by false is = is

-- ---- an end stands at a place exactly where a link has it

abbrev pub is_at : ℕ → Option ℕ → Bool
is_at p place = option_map_or (λ q. q == p) place false

both : {X Y : Type 0} (b : Bool) (x : X) (y : Y) (one : Option X) (other : Option Y) → is_some one ≡ is_some other → is_some (cond b (Some x) one) ≡ is_some (cond b (Some y) other)
both true x y one other is = refl
both false x y one other is = is

pub spot_at : (place : Link → Option ℕ) (p number : ℕ) (links : List Link) → is_some (find (λ spot. spot.place == p) (spots place number links)) ≡ is_some (find (λ link. is_at p (place link)) links)
spot_at place p number [] = refl
spot_at place p number (link ∷ links) = by (place link) (spot_at place p (number + 1) links)
  where
    by : (o : Option ℕ) → is_some (find (λ spot. spot.place == p) (spots place (number + 1) links)) ≡ is_some (find (λ other. is_at p (place other)) links) → is_some (find (λ spot. spot.place == p) (spots_from number o (spots place (number + 1) links))) ≡ is_some (cond (is_at p o) (Some link) (find (λ other. is_at p (place other)) links))
    by None is = is
    by (Some q) is = both (q == p) (record { link = number; place = q }) link (find (λ spot. spot.place == p) (spots place (number + 1) links)) (find (λ other. is_at p (place other)) links) is

-- the same of ends that are wired so
pub end_at : (place : Link → Option ℕ) (links : List Link) (ends : List Seen) (p : ℕ) → map spot_of ends ≡ spots place 0 links → is_some (find (λ seen. seen.place == p) ends) ≡ is_some (find (λ link. is_at p (place link)) links)
end_at place links ends p wired =
    let there = λ (spot : Spot). spot.place == p in
    sym (some_map spot_of (find (λ seen. seen.place == p) ends))
    ∙ sym (ap is_some (find_map spot_of there ends))
    ∙ ap (λ (all : List Spot). is_some (find there all)) wired
    ∙ spot_at place p 0 links

-- an end stands at the place that a link has
pub end_there : (place : Link → Option ℕ) (links : List Link) (ends : List Seen) (link : Link) (p : ℕ) → map spot_of ends ≡ spots place 0 links → Contains links link → place link ≡ Some p → is_some (find (λ seen. seen.place == p) ends) ≡ true
end_there place links ends link p wired inside is =
    let (k, low, at) = inside in
    end_at place links ends p wired
    ∙ found_within (λ other. is_at p (place other)) links k link low (ap (λ other. is_at p (place other)) at ∙ ap (is_at p) is ∙ eq-eqb p p refl)

-- ---- no two ends stand at one place

-- no two numbers are the same
abbrev pub AreApart : List ℕ → Type 0
AreApart [] = Unit {0}
AreApart (p ∷ ps) = (find (λ q. q == p) ps ≡ None) × AreApart ps

or_parts : (a b : Bool) → (a || b) ≡ false → (a ≡ false) × (b ≡ false)
or_parts true b is = absurd (true≢false is)
or_parts false b is = (refl, is)

module _ (place : Link → Option ℕ) (alike : RawLink → RawLink → Bool)
    (law : (one other : Link) (p q : ℕ) → place one ≡ Some p → place other ≡ Some q → alike (raw_link one) (raw_link other) ≡ false → (q == p) ≡ false) where
  none_alike : (one : Link) (p number : ℕ) (links : List Link) → place one ≡ Some p → list_any (alike (raw_link one)) (map raw_link links) ≡ false → find (λ q. q == p) (map (λ (spot : Spot). spot.place) (spots place number links)) ≡ None
  none_alike one p number [] at none = refl
  none_alike one p number (link ∷ links) at none =
      let parts = or_parts (alike (raw_link one) (raw_link link)) (list_any (alike (raw_link one)) (map raw_link links)) none in
      by (place link) refl parts.0 (none_alike one p (number + 1) links at parts.1)
    where
      by : (o : Option ℕ) → place link ≡ o → alike (raw_link one) (raw_link link) ≡ false → find (λ q. q == p) (map (λ (spot : Spot). spot.place) (spots place (number + 1) links)) ≡ None → find (λ q. q == p) (map (λ (spot : Spot). spot.place) (spots_from number o (spots place (number + 1) links))) ≡ None
      by None is other rest = rest
      by (Some q) is other rest = ap (λ b. cond b (Some q) (find (λ q. q == p) (map (λ (spot : Spot). spot.place) (spots place (number + 1) links)))) (law one link p q at is other) ∙ rest

  spots_apart : (number : ℕ) (links : List Link) → has_twin alike (map raw_link links) ≡ false → AreApart (map (λ (spot : Spot). spot.place) (spots place number links))
  spots_apart number [] none = tt
  spots_apart number (link ∷ links) none =
      let parts = or_parts (list_any (alike (raw_link link)) (map raw_link links)) (has_twin alike (map raw_link links)) none in
      by (place link) refl parts.0 (spots_apart (number + 1) links parts.1)
    where
      by : (o : Option ℕ) → place link ≡ o → list_any (alike (raw_link link)) (map raw_link links) ≡ false → AreApart (map (λ (spot : Spot). spot.place) (spots place (number + 1) links)) → AreApart (map (λ (spot : Spot). spot.place) (spots_from number o (spots place (number + 1) links)))
      by None is first rest = rest
      by (Some p) is first rest = (none_alike link p (number + 1) links is first, rest)

-- a place that a link has only where a number is another
pub if_some : (a b x p : ℕ) → cond (a == b) (Some x) None ≡ Some p → (a ≡ b) × (x ≡ p)
if_some a b x p is = by (a == b) refl is
  where
    by : (c : Bool) → (a == b) ≡ c → cond c (Some x) None ≡ Some p → (a ≡ b) × (x ≡ p)
    by true same one = (eqb-true a b same, ap (λ o. option_map_or (λ n. n) o 0) one)
    by false same one = absurd (none-some p one)

-- two numbers differ where a pair with the same number first isn't alike
differ : (a b c d tile p q : ℕ) → a ≡ tile → b ≡ tile → c ≡ p → d ≡ q → (int_eq (pos a) (pos b) && int_eq (pos c) (pos d)) ≡ false → (q == p) ≡ false
differ a b c d tile p q first second third fourth other =
    ne_eqb q p (λ same. true≢false (sym (ap₂ (λ x y. x && y) ((Decides-int_eq (pos a) (pos b)).1 (ap pos (first ∙ sym second))) ((Decides-int_eq (pos c) (pos d)).1 (ap pos (third ∙ sym same ∙ sym fourth)))) ∙ other))

-- the inputs at which links enter a tile differ, and so do the outputs at which they leave it
pub inputs_apart : (platform : Platform) (tile : ℕ) → AreApart (map (λ (spot : Spot). spot.place) (spots (input_on tile) 0 platform.links))
inputs_apart platform tile =
    spots_apart (input_on tile) enters_alike
    (λ one other p q at there is.
    let first = if_some one.to tile one.input p at in
    let second = if_some other.to tile other.input q there in
    differ one.to other.to one.input other.input tile p q first.0 second.0 first.1 second.1 is)
    0 platform.links platform.links_enter_apart
