-- The links of a platform: no two leave one output of a tile, and their outputs and inputs are numbered
-- below 7.
use Rattle.std.proofs.Common.{◌≡◌, ℕ, zero, suc, ◌<◌, Bool, true, false, List, [], ◌∷◌, map, get_or, slice_get, Some, None, refl, pos, int_le, int_lt, option_map, sym, ap, ◌∙◌, inl, inr, arith}
use Rattle.std.specs.List.{list_any, list_all}
use Rattle.std.specs.Ordering.{int_eq}
use Rattle.std.proofs.lemmas.Bool.{cases_order, or_parts, or_left, or_right, and_parts, and_from, false≢true, ltb-true}
use Rattle.std.proofs.lemmas.Bool.Decides.{Decides-int_eq}
use Rattle.std.proofs.lemmas.Option.{none-some, same_Some, slice_get-map, get_or_from_slice_get}
use Rattle.soc_base.specs.Twins.{has_twin}
use Rattle.soc_base.specs.declared.limits.TheConstants.{ROUTER_PORTS}
use Rattle.platform_model.specs.Links.{raw_link, leaves_alike, has_router_ports, is_router_port}
use Rattle.platform_model.specs.declared.link.Link.{Link}
use Rattle.platform_model.specs.declared.platform.Platform.{Platform}
use Rattle.grant_tables.specs.Entries.{link_of}

-- an item that passes a test
pub any_at : {X : Type 0} (test : X → Bool) (xs : List X) (k : ℕ) (x : X) → slice_get xs k ≡ Some x → test x ≡ true → list_any test xs ≡ true
any_at test [] k x there passes = absurd (none-some x there)
any_at test (y ∷ xs) zero x there passes = or_left (test y) (list_any test xs) (ap test (same_Some y x there) ∙ passes)
any_at test (y ∷ xs) (suc k) x there passes = or_right (test y) (list_any test xs) (any_at test xs k x there passes)

pub all_at : {X : Type 0} (test : X → Bool) (xs : List X) (k : ℕ) (x : X) → list_all test xs ≡ true → slice_get xs k ≡ Some x → test x ≡ true
all_at test [] k x all there = absurd (none-some x there)
all_at test (y ∷ xs) zero x all there = ap test (sym (same_Some y x there)) ∙ (and_parts (test y) (list_all test xs) all).0
all_at test (y ∷ xs) (suc k) x all there = all_at test xs k x (and_parts (test y) (list_all test xs) all).1 there

-- items of a list without twins aren't alike
pub no_twin : {X : Type 0} (alike : X → X → Bool) (xs : List X) (i j : ℕ) (x y : X) → has_twin alike xs ≡ false → i < j → slice_get xs i ≡ Some x → slice_get xs j ≡ Some y → alike x y ≡ true → ⊥
no_twin alike [] i j x y none before at_i at_j same = none-some x at_i
no_twin alike (z ∷ xs) zero zero x y none before at_i at_j same = absurd (omega arith)
no_twin alike (z ∷ xs) zero (suc j) x y none before at_i at_j same =
    let both = or_parts (list_any (alike z) xs) (has_twin alike xs) none in
    false≢true (sym both.0 ∙ any_at (alike z) xs j y at_j (ap (λ w. alike w y) (same_Some z x at_i) ∙ same))
no_twin alike (z ∷ xs) (suc i) zero x y none before at_i at_j same = absurd (omega arith)
no_twin alike (z ∷ xs) (suc i) (suc j) x y none before at_i at_j same =
    no_twin alike xs i j x y (or_parts (list_any (alike z) xs) (has_twin alike xs) none).1 (omega arith) at_i at_j same

pub numbers_equal : (a b : ℕ) → a ≡ b → int_eq (pos a) (pos b) ≡ true
numbers_equal a b same = (Decides-int_eq (pos a) (pos b)).1 (ap pos same)

pub raw_at : (platform : Platform) (number : ℕ) (link : Link) → slice_get platform.links number ≡ Some link → slice_get (map raw_link platform.links) number ≡ Some (raw_link link)
raw_at platform number link there = slice_get-map raw_link platform.links number ∙ ap (option_map raw_link) there

leave_alike : (one other : Link) → one.from ≡ other.from → one.out ≡ other.out → leaves_alike (raw_link one) (raw_link other) ≡ true
leave_alike one other from out =
    and_from (int_eq (pos one.from) (pos other.from)) (int_eq (pos one.out) (pos other.out)) (numbers_equal one.from other.from from) (numbers_equal one.out other.out out)

-- no two links leave one output of a tile
pub one_link : (platform : Platform) (l m : ℕ) (one other : Link) → slice_get platform.links l ≡ Some one → slice_get platform.links m ≡ Some other → one.from ≡ other.from → one.out ≡ other.out → l ≡ m
one_link platform l m one other at_l at_m from out = elim (cases_order l m) [
  | inl same ↦ same
  | inr (inl before) ↦ absurd (no_twin leaves_alike (map raw_link platform.links) l m (raw_link one) (raw_link other) platform.links_leave_apart before (raw_at platform l one at_l) (raw_at platform m other at_m) (leave_alike one other from out))
  | inr (inr behind) ↦ absurd (no_twin leaves_alike (map raw_link platform.links) m l (raw_link other) (raw_link one) platform.links_leave_apart behind (raw_at platform m other at_m) (raw_at platform l one at_l) (leave_alike other one (sym from) (sym out)))
]

router_port : (n : ℕ) → is_router_port (pos n) ≡ true → n < 7
router_port n is = ltb-true n ROUTER_PORTS (and_parts (int_le (pos 0) (pos n)) (int_lt (pos n) (pos ROUTER_PORTS)) is).1

-- outputs and inputs of links are those of routers
pub link_ports : (platform : Platform) (number : ℕ) (link : Link) → slice_get platform.links number ≡ Some link → (link.out < 7) × (link.input < 7)
link_ports platform number link there =
    let both = and_parts (is_router_port (pos link.out)) (is_router_port (pos link.input)) (all_at has_router_ports (map raw_link platform.links) number (raw_link link) platform.links_have_ports (raw_at platform number link there)) in
    (router_port link.out both.0, router_port link.input both.1)

-- the link of a number that there is
pub link_is : (platform : Platform) (number : ℕ) (link : Link) → slice_get platform.links number ≡ Some link → link_of platform number ≡ link
link_is platform number link there = get_or_from_slice_get platform.links number link _ there

-- and of a number that there isn't
pub no_link : (platform : Platform) (number : ℕ) → slice_get platform.links number ≡ None → link_of platform number ≡ record { from = 0; out = 0; to = 0; input = 0 }
no_link platform number none = none_there platform.links number _ none
  where
    none_there : (links : List Link) (k : ℕ) (d : Link) → slice_get links k ≡ None → get_or links k d ≡ d
    none_there [] k d missing = refl
    none_there (link ∷ links) zero d missing = absurd (none-some link (sym missing))
    none_there (link ∷ links) (suc k) d missing = none_there links k d missing
