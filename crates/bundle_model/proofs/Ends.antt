-- The ends of pairs that fit the ports of parts: each is a port of a part, and each port is an end of
-- one pair.
use Rattle.std.proofs.Common.{◌≡◌, ◌≢◌, ℕ, ℤ, zero, suc, pos, ◌+◌, ◌≤◌, ◌==◌, Bool, true, false, not, ◌&&◌, cond, List, [], ◌∷◌, map, filter, length, slice_get, AllPairs, Some, option_map, refl, sym, ap, ap₂, ◌∙◌, subst, inl, inr, arith}
use Rattle.std.specs.Prelude.{nat_abs}
use Rattle.std.specs.List.{list_any, list_all, flat_map, AllByRecursion}
use Rattle.std.specs.Ordering.{int_eq}
use Rattle.std.proofs.lemmas.Bool.{and_parts, and_from, or_cases, or_left, or_right, eqb-true, both_ways, not-true, false≢true}
use Rattle.std.proofs.lemmas.Bool.Decides.{Decides-int_eq}
use Rattle.std.proofs.lemmas.List.Elements.{All-from_recursion}
use Rattle.std.proofs.lemmas.List.Kept.{AllPairs-cons}
use Rattle.std.proofs.lemmas.Option.{none-some, same_Some, slice_get-map}
use Rattle.soc_base.specs.Twins.{has_twin}
use Rattle.platform_model.specs.declared.platform.Platform.{Platform}
use Rattle.bundle_model.specs.declared.raw.RawPair.{RawPair}
use Rattle.bundle_model.specs.declared.raw.RawPart.{RawPart}
use Rattle.bundle_model.specs.declared.raw.RawBundle.{RawBundle}
use Rattle.bundle_model.specs.declared.bundle.End.{End}
use Rattle.bundle_model.specs.declared.bundle.Part.{Part}
use Rattle.bundle_model.specs.Bundle.{part_of, end_of, pair_of, bundle_of}
use Rattle.bundle_model.specs.Rules.{has_tile, is_port, has_ports, is_end_at, is_end_of, is_held_end, end_tile, joins_parts, has_end, is_paired}
use Rattle.bundle_model.specs.Ways.{Way, pair_ways}
use Rattle.bundle_model.specs.WellFormed.{IsHeldEnd, IsLeft}
use Rattle.bundle_model.proofs.Raws.{IsBelow, below_from, equal}
use Rattle.bundle_model.proofs.Keyed.{filtered_place}
use Rattle.bundle_model.proofs.Places.{mapped_place}
use Rattle.bundle_model.proofs.Flat.{offset, flat_at}

-- an item of a list whose items all pass, and one of a list of which some passes
pub all_place : {X : Type 0} (test : X → Bool) (xs : List X) (k : ℕ) (x : X) → list_all test xs ≡ true → slice_get xs k ≡ Some x → test x ≡ true
all_place test [] k x all at = absurd (none-some x at)
all_place test (y ∷ xs) zero x all at = ap test (sym (same_Some y x at)) ∙ (and_parts (test y) (list_all test xs) all).0
all_place test (y ∷ xs) (suc k) x all at = all_place test xs k x (and_parts (test y) (list_all test xs) all).1 at

pub any_place : {X : Type 0} (test : X → Bool) (xs : List X) → list_any test xs ≡ true → (k : ℕ) × (x : X) × (slice_get xs k ≡ Some x) × (test x ≡ true)
any_place test [] found = absurd (false≢true found)
any_place test (y ∷ xs) found = elim (or_cases (test y) (list_any test xs) found) [
  | inl here ↦ (zero, y, refl, here)
  | inr later ↦ let at = any_place test xs later in (suc at.0, at.1, at.2, at.3)
]

-- an end is the two numbers of a tile and a port
pub end_is : (tile port : ℤ) (end : List ℤ) → is_end_at tile port end ≡ true → end ≡ tile ∷ port ∷ []
end_is tile port [] at = cc
end_is tile port (one ∷ []) at = cc
end_is tile port (one ∷ other ∷ []) at =
    let both = and_parts (int_eq one tile) (int_eq other port) at in
    ap₂ (λ a b. a ∷ b ∷ []) (equal one tile both.0) (equal other port both.1)
end_is tile port (one ∷ other ∷ third ∷ end) at = cc

pub end_at : (tile port : ℤ) (end : List ℤ) → end ≡ tile ∷ port ∷ [] → is_end_at tile port end ≡ true
end_at tile port end is =
    ap (is_end_at tile port) is ∙ and_from (int_eq tile tile) (int_eq port port) ((Decides-int_eq tile tile).1 refl) ((Decides-int_eq port port).1 refl)

-- an end that some part has
pub record IsHeldRaw (platform : Platform) (parts : List RawPart) (end : List ℤ) : Type 0 where
  pub place : ℕ
  pub part : RawPart
  pub there : slice_get parts place ≡ Some part
  pub index : ℕ
  pub port : ℤ
  pub at : slice_get part.ports index ≡ Some port
  pub is : end ≡ part.tile ∷ port ∷ []
  pub tile_below : IsBelow platform.tiles part.tile
  pub port_below : IsBelow platform.ports port

-- what the rules say of parts
pub record ArePorted (platform : Platform) (parts : List RawPart) : Type 0 where
  pub tiles : list_all (has_tile platform) parts ≡ true
  pub ports : list_all (has_ports platform) parts ≡ true

pub port_in : (platform : Platform) (parts : List RawPart) (place index : ℕ) (part : RawPart) (port : ℤ) → ArePorted platform parts → slice_get parts place ≡ Some part → slice_get part.ports index ≡ Some port → IsHeldRaw platform parts (part.tile ∷ port ∷ [])
port_in platform parts place index part port are there at =
    let tile = all_place (has_tile platform) parts place part are.tiles there in
    let ports = and_parts (list_all (is_port platform) part.ports) (not (has_twin int_eq part.ports)) (all_place (has_ports platform) parts place part are.ports there) in
    record {
      place = place;
      part = part;
      there = there;
      index = index;
      port = port;
      at = at;
      is = refl;
      tile_below = below_from part.tile platform.tiles tile;
      port_below = below_from port platform.ports (all_place (is_port platform) part.ports index port ports.0 at);
    }

pub held_raw : (platform : Platform) (parts : List RawPart) (end : List ℤ) → ArePorted platform parts → is_held_end parts end ≡ true → IsHeldRaw platform parts end
held_raw platform parts end are held =
    let one = any_place (is_end_of end) parts held in
    let two = any_place (λ port. is_end_at one.1.tile port end) one.1.ports one.3 in
    subst (IsHeldRaw platform parts) (sym (end_is one.1.tile two.1 end two.3)) (port_in platform parts one.0 two.0 one.1 two.1 are one.2 two.2)

-- what it means is an end that some part of the bundle has
pub held_end : (platform : Platform) (raw : RawBundle) (end : List ℤ) → IsHeldRaw platform raw.parts end → IsHeldEnd (bundle_of raw) (end_of end)
held_end platform raw end held =
    let numbers : end_of end ≡ record { tile = nat_abs held.part.tile; port = nat_abs held.port } = ap end_of held.is in
    record {
      place = held.place;
      part = part_of held.part;
      there = slice_get-map part_of raw.parts held.place ∙ ap (option_map part_of) held.there;
      tile = sym (ap (λ (e : End). e.tile) numbers);
      index = held.index;
      port = slice_get-map nat_abs held.part.ports held.index ∙ ap (option_map nat_abs) held.at ∙ ap (λ (e : End). Some e.port) (sym numbers);
    }

-- numbers that are not below 0 are one where what they mean is
below_one : (one other : ℤ) (limit : ℕ) → IsBelow limit one → IsBelow limit other → nat_abs one ≡ nat_abs other → one ≡ other
below_one one other limit (n, is, low) (m, too, under) same = is ∙ ap pos (sym (ap nat_abs is) ∙ same ∙ ap nat_abs too) ∙ sym too

-- so ends are one where what they mean is
pub ends_one : (platform : Platform) (parts : List RawPart) (one other : List ℤ) → IsHeldRaw platform parts one → IsHeldRaw platform parts other → end_of one ≡ end_of other → one ≡ other
ends_one platform parts one other held also same =
    let meant : end_of one ≡ record { tile = nat_abs held.part.tile; port = nat_abs held.port } = ap end_of held.is in
    let too : end_of other ≡ record { tile = nat_abs also.part.tile; port = nat_abs also.port } = ap end_of also.is in
    let tiles = below_one held.part.tile also.part.tile platform.tiles held.tile_below also.tile_below (sym (ap (λ (e : End). e.tile) meant) ∙ ap (λ (e : End). e.tile) same ∙ ap (λ (e : End). e.tile) too) in
    let ports = below_one held.port also.port platform.ports held.port_below also.port_below (sym (ap (λ (e : End). e.port) meant) ∙ ap (λ (e : End). e.port) same ∙ ap (λ (e : End). e.port) too) in
    held.is ∙ ap₂ (λ t p. t ∷ p ∷ []) tiles ports ∙ sym also.is

-- the ends of a pair that joins parts
pub record IsJoined (platform : Platform) (parts : List RawPart) (pair : RawPair) : Type 0 where
  pub a : IsHeldRaw platform parts pair.a
  pub b : IsHeldRaw platform parts pair.b
  pub apart : (end_of pair.a).tile ≢ (end_of pair.b).tile

tile_of_end : (platform : Platform) (parts : List RawPart) (end : List ℤ) (held : IsHeldRaw platform parts end) → end_tile end ≡ held.part.tile
tile_of_end platform parts end held = ap end_tile held.is

pub joined_so : (platform : Platform) (parts : List RawPart) (pair : RawPair) → ArePorted platform parts → joins_parts parts pair ≡ true → IsJoined platform parts pair
joined_so platform parts pair are joins =
    let two = and_parts (is_held_end parts pair.a && is_held_end parts pair.b) (not (int_eq (end_tile pair.a) (end_tile pair.b))) joins in
    let one = and_parts (is_held_end parts pair.a) (is_held_end parts pair.b) two.0 in
    let a = held_raw platform parts pair.a are one.0 in
    let b = held_raw platform parts pair.b are one.1 in
    record {
      a = a;
      b = b;
      apart = λ same.
          let tiles = below_one (end_tile pair.a) (end_tile pair.b) platform.tiles (subst (IsBelow platform.tiles) (sym (tile_of_end platform parts pair.a a)) a.tile_below) (subst (IsBelow platform.tiles) (sym (tile_of_end platform parts pair.b b)) b.tile_below) same in
          both_ways (int_eq (end_tile pair.a) (end_tile pair.b)) (not-true (int_eq (end_tile pair.a) (end_tile pair.b)) two.1) ((Decides-int_eq (end_tile pair.a) (end_tile pair.b)).1 tiles);
    }

pub all_joined : (platform : Platform) (parts : List RawPart) (pairs : List RawPair) → ArePorted platform parts → list_all (joins_parts parts) pairs ≡ true → AllByRecursion (IsJoined platform parts) pairs
all_joined platform parts [] are all = tt
all_joined platform parts (pair ∷ pairs) are all =
    let both = and_parts (joins_parts parts pair) (list_all (joins_parts parts) pairs) all in
    (joined_so platform parts pair are both.0, all_joined platform parts pairs are both.1)

-- where one item alone may pass, and the first does, no other does
none_pass : {X : Type 0} (test : X → Bool) (xs : List X) → length (filter test xs) ≡ 0 → AllByRecursion (λ x. test x ≡ false) xs
none_pass test [] none = tt
none_pass test (x ∷ xs) none = by_test (test x) (none_pass test xs) refl none
  where
    by_test : (b : Bool) → (length (filter test xs) ≡ 0 → AllByRecursion (λ y. test y ≡ false) xs) → test x ≡ b → length (cond b (x ∷ filter test xs) (filter test xs)) ≡ 0 → AllByRecursion (λ y. test y ≡ false) (x ∷ xs)
    by_test true rest is none = absurd (omega (arith, none))
    by_test false rest is none = (is, rest none)

others_fail : {X : Type 0} (test : X → Bool) (x : X) (xs : List X) → length (filter test (x ∷ xs)) ≤ 1 → test x ≡ true → AllByRecursion (λ y. test y ≡ false) xs
others_fail test x xs few passes =
    let counted : length (cond (test x) (x ∷ filter test xs) (filter test xs)) ≡ length (x ∷ filter test xs) = ap (λ b. length (cond b (x ∷ filter test xs) (filter test xs))) passes in
    none_pass test xs (omega arith)

fewer : {X : Type 0} (test : X → Bool) (x : X) (xs : List X) → length (filter test (x ∷ xs)) ≤ 1 → length (filter test xs) ≤ 1
fewer test x xs few = by_test (test x) few
  where
    by_test : (b : Bool) → length (cond b (x ∷ filter test xs) (filter test xs)) ≤ 1 → length (filter test xs) ≤ 1
    by_test true few = omega (arith, few)
    by_test false few = few

-- each end is one of at most one pair
abbrev pub AreOnce : Platform → List RawPart → List RawPair → Type 0
AreOnce platform parts pairs = (end : List ℤ) (held : IsHeldRaw platform parts end) → length (filter (has_end held.part.tile held.port) pairs) ≤ 1

pub once : (platform : Platform) (parts : List RawPart) (pairs : List RawPair) → list_all (is_paired pairs) parts ≡ true → AreOnce platform parts pairs
once platform parts pairs all end held =
    let part = all_place (is_paired pairs) parts held.place held.part all held.there in
    let port = all_place (λ port. length (filter (has_end held.part.tile port) pairs) == 1) held.part.ports held.index held.port part held.at in
    let one = eqb-true (length (filter (has_end held.part.tile held.port) pairs)) 1 port in
    omega arith

-- an end is none of those of pairs of which it is no end
none_of : (platform : Platform) (parts : List RawPart) (end : List ℤ) (pairs : List RawPair) (held : IsHeldRaw platform parts end) → AllByRecursion (IsJoined platform parts) pairs → AllByRecursion (λ pair. has_end held.part.tile held.port pair ≡ false) pairs → AllByRecursion (λ way. (end_of end ≢ way.from) × (end_of end ≢ way.to)) (flat_map pair_ways (map pair_of pairs))
none_of platform parts end [] held joined fails = tt
none_of platform parts end (pair ∷ pairs) held (here, rest) (fails, others) =
    let tile = held.part.tile in
    let not_a : end_of end ≢ end_of pair.a = λ same.
    both_ways (has_end tile held.port pair) fails (or_left (is_end_at tile held.port pair.a) (is_end_at tile held.port pair.b) (end_at tile held.port pair.a (sym (ends_one platform parts end pair.a held here.a same) ∙ held.is))) in
    let not_b : end_of end ≢ end_of pair.b = λ same.
    both_ways (has_end tile held.port pair) fails (or_right (is_end_at tile held.port pair.a) (is_end_at tile held.port pair.b) (end_at tile held.port pair.b (sym (ends_one platform parts end pair.b held here.b same) ∙ held.is))) in
    ((not_a, not_b), ((not_b, not_a), none_of platform parts end pairs held rest others))

-- the ends of the first pair are none of the others'
first_fails : (platform : Platform) (parts : List RawPart) (pair : RawPair) (pairs : List RawPair) (end : List ℤ) (held : IsHeldRaw platform parts end) → AreOnce platform parts (pair ∷ pairs) → has_end held.part.tile held.port pair ≡ true → AllByRecursion (λ other. has_end held.part.tile held.port other ≡ false) pairs
first_fails platform parts pair pairs end held few has = others_fail (has_end held.part.tile held.port) pair pairs (few end held) has

later_once : (platform : Platform) (parts : List RawPart) (pair : RawPair) (pairs : List RawPair) → AreOnce platform parts (pair ∷ pairs) → AreOnce platform parts pairs
later_once platform parts pair pairs few = λ end held. fewer (has_end held.part.tile held.port) pair pairs (few end held)

-- no two channels leave one port or end at one port
abbrev pub Differ : Way → Way → Type 0
Differ one other = (one.from ≢ other.from) × (one.to ≢ other.to)

both_differ : (a b : End) (path slots : List ℕ) (ways : List Way) → AllByRecursion (λ way. (a ≢ way.from) × (a ≢ way.to)) ways → AllByRecursion (λ way. (b ≢ way.from) × (b ≢ way.to)) ways → AllByRecursion (Differ (record { from = a; to = b; path = path; slots = slots })) ways
both_differ a b path slots [] from to = tt
both_differ a b path slots (way ∷ ways) (one, from) (other, to) = ((one.0, other.1), both_differ a b path slots ways from to)

pub ways_differ : (platform : Platform) (parts : List RawPart) (pairs : List RawPair) → AllByRecursion (IsJoined platform parts) pairs → AreOnce platform parts pairs → AllPairs Differ (flat_map pair_ways (map pair_of pairs))
ways_differ platform parts [] joined few = λ i j x before inside. absurd (omega (arith, inside))
ways_differ platform parts (pair ∷ pairs) (here, rest) few =
    let ways = flat_map pair_ways (map pair_of pairs) in
    let a = here.a in
    let b = here.b in
    let has_a : has_end a.part.tile a.port pair ≡ true = or_left (is_end_at a.part.tile a.port pair.a) (is_end_at a.part.tile a.port pair.b) (end_at a.part.tile a.port pair.a a.is) in
    let has_b : has_end b.part.tile b.port pair ≡ true = or_right (is_end_at b.part.tile b.port pair.a) (is_end_at b.part.tile b.port pair.b) (end_at b.part.tile b.port pair.b b.is) in
    let none_a = none_of platform parts pair.a pairs a rest (first_fails platform parts pair pairs pair.a a few has_a) in
    let none_b = none_of platform parts pair.b pairs b rest (first_fails platform parts pair pairs pair.b b few has_b) in
    let later = ways_differ platform parts pairs rest (later_once platform parts pair pairs few) in
    let ends : end_of pair.a ≢ end_of pair.b = λ same. here.apart (ap (λ (e : End). e.tile) same) in
    let there : Way = record { from = end_of pair.a; to = end_of pair.b; path = map nat_abs pair.there.path; slots = map nat_abs pair.there.slots } in
    let back : Way = record { from = end_of pair.b; to = end_of pair.a; path = map nat_abs pair.back.path; slots = map nat_abs pair.back.slots } in
    AllPairs-cons Differ there (back ∷ ways)
    (All-from_recursion (Differ there) (back ∷ ways) ((ends, λ same. ends (sym same)), both_differ (end_of pair.a) (end_of pair.b) there.path there.slots ways none_a none_b))
    (AllPairs-cons Differ back ways (All-from_recursion (Differ back) ways (both_differ (end_of pair.b) (end_of pair.a) back.path back.slots ways none_b none_a)) later)

-- each port of a part is left by a channel
leaves_pair : (tile port : ℤ) (pair : RawPair) → has_end tile port pair ≡ true → (k : ℕ) × (way : Way) × (slice_get (pair_ways (pair_of pair)) k ≡ Some way) × (way.from ≡ end_of (tile ∷ port ∷ []))
leaves_pair tile port pair has = elim (or_cases (is_end_at tile port pair.a) (is_end_at tile port pair.b) has) [
  | inl a ↦ (0, record { from = end_of pair.a; to = end_of pair.b; path = map nat_abs pair.there.path; slots = map nat_abs pair.there.slots }, refl, ap end_of (end_is tile port pair.a a))
  | inr b ↦ (1, record { from = end_of pair.b; to = end_of pair.a; path = map nat_abs pair.back.path; slots = map nat_abs pair.back.slots }, refl, ap end_of (end_is tile port pair.b b))
]

first_of : {X : Type 0} (xs : List X) → length xs ≡ 1 → (x : X) × (slice_get xs 0 ≡ Some x)
first_of [] one = absurd (omega (arith, one))
first_of (x ∷ xs) one = (x, refl)

pub paired_so : (raw : RawBundle) → list_all (is_paired raw.pairs) raw.parts ≡ true → (end : End) → IsHeldEnd (bundle_of raw) end → IsLeft (bundle_of raw) end
paired_so raw all end held =
    let part = mapped_place part_of raw.parts held.place held.part held.there in
    let in_part : slice_get (map nat_abs part.0.ports) held.index ≡ Some end.port = ap (λ (p : Part). slice_get p.ports held.index) part.2 ∙ held.port in
    let port = mapped_place nat_abs part.0.ports held.index end.port in_part in
    let tile = part.0.tile in
    let ports = all_place (is_paired raw.pairs) raw.parts held.place part.0 all part.1 in
    let alone = all_place (λ p. length (filter (has_end tile p) raw.pairs) == 1) part.0.ports held.index port.0 ports port.1 in
    let first = first_of (filter (has_end tile port.0) raw.pairs) (eqb-true (length (filter (has_end tile port.0) raw.pairs)) 1 alone) in
    let at = filtered_place (has_end tile port.0) raw.pairs 0 first.0 first.1 in
    let way = leaves_pair tile port.0 first.0 at.2 in
    let there : slice_get (map pair_of raw.pairs) at.0 ≡ Some (pair_of first.0) = slice_get-map pair_of raw.pairs at.0 ∙ ap (option_map pair_of) at.1 in
    let same_tile : nat_abs tile ≡ end.tile = ap (λ (p : Part). p.tile) part.2 ∙ held.tile in
    record {
      number = offset pair_ways (map pair_of raw.pairs) at.0 + way.0;
      way = way.1;
      there = flat_at pair_ways (map pair_of raw.pairs) at.0 way.0 (pair_of first.0) way.1 there way.2;
      from = way.3 ∙ ap₂ (λ t p. record { tile = t; port = p }) same_tile port.2;
    }
