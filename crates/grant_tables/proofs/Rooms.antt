-- Room for entries that are installed one after the other, and for those behind the first ones.
use Rattle.std.proofs.Common.{◌≡◌, ◌≢◌, ℕ, zero, suc, ◌<◌, List, [], ◌∷◌, ◌++◌, get_or, slice_get, All, AllPairs, Some, None, refl, ◌∙◌, subst, inl, inr, arith}
use Rattle.std.specs.List.{flat_map}
use Rattle.std.proofs.lemmas.List.{get_or_append_left, length-append}
use Rattle.std.proofs.lemmas.Option.{none-some, slice_get-get_or}
use Rattle.soc_base.specs.declared.label.Label.{Label}
use Rattle.tdm_network.specs.declared.entries.TableEntry.{TableEntry}
use Rattle.tdm_network.specs.declared.rows.Row.{Row}
use Rattle.tdm_network.specs.Rows.{installed}
use Rattle.tdm_network.specs.Spots.{spots_of, spot_of, IsInRange}
use Rattle.grant_tables.specs.Tables.{with_entries}
use Rattle.grant_tables.specs.inner.Room.{HaveRoom}
use Rattle.grant_tables.proofs.Sides.{append_from, flat_from}
use Rattle.grant_tables.proofs.Install.{put_laid, put_elsewhere}

-- what holds of each item, of each two items at different places, and of each item of one list and each of
-- another
abbrev pub EachIs : {X : Type 0} → (X → Type 0) → List X → Type 0
EachIs {X} P xs = (k : ℕ) (x : X) → slice_get xs k ≡ Some x → P x

abbrev pub EachTwo : {X : Type 0} → (X → X → Type 0) → List X → Type 0
EachTwo {X} R xs = (i j : ℕ) (x y : X) → i < j → slice_get xs i ≡ Some x → slice_get xs j ≡ Some y → R x y

abbrev pub EachCross : {X : Type 0} → (X → X → Type 0) → List X → List X → Type 0
EachCross {X} R xs ys = (i j : ℕ) (x y : X) → slice_get xs i ≡ Some x → slice_get ys j ≡ Some y → R x y

pub all_from : {X : Type 0} (P : X → Type 0) (xs : List X) → EachIs P xs → All P xs
all_from P xs each = λ k d inside. each k (get_or xs k d) (slice_get-get_or xs k d inside)

pub pairs_from : {X : Type 0} (R : X → X → Type 0) (xs : List X) → EachTwo R xs → AllPairs R xs
pairs_from R xs two = λ i j d before inside. two i j (get_or xs i d) (get_or xs j d) before (slice_get-get_or xs i d (omega (arith, before, inside))) (slice_get-get_or xs j d inside)

two_append : {X : Type 0} (R : X → X → Type 0) (xs ys : List X) → EachTwo R xs → EachTwo R ys → EachCross R xs ys → EachTwo R (xs ++ ys)
two_append R [] ys first second cross i j x y before at_i at_j = second i j x y before at_i at_j
two_append R (z ∷ xs) ys first second cross zero zero x y before at_i at_j = absurd (omega (arith, before))
two_append R (z ∷ xs) ys first second cross zero (suc j) x y before at_i at_j = elim (append_from xs ys j y at_j) [
  | inl at ↦ first 0 (suc at.0) x y (omega arith) at_i at.1
  | inr at ↦ cross 0 at.0 x y at_i at.1
]
two_append R (z ∷ xs) ys first second cross (suc i) zero x y before at_i at_j = absurd (omega (arith, before))
two_append R (z ∷ xs) ys first second cross (suc i) (suc j) x y before at_i at_j =
    two_append R xs ys (λ k m a b earlier at_k at_m. first (suc k) (suc m) a b (omega (arith, earlier)) at_k at_m) second (λ k m a b at_k at_m. cross (suc k) m a b at_k at_m) i j x y (omega (arith, before)) at_i at_j

-- the items of one list, and those of the lists of two different items
pub two_flat : {X Y : Type 0} (R : Y → Y → Type 0) (f : X → List Y) (xs : List X)
    → EachIs (λ x. EachTwo R (f x)) xs → EachTwo (λ x y. EachCross R (f x) (f y)) xs → EachTwo R (flat_map f xs)
two_flat R f [] own cross = λ i j x y before at_i at_j. absurd (none-some x at_i)
two_flat {X} {Y} R f (first ∷ xs) own cross =
    let rest : EachTwo R (flat_map f xs) = two_flat R f xs (λ k x at. own (suc k) x at) (λ i j x y before at_i at_j. cross (suc i) (suc j) x y (omega (arith, before)) at_i at_j) in
    two_append R (f first) (flat_map f xs) (own 0 first refl) rest beyond
  where
    beyond : EachCross R (f first) (flat_map f xs)
    beyond i j a b at_i at_j = let from = flat_from f xs j b at_j in cross 0 (suc from.0) first from.1 (omega arith) refl from.3 i from.2 a b at_i from.4

-- room for the entries in front
pub room_front : (n : ℕ) (xs ys : List TableEntry) (rows : List Row) → HaveRoom n (xs ++ ys) rows → HaveRoom n xs rows
room_front n xs ys rows room = record {
  laid_out = room.laid_out;
  in_range = λ k d inside. subst (IsInRange n) (get_or_append_left xs ys d k inside) (room.in_range k d (omega (arith, inside, length-append xs ys)));
  free = λ k d inside. subst (λ entry. spots_of rows (spot_of entry) ≡ None) (get_or_append_left xs ys d k inside) (room.free k d (omega (arith, inside, length-append xs ys)));
  apart = λ i j d before inside.
      subst (λ entry. spot_of (get_or xs i d) ≢ spot_of entry) (get_or_append_left xs ys d j inside)
      (subst (λ entry. spot_of entry ≢ spot_of (get_or (xs ++ ys) j d)) (get_or_append_left xs ys d i (omega (arith, before, inside))) (room.apart i j d before (omega (arith, inside, length-append xs ys))));
}

-- room for the entries behind the first, once it stands
pub room_rest : (n : ℕ) (label : Label) (entry : TableEntry) (entries : List TableEntry) (rows : List Row) → HaveRoom n (entry ∷ entries) rows → HaveRoom n entries (installed label entry rows)
room_rest n label entry entries rows room =
    let range : IsInRange n entry = room.in_range 0 entry (omega arith) in
    record {
      laid_out = put_laid n label entry rows room.laid_out range;
      in_range = λ k d inside. room.in_range (suc k) d (omega (arith, inside));
      free = λ k d inside.
          put_elsewhere n (label, entry) rows (spot_of (get_or entries k d)) room.laid_out range (λ same. room.apart 0 (suc k) d (omega arith) (omega (arith, inside)) same)
          ∙ room.free (suc k) d (omega (arith, inside));
      apart = λ i j d before inside. room.apart (suc i) (suc j) d (omega (arith, before)) (omega (arith, inside));
    }

-- room for all entries is room for those in front, and then for the others
pub room_behind : (n : ℕ) (label : Label) (xs ys : List TableEntry) (rows : List Row) → HaveRoom n (xs ++ ys) rows → HaveRoom n ys (with_entries label xs rows)
room_behind n label [] ys rows room = room
room_behind n label (x ∷ xs) ys rows room = room_behind n label xs ys (installed label x rows) (room_rest n label x (xs ++ ys) rows room)
