-- Rows that get the resources of a list, one by one.
use Rattle.std.proofs.Common.{◌≡◌, ◌≢◌, ℕ, ◌+◌, ◌*◌, ◌<◌, ◌≤◌, Bool, List, [], length, get_or, take, Option, Some, None, inl, inr, refl, ap, ◌∙◌, sym, subst, arith}
use Rattle.std.specs.Prelude.{◌==◌, ◌&&◌}
use Rattle.std.specs.List.{All}
use Rattle.std.specs.Option.{option_map_or}
use Rattle.std.proofs.lemmas.Bool.{cases_eq, eq-eqb, ne_eqb, and_right}
use Rattle.std.proofs.lemmas.List.Sums.{sum_by_more, sum_by_more_le, count_by-le-length}
use Rattle.std.proofs.lemmas.List.{get_or_default}
use Rattle.platform_model.specs.declared.platform.Platform.{Platform}
use Rattle.bundle_model.specs.declared.bundle.Bundle.{Bundle}
use Rattle.bundle_model.specs.declared.world.World.{World}
use Rattle.bundle_model.specs.declared.world.LoadName.{LoadName}
use Rattle.bundle_model.specs.Resources.{resources_of}
use Rattle.bundle_model.specs.Grants.{bundle_at}
use Rattle.bundle_model.specs.World.{IsSoundCatalog}
use Rattle.bundle_model.proofs.Laws.{sound_bundle}
use Rattle.vep_manager.specs.inner.Claims.{claimed_at}
use Rattle.bundle_model.specs.declared.resource.Resource.{Resource}
use Rattle.vep_manager.specs.inner.Places.{row_of}
use Rattle.vep_manager.specs.inner.Held.{IsInOrder, held_count}
use Rattle.vep_manager.specs.inner.Rows.{HoldsOneMore}
use Rattle.vep_manager.specs.inner.Shelf.{Shelf}
use Rattle.vep_manager.specs.inner.Owned.{count_in, loads_in, in_row, Fits, HoldsMore}
use Rattle.vep_manager.proofs.Counts.{one_if, one_true, count_all, and_one}
use Rattle.vep_manager.proofs.ClaimCounts.{every}

-- a resource counts in its own row
here_counts : (tiles rows n : ℕ) (test : Resource → ℕ → Bool) (resource : Resource) (grant : ℕ)
    → row_of tiles rows resource ≡ n → one_if (in_row tiles rows n test resource grant) ≡ one_if (test resource grant)
here_counts tiles rows n test resource grant is =
    ap (λ b. one_if (test resource grant && b)) (eq-eqb (row_of tiles rows resource) n is)
    ∙ and_one (test resource grant)

-- and in no other
there_counts : (tiles rows n : ℕ) (test : Resource → ℕ → Bool) (resource : Resource) (grant : ℕ)
    → row_of tiles rows resource ≢ n → one_if (in_row tiles rows n test resource grant) ≡ 0
there_counts tiles rows n test resource grant apart =
    ap one_if
    (and_right (test resource grant) (row_of tiles rows resource == n) (ne_eqb (row_of tiles rows resource) n apart))

-- The next resource of the list finds room in its row.
module _ (tiles : ℕ) (list : List Resource) (i grant : ℕ) (old now : Shelf) (resource : Resource) (row : ℕ)
    (so_far : HoldsMore tiles (take i list) grant old now) (inside : i < length list)
    (is : resource ≡ get_or list i resource) (row_is : row ≡ row_of tiles (length old.rows) resource)
    (below : row < length old.rows) where
  pub has_room : Fits tiles list old → length (get_or now.rows row []) < get_or now.rooms row 0
  has_room fits =
      let rows : ℕ = length old.rows in
      let room = fits row below in
      let count = so_far.holds row below every in
      let old_len = count_all (get_or old.rows row []) in
      let now_len = count_all (get_or now.rows row []) in
      let more = sum_by_more_le (λ (r : Resource). one_if (row_of tiles rows r == row)) list i resource inside in
      let one = one_true (row_of tiles rows (get_or list i resource) == row)
      (eq-eqb (row_of tiles rows (get_or list i resource)) row
      (ap (row_of tiles rows) (sym is) ∙ sym row_is)) in
      let rooms = ap (λ (l : List ℕ). get_or l row 0) so_far.rooms in
      omega (arith, room, count, old_len, now_len, more, one, rooms)

  pub holds_more : (new : Shelf) → new.rooms ≡ now.rooms → length new.rows ≡ length now.rows
      → ((other : ℕ) → other ≢ row → get_or new.rows other [] ≡ get_or now.rows other [])
      → IsInOrder (get_or new.rows row [])
      → HoldsOneMore resource grant (get_or now.rows row []) (get_or new.rows row [])
      → HoldsMore tiles (take (i + 1) list) grant old new
  holds_more new rooms count others order one = record {
    rooms = rooms ∙ so_far.rooms;
    count = count ∙ so_far.count;
    in_order = λ n low.
        elim (cases_eq n row) [
          | inl same ↦ subst (λ k. IsInOrder (get_or new.rows k [])) (sym same) order
          | inr other ↦ subst IsInOrder (sym (others n other)) (so_far.in_order n low)
        ];
    holds = λ n low test.
        let rows : ℕ = length old.rows in
        let weight : Resource → ℕ = λ r. one_if (in_row tiles rows n test r grant) in
        let more = sum_by_more weight list i resource inside in
        let before = so_far.holds n low test in
        let last = ap weight (sym is) in
        elim (cases_eq n row) [
          | inl same ↦
              let new_row : held_count test (get_or new.rows n [])
              ≡ held_count test (get_or now.rows n []) + one_if (test resource grant) =
              subst (λ k. held_count test (get_or new.rows k [])
              ≡ held_count test (get_or now.rows k []) + one_if (test resource grant)) (sym same) (one test) in
              let here = here_counts tiles rows n test resource grant (sym row_is ∙ sym same) in
              omega (arith, more, before, last, new_row, here)
          | inr other ↦
              let new_row = ap (held_count test) (others n other) in
              let here = there_counts tiles rows n test resource grant (λ e. other (sym e ∙ sym row_is)) in
              omega (arith, more, before, last, new_row, here)
        ];
  }

-- The counts of the rows after one list more: each rose by as many resources of the list as lie in its row.
pub record HaveRisen (tiles : ℕ) (list : List Resource) (old new : List ℕ) : Type 0 where
  pub as_many : length new ≡ length old
  pub rose : (n : ℕ) → n < length old → get_or new n 0 ≡ get_or old n 0 + count_in tiles (length old) n list

-- For each row, how many of the resources that the bundles of the first `i` loads hold lie in it. The counts
-- are low, so that one list more still fits in 32 bits.
pub record AreCounted (world : World) (loads : List LoadName) (i : ℕ) (counts : List ℕ) : Type 0 where
  pub low : All (λ count. count ≤ 4096 * i) counts
  pub exact : (n : ℕ) → n < length counts → get_or counts n 0 ≡ loads_in world (length counts) n (take i loads)

-- A list is what the bundle of a load holds, and is short.
pub record IsClaimedBy (world : World) (load : LoadName) (list : List Resource) : Type 0 where
  pub claimed : list ≡ claimed_at world load.bundle
  pub few : length list ≤ 4096

-- the counts of one load more
pub rooms_more : (world : World) (loads : List LoadName) (i : ℕ) (load : LoadName) (old new : List ℕ) (list : List Resource)
    → i < length loads → get_or loads i load ≡ load → IsClaimedBy world load list
    → HaveRisen world.platform.tiles list old new → AreCounted world loads i old → AreCounted world loads (i + 1) new
rooms_more world loads i load old new list inside is of risen so_far =
    let tiles : ℕ = world.platform.tiles in
    let rows : ℕ = length old in
    let len = risen.as_many in
    record {
      low = λ k d below.
          let here = risen.rose k (omega (arith, below, len)) in
          let most = count_by-le-length (λ r. row_of tiles rows r == k) list in
          let before = so_far.low k 0 (omega (arith, below, len)) in
          let same = get_or_default new k d 0 below in
          omega (arith, here, most, before, same, of.few);
      exact = λ n below.
          let here = risen.rose n (omega (arith, below, len)) in
          let before = so_far.exact n (omega (arith, below, len)) in
          let weight : LoadName → ℕ = λ l. count_in tiles rows n (claimed_at world l.bundle) in
          let more = sum_by_more weight loads i load inside in
          let last = ap weight is in
          let list_count = ap (count_in tiles rows n) of.claimed in
          let shape = ap (λ k. loads_in world k n (take (i + 1) loads)) len in
          omega (arith, here, before, more, last, list_count, shape);
    }

claimed_few_by : (platform : Platform) (o : Option Bundle)
    → ((bundle : Bundle) → o ≡ Some bundle → length (resources_of platform bundle) ≤ 4096)
    → length (option_map_or (resources_of platform) o []) ≤ 4096
claimed_few_by platform None few = omega arith
claimed_few_by platform (Some bundle) few = few bundle refl

-- no bundle holds too much
pub claimed_few : (world : World) (place : ℕ) → IsSoundCatalog world → length (claimed_at world place) ≤ 4096
claimed_few world place sound =
    claimed_few_by world.platform (bundle_at world place)
    (λ bundle is. let well = sound_bundle world place bundle sound is in omega (arith, well.few))
