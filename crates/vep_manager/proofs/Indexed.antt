-- What an index of owners keeps, from one grant to the next.
use Rattle.std.proofs.Common.{◌≡◌, ◌≢◌, ℕ, zero, suc, ◌+◌, ◌<◌, ◌≤◌, List, [], ◌∷◌, ◌++◌, length, map, get_or, set, Some, ap, ◌∙◌, sym, subst, arith}
use Rattle.std.specs.List.{All, AllPairs, Contains, count_by}
use Rattle.std.proofs.lemmas.List.{map_push, map-set, set-get_or, get_or-map, length-map, length_push}
use Rattle.std.proofs.lemmas.List.Elements.{All-nil, All-push, All-map}
use Rattle.std.proofs.lemmas.List.Quantifiers.{all_pairs_push}
use Rattle.std.proofs.lemmas.List.Sums.{sum_by_push}
use Rattle.soc_base.specs.declared.limits.TheConstants.{MOST_COMMANDS}
use Rattle.bundle_model.specs.declared.world.LoadName.{LoadName}
use Rattle.bundle_model.specs.declared.world.Grant.{Grant}
use Rattle.vep_manager.specs.declared.owners.held.Held.{Held}
use Rattle.vep_manager.specs.declared.setup.Setup.{Setup}
use Rattle.vep_manager.specs.Owners.{CanAdd, with_end}
use Rattle.vep_manager.specs.inner.Claims.{claimed_at, claims_of}
use Rattle.vep_manager.specs.inner.Held.{IsInOrder, held_count}
use Rattle.vep_manager.specs.inner.Shelf.{Shelf}
use Rattle.vep_manager.specs.inner.Owned.{Kept, AreRooms, IsIndex, IsFilled, Fits, HoldsMore, load_of, loads_in, count_in, in_row, claim_count}
use Rattle.vep_manager.proofs.Counts.{count_all}
use Rattle.vep_manager.proofs.ClaimCounts.{every, claim_count-push, claim_count-every}
use Rattle.vep_manager.proofs.Lists.{lighter, fewer, pairs_none}

-- A grant that can be added.
module _ (setup : Setup) (grants : List Grant) (kept : Kept) (grant : Grant) (index : IsIndex setup grants kept)
    (can : CanAdd (record { setup = setup; grants = grants }) grant) where
  -- the loads of the grants with it
  names : List LoadName
  names = map load_of grants ++ load_of grant ∷ []

  names_labelled : AllPairs (λ (one other : LoadName). one.label ≢ other.label) names
  unfolding names
  names_labelled =
      all_pairs_push (λ (one other : LoadName). one.label ≢ other.label) (map load_of grants) (load_of grant) index.labelled
      (All-map (λ (l : LoadName). l.label ≢ grant.label) load_of grants can.new)

  names_of_loads : All (Contains setup.loads) names
  unfolding names
  names_of_loads = All-push (Contains setup.loads) (map load_of grants) (load_of grant) index.of_loads can.of_load

  names_differ : AllPairs (λ (one other : LoadName). one ≢ other) names
  names_differ = λ i j d before below same. names_labelled i j d before below (ap (λ (l : LoadName). l.label) same)

  -- there are no more grants than loads
  pub few_with : length grants + 1 ≤ length setup.loads
  unfolding names
  few_with =
      let few = fewer names setup.loads names_differ names_of_loads in
      omega (arith, few, length_push (map load_of grants) (load_of grant), length-map grants load_of)

  -- and there is room for its resources
  pub fits_with : Fits setup.world.platform.tiles (claimed_at setup.world grant.bundle) kept.shelf
  unfolding names
  fits_with n below =
      let rows : ℕ = length kept.shelf.rows in
      let weight : LoadName → ℕ = λ l. count_in setup.world.platform.tiles rows n (claimed_at setup.world l.bundle) in
      let light = lighter weight names setup.loads names_differ names_of_loads in
      let push = sum_by_push weight (map load_of grants) (load_of grant) in
      let room = index.fits n below in
      let held = index.filled.holds n below every in
      let all = count_all (get_or kept.shelf.rows n []) in
      let every_one = claim_count-every setup.world rows n 0 (map load_of grants) in
      omega (arith, light, push, room, held, all, every_one)

  -- the rows that hold them too are filled
  filled_with : (shelf : Shelf)
      → HoldsMore setup.world.platform.tiles (claimed_at setup.world grant.bundle) (length grants) kept.shelf shelf
      → IsFilled setup.world names shelf.rows
  unfolding names
  filled_with shelf more = record {
    in_order = λ n below. more.in_order n (omega (arith, below, more.count));
    holds = λ n below test.
        let tiles : ℕ = setup.world.platform.tiles in
        let rows : ℕ = length kept.shelf.rows in
        let low : n < rows = omega (arith, below, more.count) in
        let push = claim_count-push setup.world (in_row tiles rows n test) 0 (map load_of grants) (load_of grant) in
        let place : 0 + length (map load_of grants) ≡ length grants = omega (arith, length-map grants load_of) in
        let last = ap (λ k. count_by (λ r. in_row tiles rows n test r k) (claimed_at setup.world grant.bundle)) place in
        let before = index.filled.holds n low test in
        let now = more.holds n low test in
        let count = ap (λ k. claim_count setup.world (in_row tiles k n test) 0 (map load_of grants ++ load_of grant ∷ []))
        more.count in
        omega (arith, push, last, before, now, count);
  }

  pub index_with : (shelf : Shelf)
      → HoldsMore setup.world.platform.tiles (claimed_at setup.world grant.bundle) (length grants) kept.shelf shelf
      → IsIndex setup (grants ++ grant ∷ []) (record kept { shelf = shelf })
  unfolding names
  index_with shelf more =
      let is : map load_of (grants ++ grant ∷ []) ≡ names = map_push load_of grants grant in
      record {
        lists = index.lists;
        tiles = index.tiles;
        some = omega (arith, index.some, more.count);
        filled = subst (λ (l : List LoadName). IsFilled setup.world l shelf.rows) (sym is) (filled_with shelf more);
        fits = λ n below.
            let room = index.fits n (omega (arith, below, more.count)) in
            let same = ap (λ (l : List ℕ). get_or l n 0) more.rooms in
            let count = ap (λ k. loads_in setup.world k n setup.loads) more.count in
            omega (arith, room, same, count);
        of_loads = subst (λ (l : List LoadName). All (Contains setup.loads) l) (sym is) names_of_loads;
        labelled = subst (λ (l : List LoadName). AllPairs (λ (one other : LoadName). one.label ≢ other.label) l) (sym is)
            names_labelled;
        few = index.few;
        grants_fit = index.grants_fit;
      }

-- a grant that changes keeps its label and its bundle
pub index_changed : (setup : Setup) (grants : List Grant) (kept : Kept) (place : ℕ) (old new : Grant)
    → IsIndex setup grants kept → place < length grants → get_or grants place old ≡ old → load_of new ≡ load_of old
    → IsIndex setup (set grants place new) kept
index_changed setup grants kept place old new index inside at same =
    let is : map load_of (set grants place new) ≡ map load_of grants =
    map-set load_of grants place new
    ∙ ap (set (map load_of grants) place) (same ∙ ap load_of (sym at)
    ∙ sym (get_or-map load_of grants place old (load_of old) inside))
    ∙ set-get_or (map load_of grants) place (load_of old) in
    record {
      lists = index.lists;
      tiles = index.tiles;
      some = index.some;
      filled = subst (λ (l : List LoadName). IsFilled setup.world l kept.shelf.rows) (sym is) index.filled;
      fits = index.fits;
      of_loads = subst (λ (l : List LoadName). All (Contains setup.loads) l) (sym is) index.of_loads;
      labelled = subst (λ (l : List LoadName). AllPairs (λ (one other : LoadName). one.label ≢ other.label) l) (sym is)
          index.labelled;
      few = index.few;
      grants_fit = index.grants_fit;
    }

-- the grants with an end, by the place
pub with_end_is : (grants : List Grant) (place end : ℕ) (old : Grant) → place < length grants → get_or grants place old ≡ old
    → with_end grants place end ≡ set grants place (record old { end = Some end })
with_end_is [] place end old inside at = absurd (omega (arith, inside))
with_end_is (grant ∷ grants) zero end old inside at =
    ap (λ (g : Grant). let ended : Grant = record g { end = Some end } in ended ∷ grants) at
with_end_is (grant ∷ grants) (suc place) end old inside at =
    ap (λ (gs : List Grant). grant ∷ gs) (with_end_is grants place end old (omega (arith, inside)) at)

-- no grants yet
pub index_none : (setup : Setup) (rooms : List ℕ) (kept : Kept) → AreRooms setup rooms → kept.lists ≡ claims_of setup.world
    → kept.tiles ≡ setup.world.platform.tiles
    → kept.shelf ≡ record { rows = map (λ room. []) rooms; rooms = rooms } → length setup.loads ≤ MOST_COMMANDS
    → length setup.loads ≤ kept.room → IsIndex setup [] kept
index_none setup rooms kept are lists tiles shelf few fit =
    let len = length-map rooms (λ (room : ℕ). let none : List Held = [] in none) in
    let rows = ap (λ (s : Shelf). length s.rows) shelf in
    let empty : (n : ℕ) → n < length kept.shelf.rows → get_or kept.shelf.rows n [] ≡ [] = λ n below.
    ap (λ (s : Shelf). get_or s.rows n []) shelf
    ∙ get_or-map (λ (room : ℕ). let none : List Held = [] in none) rooms n 0 [] (omega (arith, below, len, rows)) in
    record {
      lists = lists;
      tiles = tiles;
      some = omega (arith, len, rows, are.some);
      filled = record {
        in_order = λ n below. subst IsInOrder (sym (empty n below)) (λ i j d le low. absurd (omega (arith, low)));
        holds = λ n below test. ap (held_count test) (empty n below);
      };
      fits = λ n below.
          let count = are.counts n (omega (arith, below, len, rows)) in
          let room = ap (λ (s : Shelf). get_or s.rooms n 0) shelf in
          let shape = ap (λ k. loads_in setup.world k n setup.loads) (rows ∙ len) in
          omega (arith, count, room, shape);
      of_loads = All-nil (Contains setup.loads);
      labelled = pairs_none (λ (one other : LoadName). one.label ≢ other.label);
      few = few;
      grants_fit = fit;
    }
