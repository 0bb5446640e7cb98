-- Rows in one pool, of which one gets an entry more.
use Rattle.std.proofs.Common.{◌≡◌, ◌≢◌, ℕ, ◌+◌, ◌-◌, ◌<◌, ◌≤◌, Bool, cond, List, [], ◌∷◌, ◌++◌, length, map, get_or, set, take, drop, min, inl, inr, refl, sym, ap, ap₂, ◌∙◌, subst, arith, length-set, length-take, length-drop, get_or-take, get_or-drop, get_or-set_other, get_or-set_same}
use Rattle.std.specs.List.{All}
use borrow.Rule.Slice.PartMut.{put_mid}
use Rattle.std.proofs.lemmas.Bool.{cases_eq, cases_lt}
use Rattle.std.proofs.lemmas.List.{get_or-map, get_or_past, get_or_default, same_lists, length-map, map-set, set-get_or, take_more_set, drop-set-add, get_or_append_left, length_push}
use Rattle.std.proofs.lemmas.List.Elements.{All-set, All-head, All-tail}
use Rattle.std.proofs.lemmas.List.Sums.{sum_by_push}
use Rattle.std.proofs.lemmas.Slice.{between-put_mid}
use Rattle.bundle_model.specs.declared.resource.Resource.{Resource}
use Rattle.vep_manager.specs.declared.owners.held.Held.{Held}
use Rattle.vep_manager.specs.declared.owners.rows.Head.{Head}
use Rattle.vep_manager.specs.inner.Shelf.{Shelf}
use Rattle.vep_manager.specs.inner.Held.{IsCovered, IsInOrder, IsInOrderBut, held_count}
use Rattle.vep_manager.specs.inner.Rows.{row_in, IsInPool, IsLaidOut, IsSameAround}

-- a row, and an entry behind it
pub added : (pool : List Held) (begin len : ℕ) (held : Held) → begin + len < length pool
    → take (begin + len + 1 - begin) (drop begin (set pool (begin + len) held)) ≡ take len (drop begin pool) ++ held ∷ []
added pool begin len held inside =
    let count : begin + len + 1 - begin ≡ len + 1 = omega arith in
    let size = length-drop begin pool in
    let low : len < length (drop begin pool) = omega (arith, size) in
    ap (λ n. take n (drop begin (set pool (begin + len) held))) count
    ∙ ap (λ xs. take (len + 1) xs) (drop-set-add begin pool len held) ∙ take_more_set (drop begin pool) len held low

-- is in order but for that entry
pub order_added : (row : List Held) (held : Held) → IsInOrder row → IsInOrderBut (length (row ++ held ∷ []) - 1) (row ++ held ∷ [])
order_added row held order i j d le below apart =
    let size = length_push row held in
    let first = get_or_append_left row (held ∷ []) d i (omega (arith, size)) in
    let second = get_or_append_left row (held ∷ []) d j (omega (arith, size)) in
    subst (λ (e : Held). IsCovered e (get_or (row ++ held ∷ []) j d)) (sym first)
    (subst (λ (e : Held). IsCovered (get_or row i d) e) (sym second) (order i j d le (omega (arith, size))))

-- and holds one resource more
pub held_added : (test : Resource → ℕ → Bool) (row : List Held) (held : Held)
    → held_count test (row ++ held ∷ []) ≡ held_count test row + cond (test held.resource held.grant) 1 0
held_added test row held = sum_by_push (λ (h : Held). cond (test h.resource h.grant) 1 0) row held

-- what the row is after a write to it
pub row_written : (pool row : List Held) (begin len room : ℕ) → begin ≤ length pool → length row ≡ begin + len + 1 - begin
    → row_in (put_mid begin (begin + len + 1 - begin) pool row) (record { begin = begin; len = len + 1; room = room }) ≡ row
row_written pool row begin len room inside size =
    let count : len + 1 ≡ begin + len + 1 - begin = omega arith in
    ap (λ n. take n (drop begin (put_mid begin (begin + len + 1 - begin) pool row))) count
    ∙ between-put_mid begin (begin + len + 1 - begin) pool row (begin + len + 1) inside size

-- A row of those that contracts see, and where it lies.
module _ (heads : List Head) (pool : List Held) (value : Shelf) (n : ℕ) (head : Head)
    (view_is : record { rows = map (row_in pool) heads; rooms = map (λ (h : Head). h.room) heads } ≡ value)
    (below : n < length value.rows) (is : head ≡ get_or heads n head) where
  pub there : n < length heads
  there = omega (arith, below, ap (λ (s : Shelf). length s.rows) view_is, length-map heads (row_in pool))

  pub read : (d : Head) → get_or heads n d ≡ head
  read d = get_or_default heads n d head there ∙ sym is

  pub was : get_or value.rows n [] ≡ row_in pool head
  was =
      sym (ap (λ (s : Shelf). get_or s.rows n []) view_is) ∙ get_or-map (row_in pool) heads n head [] there
      ∙ ap (row_in pool) (read head)

  pub has_room : IsLaidOut heads pool → length (get_or value.rows n []) < get_or value.rooms n 0 → head.len < head.room
  has_room laid room =
      let here : IsInPool pool head = subst (IsInPool pool) (read head) (laid.inside n head there) in
      omega (
        arith,
        room,
        ap length was,
        length-take head.len (drop head.begin pool),
        length-drop head.begin pool,
        here.fits,
        here.inside,
        ap (λ (s : Shelf). get_or s.rooms n 0) view_is,
        get_or-map (λ (h : Head). h.room) heads n head 0 there,
        ap (λ (h : Head). h.room) (read head),
      )

-- one row of a pool gets an entry more
pub record IsPut (heads : List Head) (pool new : List Held) (n : ℕ) (head longer : Head) : Type 0 where
  pub laid : IsLaidOut heads pool
  pub inside : n < length heads
  pub is : (d : Head) → get_or heads n d ≡ head
  pub room : head.len < head.room
  pub around : IsSameAround head pool new
  pub is_longer : longer ≡ record head { len = head.len + 1 }

module _ (heads : List Head) (pool new : List Held) (n : ℕ) (head longer : Head)
    (put : IsPut heads pool new n head longer) where
  same_begin : (k : ℕ) (d : Head) → (get_or (set heads n longer) k d).begin ≡ (get_or heads k d).begin
  same_begin k d =
      elim (cases_eq k n) [
        | inl here ↦
            ap (λ m. (get_or (set heads n longer) m d).begin) here
            ∙ ap (λ (h : Head). h.begin) (get_or-set_same heads n longer d put.inside ∙ put.is_longer)
            ∙ sym (ap (λ m. (get_or heads m d).begin) here ∙ ap (λ (h : Head). h.begin) (put.is d))
        | inr other ↦ ap (λ (h : Head). h.begin) (get_or-set_other heads n k longer d other)
      ]

  same_room : (k : ℕ) (d : Head) → (get_or (set heads n longer) k d).room ≡ (get_or heads k d).room
  same_room k d =
      elim (cases_eq k n) [
        | inl here ↦
            ap (λ m. (get_or (set heads n longer) m d).room) here
            ∙ ap (λ (h : Head). h.room) (get_or-set_same heads n longer d put.inside ∙ put.is_longer)
            ∙ sym (ap (λ m. (get_or heads m d).room) here ∙ ap (λ (h : Head). h.room) (put.is d))
        | inr other ↦ ap (λ (h : Head). h.room) (get_or-set_other heads n k longer d other)
      ]

  pub laid_more : IsLaidOut (set heads n longer) new
  laid_more =
      let size = length-set heads n longer in
      let here : IsInPool pool head = subst (IsInPool pool) (put.is head) (put.laid.inside n head put.inside) in
      let len = ap (λ (h : Head). h.len) put.is_longer in
      let begin' = ap (λ (h : Head). h.begin) put.is_longer in
      let room' = ap (λ (h : Head). h.room) put.is_longer in
      let longer_in : IsInPool new longer = record {
        fits = omega (arith, len, room', put.room);
        inside = omega (arith, begin', room', here.inside, put.around.len);
      } in
      record {
        inside = All-set (IsInPool new) heads n longer longer_in
            (λ k d below.
            let old = put.laid.inside k d below in
            record { fits = old.fits; inside = omega (arith, old.inside, put.around.len) });
        apart = λ i j d before below.
            let old = put.laid.apart i j d before (omega (arith, size, below)) in
            omega (arith, old, same_begin i d, same_begin j d, same_room i d);
      }

  pub same_rooms : map (λ (h : Head). h.room) (set heads n longer) ≡ map (λ (h : Head). h.room) heads
  same_rooms =
      let same : longer.room ≡ get_or (map (λ (h : Head). h.room) heads) n 0 =
      ap (λ (h : Head). h.room) put.is_longer ∙ ap (λ (h : Head). h.room) (sym (put.is head))
      ∙ sym (get_or-map (λ (h : Head). h.room) heads n head 0 put.inside) in
      map-set (λ (h : Head). h.room) heads n longer
      ∙ ap (λ r. set (map (λ (h : Head). h.room) heads) n r) same
      ∙ set-get_or (map (λ (h : Head). h.room) heads) n 0

  pub row_here : get_or (map (row_in new) (set heads n longer)) n [] ≡ row_in new longer
  row_here =
      let size = length-set heads n longer in
      get_or-map (row_in new) (set heads n longer) n longer [] (omega (arith, size))
      ∙ ap (row_in new) (get_or-set_same heads n longer longer put.inside)

  same_row : (m : ℕ) (d : Head) → m ≢ n → m < length heads → row_in new (get_or heads m d) ≡ row_in pool (get_or heads m d)
  same_row m d other below =
      let h : Head = get_or heads m d in
      let there = put.laid.inside m d below in
      let size = length-drop h.begin new in
      let size' = length-drop h.begin pool in
      same_lists (row_in new h) (row_in pool h)
      (length-take h.len (drop h.begin new) ∙ ap (λ k. min h.len k) (omega (arith, size, size', put.around.len))
      ∙ sym (length-take h.len (drop h.begin pool)))
      (λ k e low.
      let len = length-take h.len (drop h.begin new) in
      let low' : k < h.len = omega (arith, low, len) in
      let at : get_or new (h.begin + k) e ≡ get_or pool (h.begin + k) e =
      elim (cases_lt m n) [
        | inl before ↦
            let apart = put.laid.apart m n d before put.inside in
            let begin = ap (λ (x : Head). x.begin) (put.is d) in
            put.around.before (h.begin + k) e (omega (arith, apart, begin, there.fits, low'))
        | inr behind ↦
            let apart = put.laid.apart n m d (omega arith) below in
            let begin = ap (λ (x : Head). x.begin) (put.is d) in
            let room' = ap (λ (x : Head). x.room) (put.is d) in
            put.around.behind (h.begin + k) e (omega (arith, apart, begin, room', put.room))
      ] in
      get_or-take h.len (drop h.begin new) k e low' ∙ get_or-drop h.begin new k e ∙ at
      ∙ sym (get_or-take h.len (drop h.begin pool) k e low' ∙ get_or-drop h.begin pool k e))

  pub other_rows : (m : ℕ) → m ≢ n
      → get_or (map (row_in new) (set heads n longer)) m [] ≡ get_or (map (row_in pool) heads) m []
  other_rows m other =
      let size = length-set heads n longer in
      elim (cases_lt m (length heads)) [
        | inl below ↦
            get_or-map (row_in new) (set heads n longer) m head [] (omega (arith, size))
            ∙ ap (row_in new) (get_or-set_other heads n m longer head other) ∙ same_row m head other below
            ∙ sym (get_or-map (row_in pool) heads m head [] below)
        | inr past ↦
            get_or_past (map (row_in new) (set heads n longer)) m []
            (omega (arith, size, length-map (set heads n longer) (row_in new)))
            ∙ sym (get_or_past (map (row_in pool) heads) m [] (omega (arith, length-map heads (row_in pool))))
      ]

-- rows without entries
pub empty_rows : (heads : List Head) (pool : List Held) → All (λ head. head.len ≡ 0) heads
    → map (row_in pool) heads ≡ map (λ room. []) (map (λ head. head.room) heads)
empty_rows [] pool empty = refl
empty_rows (head ∷ heads) pool empty =
    ap₂ (λ (r : List Held) (rs : List (List Held)). r ∷ rs)
    (ap (λ n. take n (drop head.begin pool)) (All-head (λ (h : Head). h.len ≡ 0) head heads empty))
    (empty_rows heads pool (All-tail (λ (h : Head). h.len ≡ 0) head heads empty))
