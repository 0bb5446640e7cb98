-- Tables of a tile hold the entries of the standing grants, before and after the grants of a slot end and
-- begin, and there is room for the entries of those that begin.
use Rattle.std.proofs.Common.{◌≡◌, ◌≢◌, ℕ, ◌+◌, true, false, List, [], ◌∷◌, filter, map, slice_get, Option, Some, None, option_map, refl, sym, ap, ap₂, ◌∙◌, subst, inl, inr, arith}
use Rattle.std.specs.List.{fold, flat_map}
use Rattle.std.proofs.lemmas.Bool.{false≢true, false_from_ne_true}
use Rattle.std.proofs.lemmas.List.Sums.{fold-append}
use Rattle.std.proofs.lemmas.Option.{none-some, same_Some, slice_get-map}
use Rattle.soc_base.specs.declared.label.Label.{Label}
use Rattle.bundle_model.specs.declared.world.World.{World}
use Rattle.bundle_model.specs.declared.world.Grant.{Grant}
use Rattle.bundle_model.specs.Grants.{IsApart, stands_at}
use Rattle.bundle_model.specs.World.{IsSoundCatalog}
use Rattle.bundle_model.proofs.Laws.{keyed_pairs, mapped_place, filtered_place, filtered_at, filtered_keyed, present_next, flat_at}
use Rattle.tdm_network.specs.declared.entries.Entry.{Entry}
use Rattle.tdm_network.specs.declared.entries.TableEntry.{TableEntry}
use Rattle.tdm_network.specs.declared.rows.Row.{Row}
use Rattle.tdm_network.specs.Rows.{installed}
use Rattle.tdm_network.specs.Spots.{Spot, Role, spots_of, spot_of, IsLaidOut, IsInRange}
use Rattle.tdm_network.proofs.Laws.{spots-free, laid_out-free}
use Rattle.grant_tables.specs.Turns.{ends_in, begins_in}
use Rattle.grant_tables.specs.Entries.{grant_entries}
use Rattle.grant_tables.specs.Tables.{with_entries, tables_ended, tables_begun, IsHeld, IsKnown, AreTabled}
use Rattle.grant_tables.specs.Law.{TablesBegin, TablesGoOn}
use Rattle.grant_tables.specs.inner.Room.{HaveRoom}
use Rattle.grant_tables.proofs.Changes.{ended_gone, begun_stands, begun_late, stays_stands, stood_begins, none_stands}
use Rattle.grant_tables.proofs.Sides.{flat_from}
use Rattle.grant_tables.proofs.Owners.{own_entry, own_grounded, PresentOwner, one_owner, own_apart}
use Rattle.grant_tables.proofs.Install.{Tagged, tagged, told_by, with_all, AreInRange, all_laid, all_stay, all_told, all_known, left_laid, left_stay, left_known}
use Rattle.grant_tables.proofs.Rooms.{EachTwo, all_from, pairs_from, two_flat}

-- before the first slot no grant stands, and the tables are free
pub tables_begin : TablesBegin
tables_begin world grants tile = record {
  laid_out = laid_out-free world.platform.table_slots;
  told = λ label entry held. absurd (false≢true (sym (none_stands held.grant) ∙ held.stands));
  known = λ spot what there. absurd (none-some what (sym (spots-free world.platform.table_slots spot) ∙ there));
}

-- the entries that begin in a slot, each with the label that it is installed for
abbrev pub tagged_entries : World → ℕ → Grant → List Tagged
tagged_entries world tile grant = map (tagged grant.label) (grant_entries world tile grant)

abbrev pub begun_entries : World → ℕ → List Grant → ℕ → List Tagged
begun_entries world tile grants slot = flat_map (tagged_entries world tile) (filter (begins_in slot) grants)

with_tagged : (label : Label) (entries : List TableEntry) (rows : List Row) → with_entries label entries rows ≡ with_all (map (tagged label) entries) rows
with_tagged label [] rows = refl
with_tagged label (entry ∷ entries) rows = with_tagged label entries (installed label entry rows)

begun_all : (world : World) (tile : ℕ) (grants : List Grant) (rows : List Row) → fold (λ (rs : List Row) (grant : Grant). with_entries grant.label (grant_entries world tile grant) rs) rows grants ≡ with_all (flat_map (tagged_entries world tile) grants) rows
begun_all world tile [] rows = refl
begun_all world tile (grant ∷ grants) rows =
    let mine = with_entries grant.label (grant_entries world tile grant) rows in
    begun_all world tile grants mine
    ∙ ap (with_all (flat_map (tagged_entries world tile) grants)) (with_tagged grant.label (grant_entries world tile grant) rows)
    ∙ sym (fold-append (λ (rs : List Row) (x : Tagged). installed x.0 x.1 rs) rows (tagged_entries world tile grant) (flat_map (tagged_entries world tile) grants))

-- the tables once the grants of a slot have begun, entry by entry
begun_is : (world : World) (tile : ℕ) (grants : List Grant) (slot : ℕ) (rows : List Row) → tables_begun world tile grants slot rows ≡ with_all (begun_entries world tile grants slot) rows
begun_is world tile grants slot rows = begun_all world tile (filter (begins_in slot) grants) rows

module _ (world : World) (grants : List Grant) (slot tile : ℕ) where
  -- an entry of a grant that begins in the slot
  record IsBegun (label : Label) (entry : TableEntry) : Type 0 where
    index : ℕ
    grant : Grant
    granted : slice_get grants index ≡ Some grant
    begins : begins_in slot grant ≡ true
    place : ℕ
    there : slice_get (grant_entries world tile grant) place ≡ Some entry
    labelled : grant.label ≡ label

  begun_from : (m : ℕ) (x : Tagged) → slice_get (begun_entries world tile grants slot) m ≡ Some x → IsBegun x.0 x.1
  begun_from m x there =
      let from = flat_from (tagged_entries world tile) (filter (begins_in slot) grants) m x there in
      let found = filtered_place (begins_in slot) grants from.0 from.1 from.3 in
      let mapped = mapped_place (tagged from.1.label) (grant_entries world tile from.1) from.2 x from.4 in
      record {
        index = found.0;
        grant = from.1;
        granted = found.1;
        begins = found.2;
        place = from.2;
        there = mapped.1 ∙ ap (λ (y : Tagged). Some y.1) mapped.2;
        labelled = ap (λ (y : Tagged). y.0) mapped.2;
      }

  begun_at : (index : ℕ) (grant : Grant) (k : ℕ) (entry : TableEntry) → slice_get grants index ≡ Some grant → begins_in slot grant ≡ true → slice_get (grant_entries world tile grant) k ≡ Some entry → (m : ℕ) × (slice_get (begun_entries world tile grants slot) m ≡ Some (tagged grant.label entry))
  begun_at index grant k entry granted begins there =
      let found = filtered_at (begins_in slot) grants index grant granted begins in
      let mine : slice_get (tagged_entries world tile grant) k ≡ Some (tagged grant.label entry) = slice_get-map (tagged grant.label) (grant_entries world tile grant) k ∙ ap (option_map (tagged grant.label)) there in
      (_, flat_at (tagged_entries world tile) (filter (begins_in slot) grants) found.0 k grant (tagged grant.label entry) found.1 mine)

  abbrev begun_held : (label : Label) (entry : TableEntry) → IsBegun label entry → IsHeld world grants (slot + 1) tile label entry
  begun_held label entry x = record {
    index = x.index;
    grant = x.grant;
    granted = x.granted;
    stands = begun_stands slot x.grant x.begins;
    labelled = x.labelled;
    place = x.place;
    there = x.there;
  }

  begun_range : IsSoundCatalog world → (label : Label) (entry : TableEntry) → IsBegun label entry → IsInRange world.platform.table_slots entry
  begun_range sound label entry x =
      let own = own_entry world tile x.grant x.place entry x.there in
      subst (IsInRange world.platform.table_slots) own.entry_is (own_grounded world tile x.grant entry sound own).in_range

  all_in_range : IsSoundCatalog world → AreInRange world.platform.table_slots (begun_entries world tile grants slot)
  all_in_range sound = λ k x at. begun_range sound x.0 x.1 (begun_from k x at)

  -- the grant of an entry that is held after the slot is present in the slot
  abbrev held_owner : (label : Label) (entry : TableEntry) → IsHeld world grants (slot + 1) tile label entry → PresentOwner world grants slot tile entry
  held_owner label entry x = record {
    index = x.index;
    grant = x.grant;
    present = present_next grants slot x.index x.grant x.granted x.stands;
    own = own_entry world tile x.grant x.place entry x.there;
  }

  -- entries at one place of grants that stand after the slot are one, of one grant
  one_entry : IsSoundCatalog world → IsApart world grants → (a b : Label) (one other : TableEntry) → (x : IsHeld world grants (slot + 1) tile a one) → (y : IsHeld world grants (slot + 1) tile b other) → spot_of one ≡ spot_of other → (x.index ≡ y.index) × (told_by (tagged a one) ≡ told_by (tagged b other))
  one_entry sound apart a b one other x y same =
      let index = one_owner world grants slot tile one other sound apart (held_owner a one x) (held_owner b other y) same in
      let grant : x.grant ≡ y.grant = same_Some x.grant y.grant (sym x.granted ∙ ap (slice_get grants) index ∙ y.granted) in
      let here : slice_get (grant_entries world tile x.grant) y.place ≡ Some other = ap (λ g. slice_get (grant_entries world tile g) y.place) grant ∙ y.there in
      let place = own_apart world tile x.grant sound x.place y.place one other x.there here same in
      let entry : one ≡ other = same_Some one other (sym x.there ∙ ap (slice_get (grant_entries world tile x.grant)) place ∙ here) in
      let label : a ≡ b = sym x.labelled ∙ ap (λ (g : Grant). g.label) grant ∙ y.labelled in
      (index, ap₂ (λ l e. told_by (tagged l e)) label entry)

  -- a grant that stands at both ends of the slot has an entry that none that begins in it has
  stood_differs : IsSoundCatalog world → IsApart world grants → (a b : Label) (one other : TableEntry) → (x : IsHeld world grants slot tile a one) → stands_at (slot + 1) x.grant ≡ true → IsBegun b other → spot_of one ≡ spot_of other → ⊥
  stood_differs sound apart a b one other x on y same =
      let later : IsHeld world grants (slot + 1) tile a one = record { index = x.index; grant = x.grant; granted = x.granted; stands = on; labelled = x.labelled; place = x.place; there = x.there } in
      let index : x.index ≡ y.index = (one_entry sound apart a b one other later (begun_held b other y) same).0 in
      let grant : x.grant ≡ y.grant = same_Some x.grant y.grant (sym x.granted ∙ ap (slice_get grants) index ∙ y.granted) in
      false≢true (sym (begun_late slot y.grant y.begins) ∙ ap (stands_at slot) (sym grant) ∙ x.stands)

  -- the label of a grant that stands after the slot isn't that of one that ends in it
  not_ended : IsApart world grants → (label : Label) (index : ℕ) (grant : Grant) → slice_get grants index ≡ Some grant → stands_at (slot + 1) grant ≡ true → grant.label ≡ label → (k : ℕ) (other : Grant) → slice_get (filter (ends_in slot) grants) k ≡ Some other → label ≡ other.label → ⊥
  not_ended apart label index grant granted stands labelled k other at same =
      let found = filtered_place (ends_in slot) grants k other at in
      let one : index ≡ found.0 = keyed_pairs (λ (g : Grant). g.label) grants apart.labelled index found.0 grant other granted found.1 (labelled ∙ same) in
      let is : grant ≡ other = same_Some grant other (sym granted ∙ ap (slice_get grants) one ∙ found.1) in
      false≢true (sym (ended_gone slot other found.2) ∙ ap (stands_at (slot + 1)) (sym is) ∙ stands)

  ended_laid : (rows : List Row) → AreTabled world grants slot tile rows → IsLaidOut world.platform.table_slots (tables_ended grants slot rows)
  ended_laid rows is = left_laid world.platform.table_slots (filter (ends_in slot) grants) rows is.laid_out

  -- what stands once grants have ended is an entry of a grant that stands on
  ended_known : (rows : List Row) (spot : Spot) (what : Entry Role) → AreTabled world grants slot tile rows → spots_of (tables_ended grants slot rows) spot ≡ Some what → (known : IsKnown world grants slot tile spot what) × (stands_at (slot + 1) known.held.grant ≡ true)
  ended_known rows spot what is there =
      let both = left_known (filter (ends_in slot) grants) rows spot what there in
      let known = is.known spot what both.0 in
      let stays : ends_in slot known.held.grant ≡ false = false_from_ne_true (ends_in slot known.held.grant) (λ ends.
      let at = filtered_at (ends_in slot) grants known.held.index known.held.grant known.held.granted ends in
      both.1 at.0 known.held.grant at.1 (sym known.held.labelled)) in
      (known, stays_stands slot known.held.grant known.held.stands stays)

  told_next : IsSoundCatalog world → IsApart world grants → (rows : List Row) → AreTabled world grants slot tile rows → (label : Label) (entry : TableEntry) → IsHeld world grants (slot + 1) tile label entry → spots_of (with_all (begun_entries world tile grants slot) (tables_ended grants slot rows)) (spot_of entry) ≡ Some (told_by (tagged label entry))
  told_next sound apart rows is label entry x = elim (stood_begins slot x.grant x.stands) [
    | inl stood ↦
        let was : IsHeld world grants slot tile label entry = record { index = x.index; grant = x.grant; granted = x.granted; stands = stood; labelled = x.labelled; place = x.place; there = x.there } in
        let left = left_stay (filter (ends_in slot) grants) rows (spot_of entry) (told_by (tagged label entry)) (is.told label entry was) (not_ended apart label x.index x.grant x.granted x.stands x.labelled) in
        all_stay world.platform.table_slots (begun_entries world tile grants slot) (tables_ended grants slot rows) (spot_of entry) (told_by (tagged label entry)) (all_in_range sound) (ended_laid rows is) left
        (λ k y at same. absurd (stood_differs sound apart label y.0 entry y.1 was x.stands (begun_from k y at) (sym same)))
    | inr begins ↦
        let at = begun_at x.index x.grant x.place entry x.granted begins x.there in
        let put : slice_get (begun_entries world tile grants slot) at.0 ≡ Some (tagged label entry) = at.1 ∙ ap (λ l. Some (tagged l entry)) x.labelled in
        all_told world.platform.table_slots (begun_entries world tile grants slot) (tables_ended grants slot rows) at.0 (tagged label entry) (all_in_range sound) (ended_laid rows is) put
        (λ m y there same. (one_entry sound apart y.0 label y.1 entry (begun_held y.0 y.1 (begun_from m y there)) x same).1)
  ]

  known_next : IsSoundCatalog world → (rows : List Row) → AreTabled world grants slot tile rows → (spot : Spot) (what : Entry Role) → spots_of (with_all (begun_entries world tile grants slot) (tables_ended grants slot rows)) spot ≡ Some what → IsKnown world grants (slot + 1) tile spot what
  known_next sound rows is spot what there = elim (all_known world.platform.table_slots (begun_entries world tile grants slot) (tables_ended grants slot rows) spot what (all_in_range sound) (ended_laid rows is) there) [
    | inl new ↦
        let y = begun_from new.place new.put new.there in
        let held = begun_held new.put.0 new.put.1 y in
        record {
          entry = new.put.1;
          held = record { index = held.index; grant = held.grant; granted = held.granted; stands = held.stands; labelled = held.labelled ∙ ap (λ (e : Entry Role). e.label) new.what_is; place = held.place; there = held.there };
          spot_is = new.spot_is;
          role_is = ap (λ (e : Entry Role). e.what) new.what_is;
        }
    | inr old ↦
        let known = ended_known rows spot what is old in
        let held = known.0.held in
        record {
          entry = known.0.entry;
          held = record { index = held.index; grant = held.grant; granted = held.granted; stands = known.1; labelled = held.labelled; place = held.place; there = held.there };
          spot_is = known.0.spot_is;
          role_is = known.0.role_is;
        }
  ]

  -- the tables go on to hold the entries of the grants that stand
  tabled_next : IsSoundCatalog world → IsApart world grants → (rows : List Row) → AreTabled world grants slot tile rows → AreTabled world grants (slot + 1) tile (with_all (begun_entries world tile grants slot) (tables_ended grants slot rows))
  tabled_next sound apart rows is = record {
    laid_out = all_laid world.platform.table_slots (begun_entries world tile grants slot) (tables_ended grants slot rows) (all_in_range sound) (ended_laid rows is);
    told = told_next sound apart rows is;
    known = known_next sound rows is;
  }

  -- the entries of the grants that begin in the slot
  abbrev pub beginning : List TableEntry
  beginning = flat_map (grant_entries world tile) (filter (begins_in slot) grants)

  beginning_from : (m : ℕ) (entry : TableEntry) → slice_get beginning m ≡ Some entry → (label : Label) × IsBegun label entry
  beginning_from m entry there =
      let from = flat_from (grant_entries world tile) (filter (begins_in slot) grants) m entry there in
      let found = filtered_place (begins_in slot) grants from.0 from.1 from.3 in
      (from.1.label, record { index = found.0; grant = from.1; granted = found.1; begins = found.2; place = from.2; there = from.4; labelled = refl })

  free_there : IsSoundCatalog world → IsApart world grants → (rows : List Row) → AreTabled world grants slot tile rows → (label : Label) (entry : TableEntry) → IsBegun label entry → (o : Option (Entry Role)) → spots_of (tables_ended grants slot rows) (spot_of entry) ≡ o → o ≡ None
  free_there sound apart rows is label entry x None there = refl
  free_there sound apart rows is label entry x (Some what) there =
      let known = ended_known rows (spot_of entry) what is there in
      absurd (stood_differs sound apart what.label label known.0.entry entry known.0.held known.1 x known.0.spot_is)

  differ_there : IsSoundCatalog world → IsApart world grants → EachTwo (λ one other. spot_of one ≢ spot_of other) beginning
  differ_there sound apart = two_flat (λ one other. spot_of one ≢ spot_of other) (grant_entries world tile) (filter (begins_in slot) grants)
      (λ k grant at i j one other before at_i at_j same. let place = own_apart world tile grant sound i j one other at_i at_j same in absurd (omega (arith, before, place)))
      (λ i j one other before at_i at_j k m a b at_k at_m same.
      let x = filtered_place (begins_in slot) grants i one at_i in
      let y = filtered_place (begins_in slot) grants j other at_j in
      let index = one_owner world grants slot tile a b sound apart
      (record { index = x.0; grant = one; present = present_next grants slot x.0 one x.1 (begun_stands slot one x.2); own = own_entry world tile one k a at_k })
      (record { index = y.0; grant = other; present = present_next grants slot y.0 other y.1 (begun_stands slot other y.2); own = own_entry world tile other m b at_m }) same in
      let grant : one ≡ other = same_Some one other (sym x.1 ∙ ap (slice_get grants) index ∙ y.1) in
      let place : i ≡ j = filtered_keyed (λ (g : Grant). g.label) (begins_in slot) grants (keyed_pairs (λ (g : Grant). g.label) grants apart.labelled) i j one other at_i at_j (ap (λ (g : Grant). g.label) grant) in
      absurd (omega (arith, before, place)))

  -- there is room for the entries of the grants that begin in the slot, once the others have ended
  pub room_begins : IsSoundCatalog world → IsApart world grants → (rows : List Row) → AreTabled world grants slot tile rows → HaveRoom world.platform.table_slots beginning (tables_ended grants slot rows)
  room_begins sound apart rows is = record {
    laid_out = ended_laid rows is;
    in_range = all_from (IsInRange world.platform.table_slots) beginning (λ k entry at. let x = beginning_from k entry at in begun_range sound x.0 entry x.1);
    free = all_from (λ entry. spots_of (tables_ended grants slot rows) (spot_of entry) ≡ None) beginning (λ k entry at. let x = beginning_from k entry at in free_there sound apart rows is x.0 entry x.1 (spots_of (tables_ended grants slot rows) (spot_of entry)) refl);
    apart = pairs_from (λ one other. spot_of one ≢ spot_of other) beginning (differ_there sound apart);
  }

-- once the grants of a slot have ended and begun, the tables hold the entries of those that stand
pub tables_go_on : TablesGoOn
tables_go_on world grants slot tile rows sound apart is =
    subst (AreTabled world grants (slot + 1) tile) (sym (begun_is world tile grants slot (tables_ended grants slot rows))) (tabled_next world grants slot tile sound apart rows is)
