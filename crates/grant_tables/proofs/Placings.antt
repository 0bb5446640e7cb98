-- Entries that are still to be installed: there is room for them, and the tables come to what they are to be.
use Rattle.std.proofs.Common.{◌≡◌, ℕ, zero, suc, ◌+◌, ◌<◌, ◌≤◌, ◌%◌, ◌==◌, Bool, true, false, cond, List, [], ◌∷◌, ◌++◌, map, filter, drop, length, get_or, refl, sym, ap, ap₂, ◌∙◌, subst, arith}
use Rattle.std.specs.List.{flat_map}
use Rattle.std.proofs.lemmas.Bool.{eq-eqb}
use Rattle.std.proofs.lemmas.List.{map-append, drop_more}
use Rattle.std.proofs.lemmas.List.Elements.{filter-append}
use Rattle.std.proofs.lemmas.List.Sums.{fold-append}
use Rattle.std.proofs.lemmas.Grind.{flat_map-append}
use Rattle.soc_base.specs.declared.label.Label.{Label}
use Rattle.platform_model.specs.declared.link.Link.{Link}
use Rattle.platform_model.specs.declared.platform.Platform.{Platform}
use Rattle.bundle_model.specs.declared.bundle.Bundle.{Bundle}
use Rattle.bundle_model.specs.declared.bundle.Pair.{Pair}
use Rattle.bundle_model.specs.declared.resource.Resource.TheVariants.{LinkSlot}
use Rattle.bundle_model.specs.Ways.{Way, pair_ways}
use Rattle.tdm_network.specs.declared.entries.Source.{Source}
use Rattle.tdm_network.specs.declared.entries.Source.TheVariants.{Local, Input}
use Rattle.tdm_network.specs.declared.entries.TableEntry.{TableEntry}
use Rattle.tdm_network.specs.declared.entries.TableEntry.TheVariants.{Out}
use Rattle.tdm_network.specs.declared.rows.Row.{Row}
use Rattle.tdm_network.specs.Rows.{installed}
use Rattle.grant_tables.specs.Entries.{Placed, link_of, link_entries, slot_entries, way_entries, bundle_entries, is_on, entries_on}
use Rattle.grant_tables.specs.Tables.{with_entries}
use Rattle.grant_tables.specs.inner.Room.{HaveRoom}
use Rattle.grant_tables.proofs.Sides.{inject_placed, deliver_placed}
use Rattle.grant_tables.proofs.Rooms.{room_front, room_behind}

-- entries of the tables of a tile that are to be installed for a label, in tables of so many slots, after
-- which the tables are as given
pub record Remains (n : ℕ) (label : Label) (tile : ℕ) (final : List Row) (placed : List Placed) (rows : List Row) : Type 0 where
  pub room : HaveRoom n (entries_on tile placed) rows
  pub comes : with_entries label (entries_on tile placed) rows ≡ final

pub remain_all : (n : ℕ) (label : Label) (tile : ℕ) (placed : List Placed) (rows : List Row) → HaveRoom n (entries_on tile placed) rows → Remains n label tile (with_entries label (entries_on tile placed) rows) placed rows
remain_all n label tile placed rows room = record { room = room; comes = refl }

on_append : (tile : ℕ) (xs ys : List Placed) → entries_on tile (xs ++ ys) ≡ entries_on tile xs ++ entries_on tile ys
on_append tile xs ys = ap (map (λ (p : Placed). p.entry)) (filter-append (is_on tile) xs ys) ∙ map-append (λ (p : Placed). p.entry) (filter (is_on tile) xs) (filter (is_on tile) ys)

-- the entries in front are next
pub remain_front : (n : ℕ) (label : Label) (tile : ℕ) (final : List Row) (xs ys : List Placed) (rows : List Row) → Remains n label tile final (xs ++ ys) rows → HaveRoom n (entries_on tile xs) rows
remain_front n label tile final xs ys rows is =
    room_front n (entries_on tile xs) (entries_on tile ys) rows (subst (λ entries. HaveRoom n entries rows) (on_append tile xs ys) is.room)

-- once they are installed, the others remain
pub remain_behind : (n : ℕ) (label : Label) (tile : ℕ) (final : List Row) (xs ys : List Placed) (rows next : List Row) → Remains n label tile final (xs ++ ys) rows → next ≡ with_entries label (entries_on tile xs) rows → Remains n label tile final ys next
remain_behind n label tile final xs ys rows next is put = record {
  room = subst (HaveRoom n (entries_on tile ys)) (sym put) (room_behind n label (entries_on tile xs) (entries_on tile ys) rows (subst (λ entries. HaveRoom n entries rows) (on_append tile xs ys) is.room));
  comes =
      ap (with_entries label (entries_on tile ys)) put
      ∙ sym (fold-append (λ (rs : List Row) (entry : TableEntry). installed label entry rs) rows (entries_on tile xs) (entries_on tile ys))
      ∙ ap (λ entries. with_entries label entries rows) (sym (on_append tile xs ys))
      ∙ is.comes;
}

-- one entry, which the tile's tables hold or don't
pub one_room : (n tile : ℕ) (p : Placed) (rows : List Row) → HaveRoom n (entries_on tile (p ∷ [])) rows → p.tile ≡ tile → HaveRoom n (p.entry ∷ []) rows
one_room n tile p rows room on_tile =
    subst (λ (b : Bool). HaveRoom n (map (λ (q : Placed). q.entry) (cond b (p ∷ []) [])) rows) (eq-eqb p.tile tile on_tile) room

one_by : (label : Label) (p : Placed) (rows : List Row) (b : Bool) → with_entries label (map (λ (q : Placed). q.entry) (cond b (p ∷ []) [])) rows ≡ cond b (installed label p.entry rows) rows
one_by label p rows true = refl
one_by label p rows false = refl

pub one_put : (label : Label) (tile : ℕ) (p : Placed) (rows : List Row) → with_entries label (entries_on tile (p ∷ [])) rows ≡ cond (p.tile == tile) (installed label p.entry rows) rows
one_put label tile p rows = one_by label p rows (p.tile == tile)

-- item by item
flat_drop : {X : Type 0} (f : X → List Placed) (xs : List X) (i : ℕ) (d : X) → i < length xs → flat_map f (drop i xs) ≡ f (get_or xs i d) ++ flat_map f (drop (i + 1) xs)
flat_drop f xs i d inside = ap (flat_map f) (drop_more xs i d inside)

pub none_left : {X : Type 0} (xs : List X) (i : ℕ) → length xs ≤ i → drop i xs ≡ []
none_left [] zero past = refl
none_left [] (suc i) past = refl
none_left (x ∷ xs) zero past = absurd (omega (arith, past))
none_left (x ∷ xs) (suc i) past = none_left xs i (omega (arith, past))

-- the entries that each item of a list from the i-th on has, and that remain
module _ {X : Type 0} (n : ℕ) (label : Label) (tile : ℕ) (final : List Row) (f : X → List Placed) (xs : List X) (i : ℕ) where
  -- those of the next item are next
  pub flat_front : (d x : X) (rows : List Row) → i < length xs → Remains n label tile final (flat_map f (drop i xs)) rows → x ≡ get_or xs i d → HaveRoom n (entries_on tile (f x)) rows
  flat_front d x rows inside is at =
      subst (λ item. HaveRoom n (entries_on tile (f item)) rows) (sym at)
      (remain_front n label tile final (f (get_or xs i d)) (flat_map f (drop (i + 1) xs)) rows (subst (λ placed. Remains n label tile final placed rows) (flat_drop f xs i d inside) is))

  -- once they are installed, those of the others remain
  pub flat_behind : (d x : X) (rows next : List Row) → i < length xs → Remains n label tile final (flat_map f (drop i xs)) rows → x ≡ get_or xs i d → next ≡ with_entries label (entries_on tile (f x)) rows → Remains n label tile final (flat_map f (drop (i + 1) xs)) next
  flat_behind d x rows next inside is at put =
      remain_behind n label tile final (f (get_or xs i d)) (flat_map f (drop (i + 1) xs)) rows next (subst (λ placed. Remains n label tile final placed rows) (flat_drop f xs i d inside) is)
      (put ∙ ap (λ item. with_entries label (entries_on tile (f item)) rows) at)

  -- where no item is left, none does
  pub flat_done : (rows : List Row) → length xs ≤ i → Remains n label tile final (flat_map f (drop i xs)) rows → rows ≡ final
  flat_done rows past is =
      (subst (λ rest. Remains n label tile final (flat_map f rest) rows) (none_left xs i past) is).comes

-- the channels of pairs, pair by pair
flat_twice : {X Y Z : Type 0} (g : Y → List Z) (f : X → List Y) (xs : List X) → flat_map g (flat_map f xs) ≡ flat_map (λ x. flat_map g (f x)) xs
flat_twice g f [] = refl
flat_twice g f (x ∷ xs) = flat_map-append g (f x) (flat_map f xs) ∙ ap (λ rest. flat_map g (f x) ++ rest) (flat_twice g f xs)

abbrev pub pair_entries : Platform → Pair → List Placed
pair_entries platform pair = flat_map (way_entries platform) (pair_ways pair)

pub bundle_by_pairs : (platform : Platform) (bundle : Bundle) → bundle_entries platform bundle ≡ flat_map (pair_entries platform) bundle.pairs
bundle_by_pairs platform bundle = flat_twice (way_entries platform) pair_ways bundle.pairs

-- the links of a path, link by link
abbrev pub links_left : Platform → (slot hop : ℕ) → Source → List ℕ → List Placed
links_left platform slot hop source path = link_entries platform (slot + 1 + hop) source (drop hop path)

pub links_all : (n : ℕ) (label : Label) (tile : ℕ) (platform : Platform) (slot : ℕ) (source : Source) (path : List ℕ) (rows : List Row) → HaveRoom n (entries_on tile (link_entries platform (slot + 1) source path)) rows → Remains n label tile (with_entries label (entries_on tile (link_entries platform (slot + 1) source path)) rows) (links_left platform slot 0 source path) rows
links_all n label tile platform slot source path rows room =
    let e : slot + 1 ≡ slot + 1 + 0 = omega arith in
    subst (λ at. Remains n label tile (with_entries label (entries_on tile (link_entries platform (slot + 1) source path)) rows) (link_entries platform at source path) rows) e
    (remain_all n label tile (link_entries platform (slot + 1) source path) rows room)

module _ (n : ℕ) (label : Label) (tile : ℕ) (final : List Row) (platform : Platform) (slot hop : ℕ) (source : Source) (path : List ℕ) (rows : List Row) where
  abbrev link_now : Placed
  link_now =
      let link = link_of platform (get_or path hop 0) in
      record { tile = link.from; claim = LinkSlot (get_or path hop 0) ((slot + 1 + hop) % platform.table_slots); entry = Out link.out ((slot + 1 + hop) % platform.table_slots) source }

  abbrev links_later : List Placed
  links_later = links_left platform slot (hop + 1) (Input (link_of platform (get_or path hop 0)).input) path

  links_step : hop < length path → Remains n label tile final (links_left platform slot hop source path) rows → Remains n label tile final (link_now ∷ links_later) rows
  links_step inside is =
      let next : slot + 1 + hop + 1 ≡ slot + 1 + (hop + 1) = omega arith in
      subst (λ at. Remains n label tile final (link_now ∷ link_entries platform at (Input (link_of platform (get_or path hop 0)).input) (drop (hop + 1) path)) rows) next
      (subst (λ rest. Remains n label tile final (link_entries platform (slot + 1 + hop) source rest) rows) (drop_more path hop 0 inside) is)

  abbrev link_entry : Link → ℕ → TableEntry
  link_entry link later = Out link.out later source

  link_is_now : (link : Link) (later : ℕ) → link ≡ link_of platform (get_or path hop 0) → later ≡ (slot + (hop + 1)) % platform.table_slots → link_now.entry ≡ link_entry link later
  link_is_now link later is at =
      let e : slot + (hop + 1) ≡ slot + 1 + hop = omega arith in
      ap₂ (λ (l : Link) r. Out l.out r source) (sym is) (sym (at ∙ ap (λ r. r % platform.table_slots) e))

  pub links_front : (link : Link) (later : ℕ) → hop < length path → Remains n label tile final (links_left platform slot hop source path) rows → link ≡ link_of platform (get_or path hop 0) → later ≡ (slot + (hop + 1)) % platform.table_slots → link.from ≡ tile → HaveRoom n (link_entry link later ∷ []) rows
  links_front link later inside is link_is at on_tile =
      subst (λ entry. HaveRoom n (entry ∷ []) rows) (link_is_now link later link_is at)
      (one_room n tile link_now rows (remain_front n label tile final (link_now ∷ []) links_later rows (links_step inside is)) (ap (λ (l : Link). l.from) (sym link_is) ∙ on_tile))

  pub links_behind : (link : Link) (later : ℕ) (next : List Row) → hop < length path → Remains n label tile final (links_left platform slot hop source path) rows → link ≡ link_of platform (get_or path hop 0) → later ≡ (slot + (hop + 1)) % platform.table_slots → next ≡ cond (link.from == tile) (installed label (link_entry link later) rows) rows → Remains n label tile final (links_left platform slot (hop + 1) (Input link.input) path) next
  links_behind link later next inside is link_is at put =
      let put_now : next ≡ with_entries label (entries_on tile (link_now ∷ [])) rows =
      put ∙ ap₂ (λ (from : ℕ) entry. cond (from == tile) (installed label entry rows) rows) (ap (λ (l : Link). l.from) link_is) (sym (link_is_now link later link_is at))
      ∙ sym (one_put label tile link_now rows) in
      subst (λ (l : Link). Remains n label tile final (links_left platform slot (hop + 1) (Input l.input) path) next) (sym link_is)
      (remain_behind n label tile final (link_now ∷ []) links_later rows next (links_step inside is) put_now)

  pub links_done : length path ≤ hop → Remains n label tile final (links_left platform slot hop source path) rows → rows ≡ final
  links_done past is = (subst (λ rest. Remains n label tile final (link_entries platform (slot + 1 + hop) source rest) rows) (none_left path hop past) is).comes

-- the entries of an injection slot: the injection first, then the links, then the delivery
module _ (platform : Platform) (label : Label) (tile : ℕ) (way : Way) (slot : ℕ) (rows injected : List Row) where
  abbrev slot_links : List Placed
  slot_links = link_entries platform (slot + 1) Local way.path

  slot_left : HaveRoom platform.table_slots (entries_on tile (slot_entries platform way slot)) rows → injected ≡ cond (way.from.tile == tile) (installed label (inject_placed platform way slot).entry rows) rows
      → Remains platform.table_slots label tile (with_entries label (entries_on tile (slot_entries platform way slot)) rows) (slot_links ++ deliver_placed platform way slot ∷ []) injected
  slot_left room put =
      remain_behind platform.table_slots label tile _ (inject_placed platform way slot ∷ []) (slot_links ++ deliver_placed platform way slot ∷ []) rows injected
      (remain_all platform.table_slots label tile (slot_entries platform way slot) rows room) (put ∙ sym (one_put label tile (inject_placed platform way slot) rows))

  pub slot_goes_on : HaveRoom platform.table_slots (entries_on tile (slot_entries platform way slot)) rows → injected ≡ cond (way.from.tile == tile) (installed label (inject_placed platform way slot).entry rows) rows
      → HaveRoom platform.table_slots (entries_on tile slot_links) injected
  slot_goes_on room put = remain_front platform.table_slots label tile _ slot_links (deliver_placed platform way slot ∷ []) injected (slot_left room put)

  slot_last : (linked : List Row) → HaveRoom platform.table_slots (entries_on tile (slot_entries platform way slot)) rows → injected ≡ cond (way.from.tile == tile) (installed label (inject_placed platform way slot).entry rows) rows
      → linked ≡ with_entries label (entries_on tile slot_links) injected
      → Remains platform.table_slots label tile (with_entries label (entries_on tile (slot_entries platform way slot)) rows) (deliver_placed platform way slot ∷ []) linked
  slot_last linked room put links = remain_behind platform.table_slots label tile _ slot_links (deliver_placed platform way slot ∷ []) injected linked (slot_left room put) links

  pub slot_ends : (linked : List Row) → HaveRoom platform.table_slots (entries_on tile (slot_entries platform way slot)) rows → injected ≡ cond (way.from.tile == tile) (installed label (inject_placed platform way slot).entry rows) rows
      → linked ≡ with_entries label (entries_on tile slot_links) injected → way.to.tile ≡ tile
      → HaveRoom platform.table_slots ((deliver_placed platform way slot).entry ∷ []) linked
  slot_ends linked room put links on_tile = one_room platform.table_slots tile (deliver_placed platform way slot) linked (slot_last linked room put links).room on_tile

  pub slot_done : (linked done : List Row) → HaveRoom platform.table_slots (entries_on tile (slot_entries platform way slot)) rows → injected ≡ cond (way.from.tile == tile) (installed label (inject_placed platform way slot).entry rows) rows
      → linked ≡ with_entries label (entries_on tile slot_links) injected
      → done ≡ cond (way.to.tile == tile) (installed label (deliver_placed platform way slot).entry linked) linked
      → done ≡ with_entries label (entries_on tile (slot_entries platform way slot)) rows
  slot_done linked done room put links last =
      last ∙ sym (one_put label tile (deliver_placed platform way slot) linked) ∙ (slot_last linked room put links).comes
