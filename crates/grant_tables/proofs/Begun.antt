-- Grants of which the entries are still to leave or to be installed, grant by grant.
use Rattle.std.proofs.Common.{◌≡◌, ℕ, ◌+◌, ◌<◌, ◌≤◌, Bool, true, false, not, ◌&&◌, cond, List, [], ◌∷◌, filter, drop, length, get_or, refl, sym, ap, ◌∙◌, subst}
use Rattle.std.specs.List.{fold, flat_map, list_all}
use Rattle.std.proofs.lemmas.Bool.{and_parts, and_from, not-true}
use Rattle.std.proofs.lemmas.List.{drop_more}
use Rattle.bundle_model.specs.declared.world.World.{World}
use Rattle.bundle_model.specs.declared.world.Grant.{Grant}
use Rattle.tdm_network.specs.declared.rows.Row.{Row}
use Rattle.tdm_network.specs.Rows.{removed}
use Rattle.grant_tables.specs.Turns.{ends_in, begins_in}
use Rattle.grant_tables.specs.Entries.{grant_entries}
use Rattle.grant_tables.specs.Tables.{with_entries, tables_ended, tables_begun, tables_after}
use Rattle.grant_tables.specs.inner.Room.{HaveRoom}
use Rattle.grant_tables.proofs.Rooms.{room_front, room_behind}
use Rattle.grant_tables.proofs.Placings.{none_left}

-- one grant that ends or doesn't
ended_by : (grant : Grant) (rest : List Grant) (slot : ℕ) (rows : List Row) (b : Bool) → fold (λ (rs : List Row) (g : Grant). removed g.label rs) rows (cond b (grant ∷ filter (ends_in slot) rest) (filter (ends_in slot) rest)) ≡ tables_ended rest slot (cond b (removed grant.label rows) rows)
ended_by grant rest slot rows true = refl
ended_by grant rest slot rows false = refl

pub ended_more : (grants : List Grant) (slot i : ℕ) (d : Grant) (final rows next : List Row) → i < length grants → tables_ended (drop i grants) slot rows ≡ final → next ≡ cond (ends_in slot (get_or grants i d)) (removed (get_or grants i d).label rows) rows → tables_ended (drop (i + 1) grants) slot next ≡ final
ended_more grants slot i d final rows next inside is put =
    let grant = get_or grants i d in
    let rest = drop (i + 1) grants in
    ap (tables_ended rest slot) put ∙ sym (ended_by grant rest slot rows (ends_in slot grant)) ∙ ap (λ gs. tables_ended gs slot rows) (sym (drop_more grants i d inside)) ∙ is

pub ended_done : (grants : List Grant) (slot i : ℕ) (final rows : List Row) → length grants ≤ i → tables_ended (drop i grants) slot rows ≡ final → rows ≡ final
ended_done grants slot i final rows past is = ap (λ gs. tables_ended gs slot rows) (sym (none_left grants i past)) ∙ is

-- grants of which those that begin are to be installed, after which the tables are as given
pub record Begins (world : World) (tile slot : ℕ) (final : List Row) (grants : List Grant) (rows : List Row) : Type 0 where
  pub room : HaveRoom world.platform.table_slots (flat_map (grant_entries world tile) (filter (begins_in slot) grants)) rows
  pub comes : tables_begun world tile grants slot rows ≡ final

pub begin_all : (world : World) (tile slot : ℕ) (grants : List Grant) (rows : List Row) → HaveRoom world.platform.table_slots (flat_map (grant_entries world tile) (filter (begins_in slot) grants)) rows → Begins world tile slot (tables_begun world tile grants slot rows) grants rows
begin_all world tile slot grants rows room = record { room = room; comes = refl }

module _ (world : World) (tile slot : ℕ) (final : List Row) (grants : List Grant) (i : ℕ) (d : Grant) (rows : List Row) where
  begin_step : i < length grants → Begins world tile slot final (drop i grants) rows → Begins world tile slot final (get_or grants i d ∷ drop (i + 1) grants) rows
  begin_step inside is = subst (λ gs. Begins world tile slot final gs rows) (drop_more grants i d inside) is

  abbrev rest_entries : Bool → List Grant
  rest_entries b = cond b (get_or grants i d ∷ filter (begins_in slot) (drop (i + 1) grants)) (filter (begins_in slot) (drop (i + 1) grants))

  -- it is next if it begins
  pub begin_front : i < length grants → Begins world tile slot final (drop i grants) rows → begins_in slot (get_or grants i d) ≡ true → HaveRoom world.platform.table_slots (grant_entries world tile (get_or grants i d)) rows
  begin_front inside is begins =
      room_front world.platform.table_slots (grant_entries world tile (get_or grants i d)) (flat_map (grant_entries world tile) (filter (begins_in slot) (drop (i + 1) grants))) rows
      (subst (λ b. HaveRoom world.platform.table_slots (flat_map (grant_entries world tile) (rest_entries b)) rows) begins (begin_step inside is).room)

  -- and then the others remain
  pub begin_behind : (next : List Row) → i < length grants → Begins world tile slot final (drop i grants) rows → begins_in slot (get_or grants i d) ≡ true → next ≡ with_entries (get_or grants i d).label (grant_entries world tile (get_or grants i d)) rows → Begins world tile slot final (drop (i + 1) grants) next
  begin_behind next inside is begins put =
      let grant = get_or grants i d in
      record {
        room = subst (HaveRoom world.platform.table_slots (flat_map (grant_entries world tile) (filter (begins_in slot) (drop (i + 1) grants)))) (sym put)
            (room_behind world.platform.table_slots grant.label (grant_entries world tile grant) (flat_map (grant_entries world tile) (filter (begins_in slot) (drop (i + 1) grants))) rows
            (subst (λ b. HaveRoom world.platform.table_slots (flat_map (grant_entries world tile) (rest_entries b)) rows) begins (begin_step inside is).room));
        comes =
            ap (tables_begun world tile (drop (i + 1) grants) slot) put
            ∙ subst (λ b. fold (λ (rs : List Row) (g : Grant). with_entries g.label (grant_entries world tile g) rs) rows (rest_entries b) ≡ final) begins (begin_step inside is).comes;
      }

  -- one that doesn't begin changes nothing
  pub begin_past : i < length grants → Begins world tile slot final (drop i grants) rows → begins_in slot (get_or grants i d) ≡ false → Begins world tile slot final (drop (i + 1) grants) rows
  begin_past inside is late = record {
    room = subst (λ b. HaveRoom world.platform.table_slots (flat_map (grant_entries world tile) (rest_entries b)) rows) late (begin_step inside is).room;
    comes = subst (λ b. fold (λ (rs : List Row) (g : Grant). with_entries g.label (grant_entries world tile g) rs) rows (rest_entries b) ≡ final) late (begin_step inside is).comes;
  }

  pub begin_done : length grants ≤ i → Begins world tile slot final (drop i grants) rows → rows ≡ final
  begin_done past is = (subst (λ gs. Begins world tile slot final gs rows) (none_left grants i past) is).comes

-- where no grant ends or begins, the tables stay
none_pass : (test : Grant → Bool) (grants : List Grant) → list_all (λ grant. not (test grant)) grants ≡ true → filter test grants ≡ []
none_pass test [] none = refl
none_pass test (grant ∷ grants) none =
    let both = and_parts (not (test grant)) (list_all (λ g. not (test g)) grants) none in
    ap (λ b. cond b (grant ∷ filter test grants) (filter test grants)) (not-true (test grant) both.0) ∙ none_pass test grants both.1

each_part : (one other : Grant → Bool) (grants : List Grant) → list_all (λ grant. not (one grant) && not (other grant)) grants ≡ true → (list_all (λ grant. not (one grant)) grants ≡ true) × (list_all (λ grant. not (other grant)) grants ≡ true)
each_part one other [] all = (refl, refl)
each_part one other (grant ∷ grants) all =
    let both = and_parts (not (one grant) && not (other grant)) (list_all (λ g. not (one g) && not (other g)) grants) all in
    let here = and_parts (not (one grant)) (not (other grant)) both.0 in
    let rest = each_part one other grants both.1 in
    (and_from (not (one grant)) (list_all (λ g. not (one g)) grants) here.0 rest.0, and_from (not (other grant)) (list_all (λ g. not (other g)) grants) here.1 rest.1)

pub quiet_stays : (world : World) (tile : ℕ) (grants : List Grant) (slot : ℕ) (rows : List Row) → list_all (λ grant. not (ends_in slot grant) && not (begins_in slot grant)) grants ≡ true → rows ≡ tables_after world tile grants slot rows
quiet_stays world tile grants slot rows quiet =
    let both = each_part (ends_in slot) (begins_in slot) grants quiet in
    let ended : tables_ended grants slot rows ≡ rows = ap (fold (λ (rs : List Row) (g : Grant). removed g.label rs) rows) (none_pass (ends_in slot) grants both.0) in
    sym (ap (tables_begun world tile grants slot) ended
    ∙ ap (fold (λ (rs : List Row) (g : Grant). with_entries g.label (grant_entries world tile g) rs) rows) (none_pass (begins_in slot) grants both.1))
