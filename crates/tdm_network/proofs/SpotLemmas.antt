-- Slot tables, read place by place, after an entry is installed or a label's entries are removed.
use Rattle.std.proofs.Common.{◌≡◌, ◌∙◌, ℕ, ◌<◌, Bool, true, false, cond, nat_eq, ◌&&◌, List, length, get_or, set, Option, Some, None, refl, ap, sym, arith, rules, inl, inr}
use Rattle.std.specs.Option.{option_map}
use Rattle.std.proofs.lemmas.Bool.Decides.{eqb_tells}
use Rattle.std.proofs.lemmas.List.{get_or-set_same, get_or-set_other, get_or-replicate, length-replicate, length-set, length-map}
use Rattle.std.proofs.lemmas.List.Elements.{All-set, All-map}
use Rattle.std.proofs.lemmas.Grind.{common_steps}
use Rattle.std.proofs.Math.ListN.{get_or-map}
use Rattle.soc_base.specs.declared.label.Label.{Label}
use Rattle.soc_base.specs.Label.{same_label}
use Rattle.tdm_network.specs.declared.entries.Entry.{Entry}
use Rattle.tdm_network.specs.declared.entries.Source.{Source}
use Rattle.tdm_network.specs.declared.entries.Arrival.{Arrival}
use Rattle.tdm_network.specs.declared.entries.TableEntry.{TableEntry}
use Rattle.tdm_network.specs.declared.entries.TableEntry.TheVariants.{Inject, Out, Deliver}
use Rattle.tdm_network.specs.declared.rows.Row.{Row}
use Rattle.tdm_network.specs.Rows.{free_row, free_rows, row_at, held_by, slot_of, with_entry, installed, kept, kept_row, removed}
use Rattle.tdm_network.specs.Spots.{Spot, Role, spots_of, with_spot, without_label, in_role, IsNumbered, IsLaidOut}
use Rattle.tdm_network.specs.Spots.Spot.{InjectRow, OutRow, DropRow}
use Rattle.tdm_network.specs.Spots.Role.{Sends, Takes, Receives}

-- the role of what is delivered
abbrev arrives : Arrival → Role
arrives arrival = Receives arrival.input arrival.port

-- a part of a row that is replaced by one in which it is another
part_set : {Z : Type 0} (part : Row → Z) (rows : List Row) (slot other : ℕ) (row : Row) → slot < length rows → part (row_at (set rows slot row) other) ≡ cond (nat_eq slot other) (part row) (part (row_at rows other))
part_set part rows slot other row inside =
    elim (eqb_tells slot other) [
      | inl same ↦ rw same.0 (rw (← same.1) (ap part (get_or-set_same rows slot row free_row inside)))
      | inr differs ↦ rw differs.0 (ap part (get_or-set_other rows slot other row free_row (λ e. differs.1 (sym e))))
    ]

-- a part of a row that is replaced by one in which it is the same
part_same : {Z : Type 0} (part : Row → Z) (rows : List Row) (slot other : ℕ) (row : Row) → slot < length rows → part row ≡ part (row_at rows slot) → part (row_at (set rows slot row) other) ≡ part (row_at rows other)
part_same part rows slot other row inside is =
    elim (eqb_tells slot other) [
      | inl same ↦ rw (← same.1) (ap part (get_or-set_same rows slot row free_row inside) ∙ is)
      | inr differs ↦ ap part (get_or-set_other rows slot other row free_row (λ e. differs.1 (sym e)))
    ]

-- an output's place that is set
out_set : {X : Type 0} (outs : List (Option X)) (out other : ℕ) (place : Option X) → out < length outs → get_or (set outs out place) other None ≡ cond (nat_eq out other) place (get_or outs other None)
out_set outs out other place inside =
    elim (eqb_tells out other) [
      | inl same ↦ rw same.0 (rw (← same.1) (get_or-set_same outs out place None inside))
      | inr differs ↦ rw differs.0 (get_or-set_other outs out other place None (λ e. differs.1 (sym e)))
    ]

-- the outputs of a row that is replaced by one in which one output is another
outs_set : (rows : List Row) (slot other out at : ℕ) (row : Row) (place : Option (Entry Source)) → slot < length rows → out < length (row_at rows slot).outs → row.outs ≡ set (row_at rows slot).outs out place → get_or (row_at (set rows slot row) other).outs at None ≡ cond (nat_eq out at && nat_eq slot other) place (get_or (row_at rows other).outs at None)
outs_set rows slot other out at row place inside within is =
    let e = part_set (λ r. get_or r.outs at None) rows slot other row inside in
    let f : get_or row.outs at None ≡ cond (nat_eq out at) place (get_or (row_at rows slot).outs at None) = rw is (out_set (row_at rows slot).outs out at place within) in
    e ∙ elim (eqb_tells slot other) [
      | inl same ↦ rw (same.0, f) (rw (← same.1) (by (nat_eq out at) place (get_or (row_at rows slot).outs at None)))
      | inr differs ↦ rw differs.0 (none (nat_eq out at) place (get_or (row_at rows other).outs at None))
    ]
  where
    by : {Z : Type 0} (b : Bool) (x y : Z) → cond b x y ≡ cond (b && true) x y
    by true x y = refl
    by false x y = refl

    none : {Z : Type 0} (b : Bool) (x y : Z) → y ≡ cond (b && false) x y
    none true x y = refl
    none false x y = refl

role_cond : {X : Type 0} (role : X → Role) (b : Bool) (place : Entry X) (other : Option (Entry X)) → option_map (in_role role) (cond b (Some place) other) ≡ cond b (Some (in_role role place)) (option_map (in_role role) other)
role_cond role true place other = refl
role_cond role false place other = refl

-- an entry that is installed stands at its place, and every other place is as it was
pub spots-installed : (label : Label) (entry : TableEntry) (rows : List Row) (spot : Spot) → slot_of entry < length rows → IsNumbered entry → length (row_at rows (slot_of entry)).outs ≡ 7 → spots_of (installed label entry rows) spot ≡ with_spot label entry (spots_of rows) spot
spots-installed label (Inject slot port) rows (InjectRow other) inside numbers long =
    ap (option_map (in_role Sends)) (part_set (λ r. r.inject) rows slot other (with_entry label (Inject slot port) (row_at rows slot)) inside)
    ∙ role_cond Sends (nat_eq slot other) (record { label = label; what = port }) (row_at rows other).inject
spots-installed label (Inject slot port) rows (OutRow out other) inside numbers long = part_same (λ r. option_map (in_role Takes) (get_or r.outs out None)) rows slot other (with_entry label (Inject slot port) (row_at rows slot)) inside refl
spots-installed label (Inject slot port) rows (DropRow other) inside numbers long = ap (option_map (in_role arrives)) (part_same (λ r. r.deliver) rows slot other (with_entry label (Inject slot port) (row_at rows slot)) inside refl)
spots-installed label (Out out slot source) rows (InjectRow other) inside numbers long = ap (option_map (in_role Sends)) (part_same (λ r. r.inject) rows slot other (with_entry label (Out out slot source) (row_at rows slot)) inside refl)
spots-installed label (Out out slot source) rows (OutRow at other) inside numbers long =
    ap (option_map (in_role Takes)) (outs_set rows slot other out at (with_entry label (Out out slot source) (row_at rows slot)) (held_by label source) inside (omega (arith, numbers.0, long)) refl)
    ∙ role_cond Takes (nat_eq out at && nat_eq slot other) (record { label = label; what = source }) (get_or (row_at rows other).outs at None)
spots-installed label (Out out slot source) rows (DropRow other) inside numbers long = ap (option_map (in_role arrives)) (part_same (λ r. r.deliver) rows slot other (with_entry label (Out out slot source) (row_at rows slot)) inside refl)
spots-installed label (Deliver slot input port) rows (InjectRow other) inside numbers long = ap (option_map (in_role Sends)) (part_same (λ r. r.inject) rows slot other (with_entry label (Deliver slot input port) (row_at rows slot)) inside refl)
spots-installed label (Deliver slot input port) rows (OutRow out other) inside numbers long = part_same (λ r. option_map (in_role Takes) (get_or r.outs out None)) rows slot other (with_entry label (Deliver slot input port) (row_at rows slot)) inside refl
spots-installed label (Deliver slot input port) rows (DropRow other) inside numbers long =
    ap (option_map (in_role arrives)) (part_set (λ r. r.deliver) rows slot other (with_entry label (Deliver slot input port) (row_at rows slot)) inside)
    ∙ role_cond arrives (nat_eq slot other) (record { label = label; what = record { input = input; port = port } }) (row_at rows other).deliver

kept_cond : {X : Type 0} (role : X → Role) (b : Bool) (entry : Entry X) → option_map (in_role role) (cond b None (Some entry)) ≡ cond b None (Some (in_role role entry))
kept_cond role true entry = refl
kept_cond role false entry = refl

kept_role : {X : Type 0} (role : X → Role) (label : Label) (o : Option (Entry X)) → option_map (in_role role) (kept label o) ≡ kept label (option_map (in_role role) o)
kept_role role label None = refl
kept_role role label (Some entry) = kept_cond role (same_label entry.label label) entry

row_at-map : (label : Label) (rows : List Row) (slot : ℕ) → row_at (removed label rows) slot ≡ kept_row label (row_at rows slot)
row_at-map label rows slot = get_or-map (kept_row label) rows slot free_row

-- without a label's entries, every other place is as it was
pub spots-removed : (label : Label) (rows : List Row) (spot : Spot) → spots_of (removed label rows) spot ≡ without_label label (spots_of rows) spot
spots-removed label rows (InjectRow slot) = ap (λ (r : Row). option_map (in_role Sends) r.inject) (row_at-map label rows slot) ∙ kept_role Sends label (row_at rows slot).inject
spots-removed label rows (OutRow out slot) =
    ap (λ (r : Row). option_map (in_role Takes) (get_or r.outs out None)) (row_at-map label rows slot)
    ∙ ap (option_map (in_role Takes)) (get_or-map (kept label) (row_at rows slot).outs out None)
    ∙ kept_role Takes label (get_or (row_at rows slot).outs out None)
spots-removed label rows (DropRow slot) = ap (λ (r : Row). option_map (in_role arrives) r.deliver) (row_at-map label rows slot) ∙ kept_role arrives label (row_at rows slot).deliver

-- each row of new tables is free
pub free_at : (n slot : ℕ) → row_at (free_rows n) slot ≡ free_row
free_at n slot = grind (arith, common_steps)

-- the free outputs
free_out : (out : ℕ) → get_or free_row.outs out None ≡ None
free_out out = grind (arith, common_steps)

-- in new tables every place is free
pub spots-free : (n : ℕ) (spot : Spot) → spots_of (free_rows n) spot ≡ None
spots-free n (InjectRow slot) = ap (λ (r : Row). option_map (in_role Sends) r.inject) (free_at n slot)
spots-free n (OutRow out slot) = ap (λ (r : Row). option_map (in_role Takes) (get_or r.outs out None)) (free_at n slot) ∙ ap (option_map (in_role Takes)) (free_out out)
spots-free n (DropRow slot) = ap (λ (r : Row). option_map (in_role arrives) r.deliver) (free_at n slot)

pub laid_out-free : (n : ℕ) → IsLaidOut n (free_rows n)
laid_out-free n = record { slots = search (rules, common_steps); outs = λ k d inside. rw (get_or-replicate n k free_row d (omega (arith, length-replicate n free_row))) refl }

outs_long : (label : Label) (entry : TableEntry) (row : Row) → length row.outs ≡ 7 → length (with_entry label entry row).outs ≡ 7
outs_long label (Inject slot port) row long = long
outs_long label (Out out slot source) row long = length-set row.outs out (held_by label source) ∙ long
outs_long label (Deliver slot input port) row long = long

pub laid_out-installed : (n : ℕ) (label : Label) (entry : TableEntry) (rows : List Row) → slot_of entry < n → IsLaidOut n rows → IsLaidOut n (installed label entry rows)
laid_out-installed n label entry rows inside laid = record {
  slots = length-set rows (slot_of entry) (with_entry label entry (row_at rows (slot_of entry))) ∙ laid.slots;
  outs = All-set (λ row. length row.outs ≡ 7) rows (slot_of entry) (with_entry label entry (row_at rows (slot_of entry))) (outs_long label entry (row_at rows (slot_of entry)) (laid.outs (slot_of entry) free_row (omega (arith, laid.slots)))) laid.outs;
}

pub laid_out-removed : (n : ℕ) (label : Label) (rows : List Row) → IsLaidOut n rows → IsLaidOut n (removed label rows)
laid_out-removed n label rows laid = record {
  slots = length-map rows (kept_row label) ∙ laid.slots;
  outs = All-map (λ row. length row.outs ≡ 7) (kept_row label) rows (λ k d inside. length-map (get_or rows k d).outs (kept label) ∙ laid.outs k d inside);
}
