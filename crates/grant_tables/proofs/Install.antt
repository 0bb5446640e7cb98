-- What stands at the places of tables after entries were installed, one after the other, and after labels
-- left.
use Rattle.std.proofs.Common.{◌≡◌, ℕ, zero, suc, ◌<◌, ◌⊎◌, Bool, true, false, cond, ◌==◌, List, [], ◌∷◌, length, slice_get, Option, Some, None, refl, sym, ap, ap₂, ◌∙◌, subst, inl, inr, arith}
use Rattle.std.specs.List.{fold}
use Rattle.std.proofs.lemmas.Bool.{cases_Bool, cond-true, cond-false, and_parts, and_from, eqb-true, eq-eqb, false≢true, false_from_ne_true}
use Rattle.std.proofs.lemmas.Option.{none-some, same_Some}
use Rattle.soc_base.specs.declared.label.Label.{Label}
use Rattle.bundle_model.specs.declared.world.Grant.{Grant}
use Rattle.bundle_model.specs.World.{same_label}
use Rattle.bundle_model.proofs.Laws.{same_so, same_label-itself}
use Rattle.tdm_network.specs.declared.entries.Entry.{Entry}
use Rattle.tdm_network.specs.declared.entries.TableEntry.{TableEntry}
use Rattle.tdm_network.specs.declared.rows.Row.{Row}
use Rattle.tdm_network.specs.Rows.{slot_of, free_row, installed, removed, kept}
use Rattle.tdm_network.specs.Spots.{Spot, Role, spots_of, spot_of, role_of, same_spot, with_spot, IsLaidOut, IsInRange}
use Rattle.tdm_network.specs.Spots.Spot.{InjectRow, OutRow, DropRow}
use Rattle.tdm_network.proofs.Laws.{spots-installed, spots-removed, laid_out-installed, laid_out-removed}

-- places that are found to be one are one
pub same_spot_so : (a b : Spot) → same_spot a b ≡ true → a ≡ b
same_spot_so (InjectRow slot) (InjectRow other) is = ap InjectRow (eqb-true slot other is)
same_spot_so (OutRow out slot) (OutRow at other) is =
    let both = and_parts (out == at) (slot == other) is in
    ap₂ (λ o s. OutRow o s) (eqb-true out at both.0) (eqb-true slot other both.1)
same_spot_so (DropRow slot) (DropRow other) is = ap DropRow (eqb-true slot other is)
same_spot_so _ _ is = absurd (false≢true is)

same_spot_itself : (a : Spot) → same_spot a a ≡ true
same_spot_itself (InjectRow slot) = eq-eqb slot slot refl
same_spot_itself (OutRow out slot) = and_from (out == out) (slot == slot) (eq-eqb out out refl) (eq-eqb slot slot refl)
same_spot_itself (DropRow slot) = eq-eqb slot slot refl

-- an entry that is installed for a label
abbrev pub Tagged : Type 0
Tagged = Label × TableEntry

abbrev pub tagged : Label → TableEntry → Tagged
tagged label entry = (label, entry)

-- what it leaves at its place
abbrev pub told_by : Tagged → Entry Role
told_by x = record { label = x.0; what = role_of x.1 }

-- the tables after such entries were installed, one after the other
abbrev pub with_all : List Tagged → List Row → List Row
with_all xs rows = fold (λ (rs : List Row) (x : Tagged). installed x.0 x.1 rs) rows xs

-- their numbers are in range
abbrev pub AreInRange : ℕ → List Tagged → Type 0
AreInRange n xs = (k : ℕ) (x : Tagged) → slice_get xs k ≡ Some x → IsInRange n x.1

-- one entry
pub put_at : (n : ℕ) (label : Label) (entry : TableEntry) (rows : List Row) (spot : Spot) → IsLaidOut n rows → IsInRange n entry → spots_of (installed label entry rows) spot ≡ with_spot label entry (spots_of rows) spot
put_at n label entry rows spot laid range =
    let low : slot_of entry < length rows = let count = laid.slots in let inside = range.slot in omega (arith, count, inside) in
    spots-installed label entry rows spot low range.numbers (laid.outs (slot_of entry) free_row low)

pub put_laid : (n : ℕ) (label : Label) (entry : TableEntry) (rows : List Row) → IsLaidOut n rows → IsInRange n entry → IsLaidOut n (installed label entry rows)
put_laid n label entry rows laid range = laid_out-installed n label entry rows range.slot laid

-- at its place and elsewhere
put_here : (n : ℕ) (x : Tagged) (rows : List Row) (spot : Spot) → IsLaidOut n rows → IsInRange n x.1 → spot_of x.1 ≡ spot → spots_of (installed x.0 x.1 rows) spot ≡ Some (told_by x)
put_here n x rows spot laid range same =
    put_at n x.0 x.1 rows spot laid range
    ∙ cond-true (same_spot (spot_of x.1) spot) (Some (told_by x)) (spots_of rows spot) (subst (λ s. same_spot (spot_of x.1) s ≡ true) same (same_spot_itself (spot_of x.1)))

pub put_elsewhere : (n : ℕ) (x : Tagged) (rows : List Row) (spot : Spot) → IsLaidOut n rows → IsInRange n x.1 → (spot_of x.1 ≡ spot → ⊥) → spots_of (installed x.0 x.1 rows) spot ≡ spots_of rows spot
put_elsewhere n x rows spot laid range differs =
    put_at n x.0 x.1 rows spot laid range
    ∙ cond-false (same_spot (spot_of x.1) spot) (Some (told_by x)) (spots_of rows spot) (false_from_ne_true (same_spot (spot_of x.1) spot) (λ is. differs (same_spot_so (spot_of x.1) spot is)))

pub all_laid : (n : ℕ) (xs : List Tagged) (rows : List Row) → AreInRange n xs → IsLaidOut n rows → IsLaidOut n (with_all xs rows)
all_laid n [] rows range laid = laid
all_laid n (x ∷ xs) rows range laid = all_laid n xs (installed x.0 x.1 rows) (λ k y at. range (suc k) y at) (put_laid n x.0 x.1 rows laid (range 0 x refl))

-- what stands at a place stays where nothing is installed there but what it says
pub all_stay : (n : ℕ) (xs : List Tagged) (rows : List Row) (spot : Spot) (what : Entry Role) → AreInRange n xs → IsLaidOut n rows → spots_of rows spot ≡ Some what → ((k : ℕ) (x : Tagged) → slice_get xs k ≡ Some x → spot_of x.1 ≡ spot → told_by x ≡ what) → spots_of (with_all xs rows) spot ≡ Some what
all_stay n [] rows spot what range laid there same = there
all_stay n (x ∷ xs) rows spot what range laid there same =
    all_stay n xs (installed x.0 x.1 rows) spot what (λ k y at. range (suc k) y at) (put_laid n x.0 x.1 rows laid (range 0 x refl))
    (elim (cases_Bool (same_spot (spot_of x.1) spot)) [
      | inl is ↦
          let here = same_spot_so (spot_of x.1) spot is in
          put_here n x rows spot laid (range 0 x refl) here ∙ ap (λ w. Some w) (same 0 x refl here)
      | inr isnt ↦ put_elsewhere n x rows spot laid (range 0 x refl) (λ here. false≢true (sym isnt ∙ subst (λ s. same_spot (spot_of x.1) s ≡ true) here (same_spot_itself (spot_of x.1)))) ∙ there
    ])
    (λ k y at. same (suc k) y at)

-- an entry that was installed stands at its place
pub all_told : (n : ℕ) (xs : List Tagged) (rows : List Row) (k : ℕ) (x : Tagged) → AreInRange n xs → IsLaidOut n rows → slice_get xs k ≡ Some x → ((m : ℕ) (y : Tagged) → slice_get xs m ≡ Some y → spot_of y.1 ≡ spot_of x.1 → told_by y ≡ told_by x) → spots_of (with_all xs rows) (spot_of x.1) ≡ Some (told_by x)
all_told n [] rows k x range laid there same = absurd (none-some x there)
all_told n (first ∷ xs) rows zero x range laid there same =
    let one : first ≡ x = same_Some first x there in
    all_stay n xs (installed first.0 first.1 rows) (spot_of x.1) (told_by x) (λ m y at. range (suc m) y at) (put_laid n first.0 first.1 rows laid (range 0 first refl))
    (put_here n first rows (spot_of x.1) laid (range 0 first refl) (ap (λ (y : Tagged). spot_of y.1) one) ∙ ap (λ (y : Tagged). Some (told_by y)) one)
    (λ m y at. same (suc m) y at)
all_told n (first ∷ xs) rows (suc k) x range laid there same =
    all_told n xs (installed first.0 first.1 rows) k x (λ m y at. range (suc m) y at) (put_laid n first.0 first.1 rows laid (range 0 first refl)) there (λ m y at. same (suc m) y at)

-- what stands at a place was installed or stood there
pub record IsInstalled (xs : List Tagged) (spot : Spot) (what : Entry Role) : Type 0 where
  pub place : ℕ
  pub put : Tagged
  pub there : slice_get xs place ≡ Some put
  pub spot_is : spot_of put.1 ≡ spot
  pub what_is : told_by put ≡ what

later : (x : Tagged) (xs : List Tagged) (spot : Spot) (what : Entry Role) → IsInstalled xs spot what → IsInstalled (x ∷ xs) spot what
later x xs spot what is = record { place = suc is.place; put = is.put; there = is.there; spot_is = is.spot_is; what_is = is.what_is }

pub all_known : (n : ℕ) (xs : List Tagged) (rows : List Row) (spot : Spot) (what : Entry Role) → AreInRange n xs → IsLaidOut n rows → spots_of (with_all xs rows) spot ≡ Some what → IsInstalled xs spot what ⊎ (spots_of rows spot ≡ Some what)
all_known n [] rows spot what range laid there = inr there
all_known n (x ∷ xs) rows spot what range laid there = elim (all_known n xs (installed x.0 x.1 rows) spot what (λ k y at. range (suc k) y at) (put_laid n x.0 x.1 rows laid (range 0 x refl)) there) [
  | inl is ↦ inl (later x xs spot what is)
  | inr was ↦ elim (cases_Bool (same_spot (spot_of x.1) spot)) [
    | inl is ↦
        let here = same_spot_so (spot_of x.1) spot is in
        inl (record { place = 0; put = x; there = refl; spot_is = here; what_is = same_Some (told_by x) what (sym (put_here n x rows spot laid (range 0 x refl) here) ∙ was) })
    | inr isnt ↦ inr (sym (put_at n x.0 x.1 rows spot laid (range 0 x refl) ∙ cond-false (same_spot (spot_of x.1) spot) (Some (told_by x)) (spots_of rows spot) isnt) ∙ was)
  ]
]

-- the tables without the labels of grants
abbrev pub without_all : List Grant → List Row → List Row
without_all grants rows = fold (λ (rs : List Row) (grant : Grant). removed grant.label rs) rows grants

pub left_laid : (n : ℕ) (grants : List Grant) (rows : List Row) → IsLaidOut n rows → IsLaidOut n (without_all grants rows)
left_laid n [] rows laid = laid
left_laid n (grant ∷ grants) rows laid = left_laid n grants (removed grant.label rows) (laid_out-removed n grant.label rows laid)

-- what another label has stays
pub left_stay : (grants : List Grant) (rows : List Row) (spot : Spot) (what : Entry Role) → spots_of rows spot ≡ Some what → ((k : ℕ) (grant : Grant) → slice_get grants k ≡ Some grant → what.label ≡ grant.label → ⊥) → spots_of (without_all grants rows) spot ≡ Some what
left_stay [] rows spot what there others = there
left_stay (grant ∷ grants) rows spot what there others =
    let differs : same_label what.label grant.label ≡ false = false_from_ne_true (same_label what.label grant.label) (λ is. others 0 grant refl (same_so what.label grant.label is)) in
    left_stay grants (removed grant.label rows) spot what
    (spots-removed grant.label rows spot ∙ ap (kept grant.label) there ∙ cond-false (same_label what.label grant.label) None (Some what) differs)
    (λ k other at. others (suc k) other at)

kept_some : (b : Bool) (x what : Entry Role) → cond b None (Some x) ≡ Some what → (x ≡ what) × (b ≡ false)
kept_some true x what there = absurd (none-some what there)
kept_some false x what there = (same_Some x what there, refl)

kept_known : (label : Label) (o : Option (Entry Role)) (what : Entry Role) → kept label o ≡ Some what → (o ≡ Some what) × (same_label what.label label ≡ false)
kept_known label None what there = absurd (none-some what there)
kept_known label (Some x) what there =
    let both = kept_some (same_label x.label label) x what there in
    (ap (λ y. Some y) both.0, ap (λ (y : Entry Role). same_label y.label label) (sym both.0) ∙ both.1)

-- what stands after labels left stood before, and is of none of them
pub left_known : (grants : List Grant) (rows : List Row) (spot : Spot) (what : Entry Role) → spots_of (without_all grants rows) spot ≡ Some what → (spots_of rows spot ≡ Some what) × ((k : ℕ) (grant : Grant) → slice_get grants k ≡ Some grant → what.label ≡ grant.label → ⊥)
left_known [] rows spot what there = (there, λ k grant at. absurd (none-some grant at))
left_known (grant ∷ grants) rows spot what there =
    let rest = left_known grants (removed grant.label rows) spot what there in
    let here = kept_known grant.label (spots_of rows spot) what (sym (spots-removed grant.label rows spot) ∙ rest.0) in
    (here.0, differ rest.1 here.1)
  where
    differ : ((k : ℕ) (other : Grant) → slice_get grants k ≡ Some other → what.label ≡ other.label → ⊥) → same_label what.label grant.label ≡ false → (k : ℕ) (other : Grant) → slice_get (grant ∷ grants) k ≡ Some other → what.label ≡ other.label → ⊥
    differ others isnt zero other at same =
        let label : what.label ≡ grant.label = same ∙ ap (λ (g : Grant). g.label) (sym (same_Some grant other at)) in
        false≢true (sym isnt ∙ subst (λ l. same_label what.label l ≡ true) label (same_label-itself what.label))
    differ others isnt (suc k) other at same = others k other at same
