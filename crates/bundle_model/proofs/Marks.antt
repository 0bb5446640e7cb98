-- Marks at the numbers of the network's resources that were met.
use Rattle.std.proofs.Common.{◌≡◌, ℕ, ◌+◌, ◌<◌, ◌==◌, Bool, true, false, ◌||◌, List, [], ◌∷◌, ◌++◌, length, get_or, take, Some, None, sym, ap, ap₂, ◌∙◌, subst, inl, inr, arith}
use Rattle.std.specs.Prelude.{⊤, slice_set}
use Rattle.std.specs.List.{list_any, AllByRecursion}
use Rattle.std.specs.Option.{option_map_or}
use Rattle.std.proofs.Math.ListN.{replicate}
use Rattle.std.proofs.Math.Bool.{or-false}
use Rattle.std.proofs.lemmas.Bool.{cases_eq, cases_lt, eq-eqb, ne_eqb, or_right}
use Rattle.std.proofs.lemmas.List.{get_or-replicate, get_or_past, length-replicate, get_or-set_same, get_or-set_other, length-set, take_more}
use Rattle.std.proofs.lemmas.List.Folds.{list_any-append}
use Rattle.soc_base.specs.Twins.{has_twin}
use Rattle.bundle_model.specs.declared.resource.Resource.{Resource}
use Rattle.bundle_model.specs.inner.Places.{network_place, is_at, shares_place, AreMarks}
use Rattle.bundle_model.proofs.Twins.{any_none, twins_push}

-- marks that are not set
pub all_clear : (count place : ℕ) → get_or (replicate count false) place false ≡ false
all_clear count place = elim (cases_lt place count) [
  | inl inside ↦ get_or-replicate count place false false inside
  | inr past ↦ get_or_past (replicate count false) place false (let l : length (replicate count false) ≡ count = length-replicate count false in omega arith)
]

-- nothing is alike a resource that is none of the network
each_item : {X : Type 0} (xs : List X) → AllByRecursion (λ x. ⊤) xs
each_item [] = tt
each_item (x ∷ xs) = (tt, each_item xs)

pub unplaced_met : (resource : Resource) (met : List Resource) → network_place resource ≡ None → list_any (λ one. shares_place one resource) met ≡ false
unplaced_met resource met none =
    any_none (λ one. ⊤) (λ one. shares_place one resource) met (λ one any. ap (λ place. option_map_or (λ p. is_at p one) place false) none) (each_item met)

pub placed_met : (resource : Resource) (place : ℕ) (marks : List Bool) (met : List Resource) → network_place resource ≡ Some place → AreMarks marks met → get_or marks place false ≡ list_any (λ one. shares_place one resource) met
placed_met resource place marks met is are =
    are.each place ∙ ap (λ there. list_any (λ one. option_map_or (λ p. is_at p one) there false) met) (sym is)

-- marks stay, where a resource is none of the network
pub unplaced_marks : (resource : Resource) (marks : List Bool) (met : List Resource) → network_place resource ≡ None → AreMarks marks met → AreMarks marks (met ++ resource ∷ [])
unplaced_marks resource marks met none are = record {
  room = are.room;
  each = λ place.
      let last : is_at place resource ≡ false = ap (λ there. option_map_or (λ other. other == place) there false) none in
      are.each place ∙ sym (list_any-append (is_at place) met (resource ∷ []) ∙ ap (λ b. list_any (is_at place) met || (b || false)) last ∙ or-false (list_any (is_at place) met));
}

-- a mark that is set
pub placed_marks : (resource : Resource) (place : ℕ) (marks : List Bool) (met : List Resource) → network_place resource ≡ Some place → place < 196608 → AreMarks marks met → AreMarks (slice_set marks place true) (met ++ resource ∷ [])
placed_marks resource place marks met is inside are = record {
  room = length-set marks place true ∙ are.room;
  each = λ at.
      let last : is_at at resource ≡ (place == at) = ap (λ there. option_map_or (λ other. other == at) there false) is in
      let whole : list_any (is_at at) (met ++ resource ∷ []) ≡ (list_any (is_at at) met || ((place == at) || false)) =
      list_any-append (is_at at) met (resource ∷ []) ∙ ap (λ b. list_any (is_at at) met || (b || false)) last in
      elim (cases_eq at place) [
        | inl same ↦
            let set : get_or (slice_set marks place true) at false ≡ true =
            ap (λ n. get_or (slice_set marks place true) n false) same ∙ get_or-set_same marks place true false (let r = are.room in omega arith) in
            let found : (list_any (is_at at) met || ((place == at) || false)) ≡ true =
            or_right (list_any (is_at at) met) ((place == at) || false) (or-false (place == at) ∙ eq-eqb place at (sym same)) in
            set ∙ sym (whole ∙ found)
        | inr other ↦
            let kept : get_or (slice_set marks place true) at false ≡ get_or marks at false = get_or-set_other marks place at true false other in
            let none : (list_any (is_at at) met || ((place == at) || false)) ≡ list_any (is_at at) met =
            ap (λ b. list_any (is_at at) met || b) (or-false (place == at) ∙ ne_eqb place at (λ e. other (sym e))) ∙ or-false (list_any (is_at at) met) in
            kept ∙ are.each at ∙ sym (whole ∙ none)
      ];
}

-- one resource more
pub found_more : (list : List Resource) (i : ℕ) (d : Resource) (found met : Bool) → i < length list → found ≡ has_twin shares_place (take i list) → met ≡ list_any (λ one. shares_place one (get_or list i d)) (take i list) → (found || met) ≡ has_twin shares_place (take (i + 1) list)
found_more list i d found met inside so_far here =
    ap₂ (λ a b. a || b) so_far here ∙ sym (ap (has_twin shares_place) (take_more list i d inside) ∙ twins_push shares_place (take i list) (get_or list i d))

pub marks_more : (list : List Resource) (i : ℕ) (d : Resource) (marks : List Bool) → i < length list → AreMarks marks (take i list ++ get_or list i d ∷ []) → AreMarks marks (take (i + 1) list)
marks_more list i d marks inside are = subst (AreMarks marks) (sym (take_more list i d inside)) are
