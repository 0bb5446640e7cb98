-- What a reply makes of grants.
use Rattle.std.proofs.Common.{◌≡◌, ◌≢◌, ℕ, zero, suc, ◌<◌, true, false, List, [], ◌∷◌, ◌++◌, length, map, get_or, Option, Some, None, inl, inr, refl, ap, ap₂, ◌∙◌, sym, arith, append-nil}
use Rattle.std.specs.Prelude.{is_none}
use Rattle.std.specs.List.{All, AllPairs, position}
use Rattle.std.specs.Option.{option_or, option_to_list}
use Rattle.std.proofs.lemmas.Bool.{and_parts, and_cases, cond-true, cond-false, false_from_ne_true, true≢false}
use Rattle.std.proofs.lemmas.Option.{slice_get-get_or}
use Rattle.std.proofs.lemmas.List.Elements.{All-head, All-tail}
use Rattle.std.proofs.lemmas.List.Quantifiers.{position-Some}
use Rattle.soc_base.specs.declared.label.Label.{Label}
use Rattle.bundle_model.specs.declared.world.Grant.{Grant}
use Rattle.bundle_model.specs.World.{same_label}
use Rattle.bundle_model.proofs.Laws.{no_place}
use Rattle.vep_manager.specs.declared.setup.Setup.{Setup}
use Rattle.vep_manager.specs.declared.reply.Reply.{Reply}
use Rattle.vep_manager.specs.declared.reply.Reply.TheVariants.{Granted, Stopped}
use Rattle.vep_manager.specs.History.{end_by}
use Rattle.vep_manager.specs.Owners.{with_end}
use Rattle.vep_manager.specs.inner.Keeping.{ended_by, opened_by, grants_after, is_open_of}
use Rattle.vep_manager.proofs.Labels.{label_is, label_same}
use Rattle.vep_manager.proofs.Lists.{pairs_head, pairs_tail}

or_none : (o : Option ℕ) → option_or o None ≡ o
or_none None = refl
or_none (Some n) = refl

map_same : {X : Type 0} (f : X → X) (xs : List X) → All (λ x. f x ≡ x) xs → map f xs ≡ xs
map_same f [] same = refl
map_same {X} f (x ∷ xs) same =
    ap₂ (λ (y : X) (ys : List X). y ∷ ys) (All-head (λ y. f y ≡ y) x xs same)
    (map_same f xs (All-tail (λ y. f y ≡ y) x xs same))

-- a grant that a reply gives no end
unended : (reply : Reply) (grant : Grant) → end_by grant.label reply ≡ None → ended_by reply grant ≡ grant
unended reply grant none =
    ap (λ (o : Option ℕ). let ended : Grant = record grant { end = option_or grant.end o } in ended) none
    ∙ ap (λ (o : Option ℕ). let ended : Grant = record grant { end = o } in ended) (or_none grant.end)

-- a reply that ends no grant leaves them
pub all_unended : (reply : Reply) (grants : List Grant) → ((label : Label) → end_by label reply ≡ None)
    → map (ended_by reply) grants ≡ grants
all_unended reply grants none =
    map_same (ended_by reply) grants
    (λ k d below. unended reply (get_or grants k d) (none (get_or grants k d).label))

-- one that opens none either
pub quiet_after : (setup : Setup) (reply : Reply) (grants : List Grant) → ((label : Label) → end_by label reply ≡ None)
    → opened_by setup reply ≡ None → grants_after setup reply grants ≡ grants
quiet_after setup reply grants ends opens =
    ap₂ (λ (xs : List Grant) (o : Option Grant). xs ++ option_to_list o) (all_unended reply grants ends) opens
    ∙ append-nil grants

-- the end of another load
of_other : (label : Label) (end : ℕ) (grant : Grant) → grant.label ≢ label
    → ended_by (Stopped label end) grant ≡ grant
of_other label end grant other =
    unended (Stopped label end) grant
    (cond-false (same_label label grant.label) (Some end) None
    (false_from_ne_true (same_label label grant.label) (λ same. other (sym (label_is label grant.label same)))))

-- the end of a grant that has one
of_ended : (reply : Reply) (label : Label) (bundle start : ℕ) (end : Option ℕ) → is_none end ≡ false
    → ended_by reply (record { label = label; bundle = bundle; start = start; end = end })
    ≡ record { label = label; bundle = bundle; start = start; end = end }
of_ended reply label bundle start None some = absurd (true≢false some)
of_ended reply label bundle start (Some end) some = refl

-- a grant that isn't open, or is of another label
not_open : (label : Label) (end : ℕ) (grant : Grant) → is_open_of label grant ≡ false
    → ended_by (Stopped label end) grant ≡ grant
not_open label end grant fails =
    elim (and_cases (same_label grant.label label) (is_none grant.end) fails) [
      | inl other ↦
          of_other label end grant (λ same. true≢false (sym (label_same grant.label label same) ∙ other))
      | inr ended ↦ of_ended (Stopped label end) grant.label grant.bundle grant.start grant.end ended
    ]

is_none_so : (o : Option ℕ) → is_none o ≡ true → o ≡ None
is_none_so None none = refl
is_none_so (Some n) none = absurd (true≢false (sym none))

-- the open grant of the label
open_ends : (label : Label) (end : ℕ) (grant : Grant) → is_open_of label grant ≡ true
    → ended_by (Stopped label end) grant ≡ record grant { end = Some end }
open_ends label end grant is_open =
    let parts = and_parts (same_label grant.label label) (is_none grant.end) is_open in
    let same = label_same label grant.label (sym (label_is grant.label label parts.0)) in
    ap₂ (λ (o e : Option ℕ). let ended : Grant = record grant { end = option_or o e } in ended)
    (is_none_so grant.end parts.1) (cond-true (same_label label grant.label) (Some end) None same)

ended_at : (grants : List Grant) (place : ℕ) (label : Label) (end : ℕ) (d : Grant) → place < length grants
    → is_open_of label (get_or grants place d) ≡ true
    → ((j : ℕ) → j < place → is_open_of label (get_or grants j d) ≡ false)
    → AllPairs (λ one other. one.label ≢ other.label) grants
    → map (ended_by (Stopped label end)) grants ≡ with_end grants place end
ended_at [] place label end d inside is_open before apart = absurd (omega (arith, inside))
ended_at (grant ∷ grants) zero label end d inside is_open before apart =
    let parts = and_parts (same_label grant.label label) (is_none grant.end) is_open in
    let is : grant.label ≡ label = label_is grant.label label parts.0 in
    ap₂ (λ (g : Grant) (gs : List Grant). g ∷ gs) (open_ends label end grant is_open)
    (map_same (ended_by (Stopped label end)) grants
    (λ k e below. of_other label end (get_or grants k e)
    (λ same. pairs_head (λ (one other : Grant). one.label ≢ other.label) grant grants apart k e below (is ∙ sym same))))
ended_at (grant ∷ grants) (suc place) label end d inside is_open before apart =
    ap₂ (λ (g : Grant) (gs : List Grant). g ∷ gs) (not_open label end grant (before zero (omega arith)))
    (ended_at grants place label end d (omega (arith, inside)) is_open (λ j low. before (suc j) (omega (arith, low)))
    (pairs_tail (λ (one other : Grant). one.label ≢ other.label) grant grants apart))

-- the open grant of a label gets its end
pub stopped_at : (grants : List Grant) (place : ℕ) (label : Label) (end : ℕ)
    → AllPairs (λ one other. one.label ≢ other.label) grants → position (is_open_of label) grants ≡ Some place
    → map (ended_by (Stopped label end)) grants ≡ with_end grants place end
stopped_at grants place label end apart at =
    let none : Grant = record { label = label; bundle = 0; start = 0; end = None } in
    let here = position-Some (is_open_of label) grants place none at in
    ended_at grants place label end none here.0 here.1 here.2 apart

-- where there is none, all stay
pub stopped_nowhere : (grants : List Grant) (label : Label) (end : ℕ) → position (is_open_of label) grants ≡ None
    → map (ended_by (Stopped label end)) grants ≡ grants
stopped_nowhere grants label end none =
    map_same (ended_by (Stopped label end)) grants
    (λ k d below. not_open label end (get_or grants k d)
    (no_place (is_open_of label) grants k (get_or grants k d) none (slice_get-get_or grants k d below)))

-- a load that is granted stands behind the others
pub granted_after : (setup : Setup) (grants : List Grant) (label : Label) (start : ℕ) (grant : Grant)
    → Some grant ≡ opened_by setup (Granted label start)
    → grants ++ grant ∷ [] ≡ grants_after setup (Granted label start) grants
granted_after setup grants label start grant is =
    ap₂ (λ (xs : List Grant) (o : Option Grant). xs ++ option_to_list o)
    (sym (all_unended (Granted label start) grants (λ other. refl))) is
