-- Labels that are one.
use Rattle.std.proofs.Common.{◌≡◌, ◌≢◌, ℕ, true, ◌==◌, List, get_or, None, sym, ◌∙◌, arith, eqb-true, ap₂}
use Rattle.std.specs.List.{All, find}
use Rattle.std.proofs.lemmas.Bool.{and_parts, true≢false}
use Rattle.soc_base.specs.declared.label.Label.{Label}
use Rattle.bundle_model.specs.declared.world.Grant.{Grant}
use Rattle.bundle_model.specs.World.{same_label}
use Rattle.vep_manager.proofs.Lists.{not_found}

pub label_is : (one other : Label) → same_label one other ≡ true → one ≡ other
label_is one other same =
    let parts = and_parts (one.session == other.session) (one.load == other.load) same in
    ap₂ (λ (s l : ℕ). let label : Label = record { session = s; load = l } in label)
    (eqb-true one.session other.session parts.0) (eqb-true one.load other.load parts.1)

pub label_same : (one other : Label) → one ≡ other → same_label one other ≡ true
label_same one other e = grind arith

-- no grant has a label by which none is found
pub new_label : (grants : List Grant) (label : Label) → find (λ grant. same_label grant.label label) grants ≡ None
    → All (λ grant. grant.label ≢ label) grants
new_label grants label none k d below same =
    let fails = not_found (λ (g : Grant). same_label g.label label) grants none k d below in
    true≢false (sym (label_same (get_or grants k d).label label same) ∙ fails)
