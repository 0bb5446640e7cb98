-- The grant of a load that stands at a slot, and how it goes on to the next.
use Rattle.std.proofs.Common.{◌≡◌, ◌≢◌, ℕ, suc, ◌+◌, ◌*◌, Bool, true, false, cond, ◌&&◌, ◌||◌, ◌==◌, nat_lt, nat_le, List, [], ◌∷◌, Option, Some, None, option_map, All, AllPairs, refl, sym, subst, ap, ◌∙◌, arith}
use Rattle.std.specs.Option.{option_map_or}
use Rattle.std.specs.List.{list_any}
use Rattle.std.proofs.lemmas.List.Elements.{All-head, All-tail}
use Rattle.std.proofs.lemmas.Bool.{false_from_ne_true}
use Rattle.std.proofs.lemmas.Bool.Decides.{nat_tests}
use Rattle.std.proofs.Math.Bool.{and-false}
use Rattle.soc_base.specs.declared.label.Label.{Label}
use Rattle.bundle_model.specs.declared.world.Grant.{Grant}
use Rattle.bundle_model.specs.World.{same_label}
use Rattle.tile_core.specs.Slot.{grant_of, ends_in, begins_in}
use Rattle.bundle_model.specs.Grants.{stands_at}
use Rattle.bundle_model.proofs.Laws.{same_so}
use Rattle.tile_core.specs.Fit.{standing_grant}

-- no two grants have one label
abbrev pub AreLabelled : List Grant → Type 0
AreLabelled grants = AllPairs (λ one other. one.label ≢ other.label) grants

pub first_apart : (grant : Grant) (grants : List Grant) → AreLabelled (grant ∷ grants) → All (λ other. grant.label ≢ other.label) grants
first_apart grant grants apart = λ k d inside. apart 0 (suc k) d (omega arith) (omega (arith, inside))

pub rest_apart : (grant : Grant) (grants : List Grant) → AreLabelled (grant ∷ grants) → AreLabelled grants
rest_apart grant grants apart = λ i j d below inside. apart (suc i) (suc j) d (omega (arith, below)) (omega (arith, inside))

none_other : (slot : ℕ) (label : Label) (grants : List Grant) → All (λ other. label ≢ other.label) grants → standing_grant grants slot label ≡ None
none_other slot label [] apart = refl
none_other slot label (grant ∷ grants) apart =
    let differ = All-head (λ other. label ≢ other.label) grant grants apart in
    let differs : same_label grant.label label ≡ false = false_from_ne_true (same_label grant.label label) (λ e. differ (sym (same_so grant.label label e))) in
    ap (λ same. cond (same && stands_at slot grant) (Some grant) (standing_grant grants slot label)) differs
    ∙ none_other slot label grants (All-tail (λ other. label ≢ other.label) grant grants apart)

-- a grant, where it stands at a slot
abbrev pub if_stands : ℕ → Option Grant → Option Grant
if_stands slot (Some grant) = cond (stands_at slot grant) (Some grant) None
if_stands slot None = None

standing_case : (slot : ℕ) (label : Label) (grant : Grant) (grants : List Grant) (same : Bool) → same_label grant.label label ≡ same → All (λ other. grant.label ≢ other.label) grants → standing_grant grants slot label ≡ if_stands slot (grant_of grants label) → standing_grant (grant ∷ grants) slot label ≡ if_stands slot (grant_of (grant ∷ grants) label)
standing_case slot label grant grants true e apart rest =
    let P : Label → Type 0 = λ one. All (λ other. one ≢ other.label) grants in
    let alone = none_other slot label grants (subst P (same_so grant.label label e) apart) in
    ap (λ same. cond (same && stands_at slot grant) (Some grant) (standing_grant grants slot label)) e
    ∙ ap (cond (stands_at slot grant) (Some grant)) alone
    ∙ sym (ap (λ same. if_stands slot (cond same (Some grant) (grant_of grants label))) e)
standing_case slot label grant grants false e apart rest =
    ap (λ same. cond (same && stands_at slot grant) (Some grant) (standing_grant grants slot label)) e
    ∙ rest
    ∙ sym (ap (λ same. if_stands slot (cond same (Some grant) (grant_of grants label))) e)

-- a load's grant is the one that stands, where it stands
pub standing_is : (slot : ℕ) (label : Label) (grants : List Grant) → AreLabelled grants → standing_grant grants slot label ≡ if_stands slot (grant_of grants label)
standing_is slot label [] apart = refl
standing_is slot label (grant ∷ grants) apart =
    standing_case slot label grant grants (same_label grant.label label) refl (first_apart grant grants apart) (standing_is slot label grants (rest_apart grant grants apart))

-- the cycle at which a grant starts
abbrev pub first_cycle : ℕ → Option Grant → Option ℕ
first_cycle len grant = option_map (λ grant. grant.start * len) grant

next_open : (start slot len : ℕ) → cond (start == slot && true) (Some (slot * len)) (cond (nat_lt start slot && true) (Some (start * len)) None) ≡ cond (nat_lt start (slot + 1) && true) (Some (start * len)) None
next_open start slot len = grind (arith, nat_tests)

next_ending : (start end slot len : ℕ) → cond (start == slot && nat_lt slot end) (Some (slot * len)) (cond (end == slot && nat_lt start end) None (cond (nat_lt start slot && nat_le slot end) (Some (start * len)) None)) ≡ cond (nat_lt start (slot + 1) && nat_le (slot + 1) end) (Some (start * len)) None
next_ending start end slot len = grind (arith, nat_tests)

map_cond : (len : ℕ) (b : Bool) (grant : Grant) → first_cycle len (cond b (Some grant) None) ≡ cond b (Some (grant.start * len)) None
map_cond len true grant = refl
map_cond len false grant = refl

next_by_end : (slot len : ℕ) (grant : Grant) (end : Option ℕ) → grant.end ≡ end → cond (begins_in slot grant) (Some (slot * len)) (cond (ends_in slot grant) None (cond (stands_at slot grant) (Some (grant.start * len)) None)) ≡ cond (stands_at (slot + 1) grant) (Some (grant.start * len)) None
next_by_end slot len grant None is = rw is (next_open grant.start slot len)
next_by_end slot len grant (Some end) is = rw is (next_ending grant.start end slot len)

-- a grant that ends in a slot stands no longer at the next, one that begins there does, and any other
-- stands at the one where it stands at the other
pub next_standing : (slot len : ℕ) (grant : Option Grant) → cond (option_map_or (begins_in slot) grant false) (Some (slot * len)) (cond (option_map_or (ends_in slot) grant false) None (first_cycle len (if_stands slot grant))) ≡ first_cycle len (if_stands (slot + 1) grant)
next_standing slot len None = refl
next_standing slot len (Some grant) =
    ap (λ inner. cond (begins_in slot grant) (Some (slot * len)) (cond (ends_in slot grant) None inner)) (map_cond len (stands_at slot grant) grant)
    ∙ next_by_end slot len grant grant.end refl
    ∙ sym (map_cond len (stands_at (slot + 1) grant) grant)

-- whether some grant that passes is of a load
abbrev pub touched : (Grant → Bool) → List Grant → Label → Bool
touched p grants label = list_any (λ grant. p grant && same_label grant.label label) grants

only : (b : Bool) → ((b && true) || false) ≡ b
only true = refl
only false = refl

pub untouched : (p : Grant → Bool) (label : Label) (grants : List Grant) → All (λ other. label ≢ other.label) grants → touched p grants label ≡ false
untouched p label [] apart = refl
untouched p label (grant ∷ grants) apart =
    let differ = All-head (λ other. label ≢ other.label) grant grants apart in
    let differs : same_label grant.label label ≡ false = false_from_ne_true (same_label grant.label label) (λ e. differ (sym (same_so grant.label label e))) in
    ap (λ same. (p grant && same) || touched p grants label) differs
    ∙ ap (λ b. b || touched p grants label) (and-false (p grant))
    ∙ untouched p label grants (All-tail (λ other. label ≢ other.label) grant grants apart)

touched_case : (p : Grant → Bool) (label : Label) (grant : Grant) (grants : List Grant) (same : Bool) → same_label grant.label label ≡ same → All (λ other. grant.label ≢ other.label) grants → touched p grants label ≡ option_map_or p (grant_of grants label) false → touched p (grant ∷ grants) label ≡ option_map_or p (grant_of (grant ∷ grants) label) false
touched_case p label grant grants true e apart rest =
    let P : Label → Type 0 = λ one. All (λ other. one ≢ other.label) grants in
    let alone = untouched p label grants (subst P (same_so grant.label label e) apart) in
    ap (λ same. (p grant && same) || touched p grants label) e
    ∙ ap (λ b. (p grant && true) || b) alone
    ∙ only (p grant)
    ∙ sym (ap (λ same. option_map_or p (cond same (Some grant) (grant_of grants label)) false) e)
touched_case p label grant grants false e apart rest =
    ap (λ same. (p grant && same) || touched p grants label) e
    ∙ ap (λ b. b || touched p grants label) (and-false (p grant))
    ∙ rest
    ∙ sym (ap (λ same. option_map_or p (cond same (Some grant) (grant_of grants label)) false) e)

-- of a load at most one grant is
pub touched_is : (p : Grant → Bool) (label : Label) (grants : List Grant) → AreLabelled grants → touched p grants label ≡ option_map_or p (grant_of grants label) false
touched_is p label [] apart = refl
touched_is p label (grant ∷ grants) apart =
    touched_case p label grant grants (same_label grant.label label) refl (first_apart grant grants apart) (touched_is p label grants (rest_apart grant grants apart))
