-- Counting over the grants of a history, entry by entry.
use Rattle.std.proofs.Common.{◌≡◌, ℕ, ◌+◌, ◌<◌, ◌≤◌, List, [], length, take, get_or, sum_by, Option, refl, sym, ap, subst, ◌∙◌}
use Rattle.std.specs.Option.{option_map_or, option_to_list}
use Rattle.std.proofs.lemmas.List.{take_all}
use Rattle.std.proofs.lemmas.List.Sums.{sum_by-append}
use Rattle.bundle_model.specs.declared.bundle.Bundle.{Bundle}
use Rattle.bundle_model.specs.declared.bundle.Part.{Part}
use Rattle.bundle_model.specs.declared.world.Grant.{Grant}
use Rattle.tile_core.specs.declared.station.Station.{Station}
use Rattle.vep_manager.specs.declared.setup.Setup.{Setup}
use Rattle.vep_manager.specs.declared.reply.Entry.{Entry}
use Rattle.vep_manager.specs.History.{grant_by, grants_of}
use Rattle.report_text.specs.inner.Counts.{app_count, part_count}
use Rattle.report_text.specs.inner.Logs.{grants_in, HoldsAlone, ArePartsOf}
use Rattle.report_text.specs.declared.counts.Counted.{Counted}
use Rattle.report_text.proofs.AppTexts.{grants_in_more}

-- the parts of a grant are few
pub few_of : (setup : Setup) (stations : List Station) (grant : Grant) (parts : List Part)
    → HoldsAlone setup stations grant → ArePartsOf setup.world grant parts → length parts ≤ 32
few_of setup stations grant parts alone are =
    let P : List Part → Type 0 = λ ps. length ps ≤ 32 in
    subst P (sym (are alone.bundle alone.is_bundle)) alone.few

-- and what they count for is what its application does
pub count_of_parts : (counted : Counted) (setup : Setup) (stations : List Station) (grant : Grant) (parts : List Part)
    → HoldsAlone setup stations grant → ArePartsOf setup.world grant parts
    → sum_by (part_count counted stations grant.label) parts ≡ app_count counted setup stations grant
count_of_parts counted setup stations grant parts alone are =
    ap (sum_by (part_count counted stations grant.label)) (are alone.bundle alone.is_bundle)
    ∙ ap (λ (o : Option Bundle). option_map_or
    (λ bundle. sum_by (part_count counted stations grant.label) bundle.parts) o 0) (sym alone.is_bundle)

-- before the first entry nothing is counted
pub count_none : (f : Grant → ℕ) (setup : Setup) (history : List Entry) → sum_by f (grants_in setup history []) ≡ 0
unfolding grants_in
count_none f setup history = refl

-- one entry more
pub count_more : (f : Grant → ℕ) (setup : Setup) (history : List Entry) (i : ℕ) (d : Entry) → i < length history
    → sum_by f (grants_in setup history (take (i + 1) history))
    ≡ sum_by f (grants_in setup history (take i history))
    + sum_by f (option_to_list (grant_by setup history (get_or history i d).reply))
count_more f setup history i d inside =
    ap (sum_by f) (grants_in_more setup history history i d inside)
    ∙ sum_by-append f (grants_in setup history (take i history))
    (option_to_list (grant_by setup history (get_or history i d).reply))

-- all entries
pub count_all : (f : Grant → ℕ) (setup : Setup) (history : List Entry) (i : ℕ) → length history ≤ i
    → sum_by f (grants_in setup history (take i history)) ≡ sum_by f (grants_of setup history)
unfolding grants_in grants_of
count_all f setup history i past = ap (λ entries. sum_by f (grants_in setup history entries)) (take_all i history past)
