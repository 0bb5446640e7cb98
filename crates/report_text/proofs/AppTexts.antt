-- The texts of applications, one behind another.
use Rattle.std.proofs.Common.{◌≡◌, ℕ, ◌+◌, ◌<◌, ◌≤◌, suc, zero, List, [], ◌∷◌, ◌++◌, map, take, length, get_or, Option, Some, None, All, IfSome, append_assoc, append-nil, refl, sym, subst, ◌∙◌, ap, ap₂, arith}
use Rattle.std.specs.List.{flat_map, filter_map, cons_option, concat}
use Rattle.std.specs.List.Sorted.{IsSorted, IsPermutation}
use Rattle.std.specs.Option.{option_to_list, option_map_or}
use Rattle.std.proofs.lemmas.Grind.{flat_map-append}
use Rattle.std.proofs.lemmas.List.{take_more, take_all}
use Rattle.soc_base.specs.declared.label.Label.{Label}
use Rattle.trace_log.specs.Log.{Log}
use Rattle.std.proofs.lemmas.List.Elements.{All-head, All-tail, filter_map-append}
use Rattle.trace_log.specs.declared.row.TraceRow.{TraceRow}
use Rattle.trace_log.specs.Rows.{row_cmp}
use Rattle.bundle_model.specs.declared.bundle.Part.{Part}
use Rattle.bundle_model.specs.declared.world.Grant.{Grant}
use Rattle.alone_model.specs.App.{alone_at}
use Rattle.alone_model.specs.Trace.{part_trace}
use Rattle.tile_core.specs.declared.station.Station.{Station}
use Rattle.vep_manager.specs.declared.setup.Setup.{Setup}
use Rattle.vep_manager.specs.declared.reply.Entry.{Entry}
use Rattle.vep_manager.specs.History.{grant_by, grants_of}
use Rattle.event_core.specs.Stands.{stop_slot}
use Rattle.report_text.specs.Rows.{row_text, part_text}
use Rattle.report_text.specs.Report.{app_text, IsAppText, AreAppTexts}
use Rattle.report_text.specs.inner.Logs.{log_on, rows_on, line_on, traces_on, app_line, grants_in, HoldsAlone}

-- the lines of parts are those of their traces
line_of : (o : Option Log) (number : ℕ)
    → option_map_or (λ log. part_text (record { tile = number; end = log.end; cut = log.cut })) o []
    ≡ flat_map part_text (option_map_or (λ log. record { tile = number; end = log.end; cut = log.cut } ∷ []) o [])
line_of (Some log) number = sym (append-nil (part_text (record { tile = number; end = log.end; cut = log.cut })))
line_of None number = refl

lines_of : (stations : List Station) (label : Label) (parts : List Part)
    → flat_map (line_on stations label) parts ≡ flat_map part_text (flat_map (traces_on stations label) parts)
lines_of stations label [] = refl
lines_of stations label (part ∷ parts) =
    ap₂ (λ (s t : List ℕ). s ++ t) (line_of (log_on stations label part) part.tile) (lines_of stations label parts)
    ∙ sym (flat_map-append part_text (traces_on stations label part) (flat_map (traces_on stations label) parts))

-- the first line, the merged rows and the lines of the parts are the text of an application
pub app_text_of : (setup : Setup) (stations : List Station) (grant : Grant) (parts : List Part) (rows : List TraceRow)
    → (alone : HoldsAlone setup stations grant) → parts ≡ alone.bundle.parts
    → IsPermutation (flat_map (rows_on stations grant.label) parts) rows → IsSorted row_cmp rows
    → IsAppText setup grant (app_line setup grant ++ flat_map row_text rows
    ++ flat_map (line_on stations grant.label) parts)
unfolding app_text app_line
app_text_of setup stations grant parts rows alone is merged ordered =
    let app = alone_at setup.world.platform alone.bundle grant.start (stop_slot setup.budget grant) in
    let P : List TraceRow → Type 0 = λ kept. IsPermutation kept rows in
    let lines : flat_map (line_on stations grant.label) parts ≡ flat_map part_text (map part_trace app.parts) =
    ap (flat_map (line_on stations grant.label)) is ∙ lines_of stations grant.label alone.bundle.parts
    ∙ ap (flat_map part_text) alone.parts in
    record {
      trace = record { rows = rows; parts = map part_trace app.parts };
      is_trace = record {
        bundle = alone.bundle;
        is_bundle = alone.is_bundle;
        is_trace = record {
          rows = subst P (ap (flat_map (rows_on stations grant.label)) is ∙ alone.rows) merged;
          in_order = ordered;
          parts = refl;
        };
      };
      is_text = ap (λ t. app_line setup grant ++ flat_map row_text rows ++ t) lines
          ∙ append_assoc (app_line setup grant) (flat_map row_text rows)
          (flat_map part_text (map part_trace app.parts));
    }

-- the text of one grant
pub one_app : (setup : Setup) (given : Option Grant) (grant : Grant) (text : List ℕ) → given ≡ Some grant
    → IsAppText setup grant text → AreAppTexts setup (option_to_list given) (text ∷ [])
one_app setup given grant text is app =
    let P : Option Grant → Type 0 = λ g. AreAppTexts setup (option_to_list g) (text ∷ []) in
    subst P (sym is) (app, tt)

pub apps_append : (setup : Setup) (grants more : List Grant) (texts others : List (List ℕ))
    → AreAppTexts setup grants texts → AreAppTexts setup more others
    → AreAppTexts setup (grants ++ more) (texts ++ others)
apps_append setup [] more [] others are next = next
apps_append setup [] more (text ∷ texts) others are next = absurd are
apps_append setup (grant ∷ grants) more [] others are next = absurd are
apps_append setup (grant ∷ grants) more (text ∷ texts) others are next =
    (are.0, apps_append setup grants more texts others are.1 next)

pub concat-append : (xs ys : List (List ℕ)) → concat (xs ++ ys) ≡ concat xs ++ concat ys
concat-append [] ys = refl
concat-append (x ∷ xs) ys = ap (λ t. x ++ t) (concat-append xs ys) ∙ sym (append_assoc x (concat xs) (concat ys))

given_first : {Y : Type 0} (P : Y → Type 0) (given : Option Y) (ys : List Y) → All P (cons_option given ys)
    → IfSome given P × All P ys
given_first P (Some y) ys all = (All-head P y ys all, All-tail P y ys all)
given_first P None ys all = (tt, all)

given_at : {X Y : Type 0} (P : Y → Type 0) (h : X → Option Y) (xs : List X) (i : ℕ) (d : X) → i < length xs
    → All P (filter_map h xs) → IfSome (h (get_or xs i d)) P
given_at P h [] i d inside all = absurd (omega arith)
given_at P h (x ∷ xs) zero d inside all = (given_first P (h x) (filter_map h xs) all).0
given_at P h (x ∷ xs) (suc i) d inside all =
    given_at P h xs i d (omega arith) (given_first P (h x) (filter_map h xs) all).1

given_one : {Y : Type 0} (given : Option Y) → cons_option given [] ≡ option_to_list given
given_one (Some y) = refl
given_one None = refl

-- what is true of all grants of a history is true of the one that an entry gives
pub granted_at : (P : Grant → Type 0) (setup : Setup) (history : List Entry) (i : ℕ) (d : Entry) → i < length history
    → All P (grants_of setup history) → IfSome (grant_by setup history (get_or history i d).reply) P
unfolding grants_of
granted_at P setup history i d inside all =
    given_at P (λ entry. grant_by setup history entry.reply) history i d inside all

-- the grants of one entry more
pub grants_in_more : (setup : Setup) (history entries : List Entry) (i : ℕ) (d : Entry) → i < length entries
    → grants_in setup history (take (i + 1) entries) ≡ grants_in setup history (take i entries)
    ++ option_to_list (grant_by setup history (get_or entries i d).reply)
unfolding grants_in
grants_in_more setup history entries i d inside =
    let h : Entry → Option Grant = λ entry. grant_by setup history entry.reply in
    ap (filter_map h) (take_more entries i d inside) ∙ filter_map-append h (take i entries) (get_or entries i d ∷ [])
    ∙ ap (λ t. filter_map h (take i entries) ++ t) (given_one (h (get_or entries i d)))

-- the texts of the grants of one entry more
pub apps_more : (setup : Setup) (history : List Entry) (i : ℕ) (d : Entry) (texts others : List (List ℕ))
    → i < length history → AreAppTexts setup (grants_in setup history (take i history)) texts
    → AreAppTexts setup (option_to_list (grant_by setup history (get_or history i d).reply)) others
    → AreAppTexts setup (grants_in setup history (take (i + 1) history)) (texts ++ others)
apps_more setup history i d texts others inside are next =
    rw (grants_in_more setup history history i d inside) (apps_append setup _ _ texts others are next)

-- before the first entry no grant was given
pub apps_none : (setup : Setup) (history : List Entry) → AreAppTexts setup (grants_in setup history []) []
unfolding grants_in
apps_none setup history = tt

-- at the end all were
pub apps_all : (setup : Setup) (history : List Entry) (i : ℕ) (texts : List (List ℕ)) → length history ≤ i
    → AreAppTexts setup (grants_in setup history (take i history)) texts
    → AreAppTexts setup (grants_of setup history) texts
unfolding grants_in grants_of
apps_all setup history i texts past are =
    let P : List Entry → Type 0 = λ entries. AreAppTexts setup (grants_in setup history entries) texts in
    subst P (take_all i history past) are
