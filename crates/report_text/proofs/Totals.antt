-- What is counted by the logs on the tiles is what the traces of the applications tell.
use Rattle.std.proofs.Common.{◌≡◌, ℕ, ◌+◌, List, [], ◌∷◌, ◌++◌, codes, length, map, sum_by, Option, Some, None, All, refl, sym, ap, ap₂, subst, ◌∙◌, arith}
use Rattle.std.specs.List.{flat_map}
use Rattle.std.specs.List.Sorted.{IsPermutation}
use Rattle.std.specs.Option.{option_map_or}
use Rattle.std.proofs.lemmas.List.Concat.{length-flat_map}
use Rattle.std.proofs.lemmas.List.Elements.{All-head, All-tail}
use Rattle.std.proofs.lemmas.List.Sorted.{length_permutation}
use Rattle.std.proofs.lemmas.List.Sums.{sum_by-append, sum_by-cons}
use Rattle.soc_base.specs.declared.label.Label.{Label}
use Rattle.trace_log.specs.declared.row.TraceRow.{TraceRow}
use Rattle.trace_log.specs.Log.{Log}
use Rattle.bundle_model.specs.declared.bundle.Part.{Part}
use Rattle.bundle_model.specs.declared.bundle.Bundle.{Bundle}
use Rattle.bundle_model.specs.declared.world.Grant.{Grant}
use Rattle.alone_model.specs.declared.trace.AppTrace.{AppTrace}
use Rattle.alone_model.specs.declared.trace.PartTrace.{PartTrace}
use Rattle.alone_model.specs.App.{alone_at}
use Rattle.alone_model.specs.Trace.{part_trace}
use Rattle.tile_core.specs.declared.station.Station.{Station}
use Rattle.vep_manager.specs.declared.setup.Setup.{Setup}
use Rattle.event_core.specs.Stands.{stop_slot}
use Rattle.report_text.specs.Report.{IsAppTrace}
use Rattle.report_text.specs.Summary.{rows_line, parts_line, all_parts, AreAppTraces}
use Rattle.report_text.specs.inner.Logs.{log_on, rows_on, traces_on, HoldsAlone}
use Rattle.report_text.specs.inner.Counts.{ended, part_count, app_count}
use Rattle.report_text.specs.inner.Totals.{rows_text, parts_text, totals_text}
use Rattle.report_text.specs.declared.counts.Counted.{Counted}
use Rattle.report_text.specs.declared.counts.Counted.TheVariants.{Rows, Cut, Halts, Faults, Lives}
use Rattle.report_text.proofs.Ordered.{rows_in_order}

-- what a trace counts for
abbrev trace_count : Counted → AppTrace → ℕ
trace_count Rows trace = length trace.rows
trace_count Cut trace = sum_by (λ part. part.cut) trace.parts
trace_count Halts trace = sum_by (λ part. ended part.end (codes "halt")) trace.parts
trace_count Faults trace = sum_by (λ part. ended part.end (codes "fault")) trace.parts
trace_count Lives trace = sum_by (λ part. ended part.end (codes "live")) trace.parts

-- the rows of a part's log
length_of : (o : Option Log)
    → length (option_map_or (λ log. log.rows) o []) ≡ option_map_or (λ log. length log.rows) o 0
length_of (Some log) = refl
length_of None = refl

rows_counted : (stations : List Station) (label : Label) (parts : List Part)
    → length (flat_map (rows_on stations label) parts) ≡ sum_by (part_count Rows stations label) parts
rows_counted stations label [] = refl
rows_counted stations label (part ∷ parts) =
    length-flat_map (rows_on stations label) (part ∷ parts)
    ∙ sum_by-cons (λ p. length (rows_on stations label p)) part parts
    ∙ ap₂ (λ (m n : ℕ). m + n) (length_of (log_on stations label part))
    (sym (length-flat_map (rows_on stations label) parts) ∙ rows_counted stations label parts)
    ∙ sym (sum_by-cons (part_count Rows stations label) part parts)

-- what is measured of the traces of parts is what is counted of their logs
one_measured : (measure : PartTrace → ℕ) (count : Log → ℕ)
    → ((number : ℕ) (log : Log) → measure (record { tile = number; end = log.end; cut = log.cut }) ≡ count log)
    → (o : Option Log) (number : ℕ)
    → sum_by measure (option_map_or (λ log. record { tile = number; end = log.end; cut = log.cut } ∷ []) o [])
    ≡ option_map_or count o 0
one_measured measure count same (Some log) number =
    let one = same number log in
    omega (
      arith,
      one,
      sum_by-cons measure (record { tile = number; end = log.end; cut = log.cut }) [],
    )
one_measured measure count same None number = refl

measured : (measure : PartTrace → ℕ) (count : Log → ℕ)
    → ((number : ℕ) (log : Log) → measure (record { tile = number; end = log.end; cut = log.cut }) ≡ count log)
    → (stations : List Station) (label : Label) (parts : List Part)
    → sum_by measure (flat_map (traces_on stations label) parts)
    ≡ sum_by (λ part. option_map_or count (log_on stations label part) 0) parts
measured measure count same stations label [] = refl
measured measure count same stations label (part ∷ parts) =
    sum_by-append measure (traces_on stations label part) (flat_map (traces_on stations label) parts)
    ∙ ap₂ (λ (m n : ℕ). m + n) (one_measured measure count same (log_on stations label part) part.tile)
    (measured measure count same stations label parts)
    ∙ sym (sum_by-cons (λ p. option_map_or count (log_on stations label p) 0) part parts)

-- what the parts of an application have alone counts for what their logs on the tiles do
measured_alone : (measure : PartTrace → ℕ) (count : Log → ℕ)
    → ((number : ℕ) (log : Log) → measure (record { tile = number; end = log.end; cut = log.cut }) ≡ count log)
    → (setup : Setup) (stations : List Station) (grant : Grant) (alone : HoldsAlone setup stations grant)
    → sum_by measure (map part_trace
    (alone_at setup.world.platform alone.bundle grant.start (stop_slot setup.budget grant)).parts)
    ≡ sum_by (λ part. option_map_or count (log_on stations grant.label part) 0) alone.bundle.parts
measured_alone measure count same setup stations grant alone =
    ap (sum_by measure) (sym alone.parts) ∙ measured measure count same stations grant.label alone.bundle.parts

counted_alone : (setup : Setup) (stations : List Station) (grant : Grant) (alone : HoldsAlone setup stations grant)
    (kept : List TraceRow) → length kept ≡ length (flat_map (rows_on stations grant.label) alone.bundle.parts)
    → (counted : Counted) → trace_count counted (record {
      rows = kept;
      parts = map part_trace
          (alone_at setup.world.platform alone.bundle grant.start (stop_slot setup.budget grant)).parts;
    }) ≡ sum_by (part_count counted stations grant.label) alone.bundle.parts
counted_alone setup stations grant alone kept as_many Rows =
    as_many ∙ rows_counted stations grant.label alone.bundle.parts
counted_alone setup stations grant alone kept as_many Cut =
    measured_alone (λ part. part.cut) (λ log. log.cut) (λ number log. refl) setup stations grant alone
counted_alone setup stations grant alone kept as_many Halts =
    measured_alone (λ part. ended part.end (codes "halt")) (λ log. ended log.end (codes "halt")) (λ number log. refl)
    setup stations grant alone
counted_alone setup stations grant alone kept as_many Faults =
    measured_alone (λ part. ended part.end (codes "fault")) (λ log. ended log.end (codes "fault"))
    (λ number log. refl) setup stations grant alone
counted_alone setup stations grant alone kept as_many Lives =
    measured_alone (λ part. ended part.end (codes "live")) (λ log. ended log.end (codes "live")) (λ number log. refl)
    setup stations grant alone

-- the trace of an application, and what it counts for
record IsTraced (setup : Setup) (stations : List Station) (grant : Grant) : Type 0 where
  trace : AppTrace
  is_trace : IsAppTrace setup grant trace
  counts : (counted : Counted) → trace_count counted trace ≡ app_count counted setup stations grant

traced : (setup : Setup) (stations : List Station) (grant : Grant) → HoldsAlone setup stations grant
    → IsTraced setup stations grant
traced setup stations grant alone =
    let rows = flat_map (rows_on stations grant.label) alone.bundle.parts in
    let (kept, moved, ordered) = rows_in_order rows in
    let P : List TraceRow → Type 0 = λ before. IsPermutation before kept in
    record {
      trace = record {
        rows = kept;
        parts = map part_trace
            (alone_at setup.world.platform alone.bundle grant.start (stop_slot setup.budget grant)).parts;
      };
      is_trace = record {
        bundle = alone.bundle;
        is_bundle = alone.is_bundle;
        is_trace = record { rows = subst P alone.rows moved; in_order = ordered; parts = refl };
      };
      counts = λ counted. counted_alone setup stations grant alone kept (length_permutation rows kept moved) counted
          ∙ ap (λ (o : Option Bundle). option_map_or
          (λ bundle. sum_by (part_count counted stations grant.label) bundle.parts) o 0) (sym alone.is_bundle);
    }

-- the traces of applications, and what they count for
record AreTraced (setup : Setup) (stations : List Station) (grants : List Grant) : Type 0 where
  traces : List AppTrace
  are_traces : AreAppTraces setup grants traces
  counts : (counted : Counted) → sum_by (trace_count counted) traces ≡ sum_by (app_count counted setup stations) grants

traced_all : (setup : Setup) (stations : List Station) (grants : List Grant)
    → All (HoldsAlone setup stations) grants → AreTraced setup stations grants
traced_all setup stations [] all = record { traces = []; are_traces = tt; counts = λ counted. refl }
traced_all setup stations (grant ∷ grants) all =
    let one = traced setup stations grant (All-head (HoldsAlone setup stations) grant grants all) in
    let rest = traced_all setup stations grants (All-tail (HoldsAlone setup stations) grant grants all) in
    record {
      traces = one.trace ∷ rest.traces;
      are_traces = (one.is_trace, rest.are_traces);
      counts = λ counted. sum_by-cons (trace_count counted) one.trace rest.traces
          ∙ ap₂ (λ (m n : ℕ). m + n) (one.counts counted) (rest.counts counted)
          ∙ sym (sum_by-cons (app_count counted setup stations) grant grants);
    }

-- what the parts of all applications count for, application by application
parts_summed : (measure : PartTrace → ℕ) (traces : List AppTrace)
    → sum_by measure (all_parts traces) ≡ sum_by (λ trace. sum_by measure trace.parts) traces
parts_summed measure [] = refl
parts_summed measure (trace ∷ traces) =
    sum_by-append measure trace.parts (all_parts traces)
    ∙ ap (λ n. sum_by measure trace.parts + n) (parts_summed measure traces)
    ∙ sym (sum_by-cons (λ t. sum_by measure t.parts) trace traces)

parts_same : (h i f e l m : ℕ) → h ≡ i → f ≡ e → l ≡ m → parts_text h f l ≡ parts_text i e m
parts_same h i f e l m halts faults lives =
    ap (λ n. parts_text n f l) halts ∙ ap (λ n. parts_text i n l) faults ∙ ap (λ n. parts_text i e n) lives

-- the traces that applications have alone, and the lines that count over them
pub record HaveTotals (setup : Setup) (stations : List Station) (grants : List Grant) : Type 0 where
  pub traces : List AppTrace
  pub are_traces : AreAppTraces setup grants traces
  pub lines : rows_line traces ++ parts_line traces ≡ totals_text setup stations grants

pub have_totals : (setup : Setup) (stations : List Station) (grants : List Grant)
    → All (HoldsAlone setup stations) grants → HaveTotals setup stations grants
unfolding rows_line parts_line rows_text parts_text
have_totals setup stations grants all =
    let t = traced_all setup stations grants all in
    let rows = t.counts Rows in
    let cut = parts_summed (λ part. part.cut) t.traces ∙ t.counts Cut in
    let halts = parts_summed (λ part. ended part.end (codes "halt")) t.traces ∙ t.counts Halts in
    let faults = parts_summed (λ part. ended part.end (codes "fault")) t.traces ∙ t.counts Faults in
    let lives = parts_summed (λ part. ended part.end (codes "live")) t.traces ∙ t.counts Lives in
    record {
      traces = t.traces;
      are_traces = t.are_traces;
      lines = ap₂ (λ (a b : List ℕ). a ++ b) (ap₂ rows_text rows cut)
          (parts_same _ _ _ _ _ _ halts faults lives);
    }
