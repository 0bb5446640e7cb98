-- What is counted over the parts of all applications, by their logs on the tiles.
use Rattle.std.specs.Prelude.{ℕ, cond, List, codes, length, sum_by}
use Rattle.std.specs.Option.{option_map_or}
use Rattle.std.specs.Str.{bytes_eq}
use Rattle.soc_base.specs.declared.label.Label.{Label}
use Rattle.trace_log.specs.declared.row.PartEnd.{PartEnd}
use Rattle.trace_log.specs.Log.{Log}
use Rattle.bundle_model.specs.declared.bundle.Part.{Part}
use Rattle.bundle_model.specs.declared.world.Grant.{Grant}
use Rattle.bundle_model.specs.Grants.{bundle_at}
use Rattle.tile_core.specs.declared.station.Station.{Station}
use Rattle.vep_manager.specs.declared.setup.Setup.{Setup}
use Rattle.report_text.specs.Summary.{end_word}
use Rattle.report_text.specs.inner.Logs.{log_on}
use Rattle.report_text.specs.declared.counts.Counted.{Counted}
use Rattle.report_text.specs.declared.counts.Counted.TheVariants.{Rows, Cut, Halts, Faults, Lives}

-- 1 where a part ended in the way of a word
abbrev pub ended : PartEnd → List ℕ → ℕ
ended end word = cond (bytes_eq (end_word end) word) 1 0

-- what a log counts for
abbrev pub log_count : Counted → Log → ℕ
log_count Rows log = length log.rows
log_count Cut log = log.cut
log_count Halts log = ended log.end (codes "halt")
log_count Faults log = ended log.end (codes "fault")
log_count Lives log = ended log.end (codes "live")

-- what a part counts for, by the log of its load
abbrev pub part_count : Counted → List Station → Label → Part → ℕ
part_count counted stations label part = option_map_or (log_count counted) (log_on stations label part) 0

-- what the application of a grant counts for
abbrev pub app_count : Counted → Setup → List Station → Grant → ℕ
app_count counted setup stations grant =
    option_map_or (λ bundle. sum_by (part_count counted stations grant.label) bundle.parts)
    (bundle_at setup.world grant.bundle) 0
