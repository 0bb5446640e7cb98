-- The lines of a summary that count over all applications, by the logs on the tiles.
use Rattle.std.specs.Prelude.{ℕ, List, ◌++◌, codes, decimal, sum_by}
use Rattle.bundle_model.specs.declared.world.Grant.{Grant}
use Rattle.tile_core.specs.declared.station.Station.{Station}
use Rattle.vep_manager.specs.declared.setup.Setup.{Setup}
use Rattle.report_text.specs.Rows.{line_end}
use Rattle.report_text.specs.inner.Counts.{app_count}
use Rattle.report_text.specs.declared.counts.Counted.{Counted}
use Rattle.report_text.specs.declared.counts.Counted.TheVariants.{Rows, Cut, Halts, Faults, Lives}

-- how many rows were kept and cut
unfoldable pub rows_text : ℕ → ℕ → List ℕ
rows_text rows cut = codes "rows " ++ decimal rows ++ codes " cut " ++ decimal cut ++ line_end

-- a word and a number
abbrev pub total_text : List ℕ → ℕ → List ℕ
total_text word total = word ++ codes " " ++ decimal total

-- how many parts ended in each way
unfoldable pub parts_text : ℕ → ℕ → ℕ → List ℕ
parts_text halts faults lives =
    codes "parts " ++ total_text (codes "halt") halts ++ codes " " ++ total_text (codes "fault") faults ++ codes " "
    ++ total_text (codes "live") lives ++ line_end

-- what the applications of grants count for
abbrev pub apps_count : Counted → Setup → List Station → List Grant → ℕ
apps_count counted setup stations grants = sum_by (app_count counted setup stations) grants

-- both lines of the applications of grants
abbrev pub totals_text : Setup → List Station → List Grant → List ℕ
totals_text setup stations grants =
    rows_text (apps_count Rows setup stations grants) (apps_count Cut setup stations grants)
    ++ parts_text (apps_count Halts setup stations grants) (apps_count Faults setup stations grants)
    (apps_count Lives setup stations grants)
