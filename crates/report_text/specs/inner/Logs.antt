-- What the tiles hold of the parts of an application, and when that is what it has alone.
use Rattle.std.specs.Prelude.{◌≡◌, ℕ, ◌≤◌, ◌*◌, List, [], ◌∷◌, ◌++◌, codes, length, map, slice_get, Option, Some}
use Rattle.std.specs.List.{flat_map, filter_map}
use Rattle.std.specs.Option.{option_map_or, option_and_then}
use Rattle.soc_base.specs.declared.label.Label.{Label}
use Rattle.trace_log.specs.declared.row.TraceRow.{TraceRow}
use Rattle.trace_log.specs.Log.{Log}
use Rattle.bundle_model.specs.declared.bundle.Part.{Part}
use Rattle.bundle_model.specs.declared.bundle.Bundle.{Bundle}
use Rattle.bundle_model.specs.declared.world.World.{World}
use Rattle.bundle_model.specs.declared.world.Grant.{Grant}
use Rattle.bundle_model.specs.Grants.{bundle_at}
use Rattle.alone_model.specs.declared.trace.PartTrace.{PartTrace}
use Rattle.alone_model.specs.App.{alone_at}
use Rattle.alone_model.specs.Trace.{kept_rows, part_trace}
use Rattle.tile_core.specs.declared.station.Station.{Station}
use Rattle.tile_core.specs.Tile.{log_of}
use Rattle.vep_manager.specs.declared.setup.Setup.{Setup}
use Rattle.vep_manager.specs.declared.reply.Entry.{Entry}
use Rattle.vep_manager.specs.History.{grant_by}
use Rattle.event_core.specs.Stands.{stop_slot}
use Rattle.report_text.specs.Rows.{row_text, part_text}
use Rattle.report_text.specs.Alone.{from_to_text}
use Rattle.report_text.specs.Commands.{label_text}
use Rattle.report_text.specs.Report.{name_at}
use Rattle.report_text.specs.inner.Room.{most_rows}

-- the log of a load on the tile of a part, if there is one
abbrev pub log_on : List Station → Label → Part → Option Log
log_on stations label part = option_and_then (λ station. log_of station.tile label) (slice_get stations part.tile)

-- the rows of that log
abbrev pub rows_on : List Station → Label → Part → List TraceRow
rows_on stations label part = option_map_or (λ log. log.rows) (log_on stations label part) []

-- the line of a part with that log
abbrev pub line_on : List Station → Label → Part → List ℕ
line_on stations label part =
    option_map_or (λ log. part_text (record { tile = part.tile; end = log.end; cut = log.cut }))
    (log_on stations label part) []

-- the trace of a part with that log
abbrev pub traces_on : List Station → Label → Part → List PartTrace
traces_on stations label part =
    option_map_or (λ log. record { tile = part.tile; end = log.end; cut = log.cut } ∷ []) (log_on stations label part) []

-- the grants that some entries of a history give
unfoldable pub grants_in : Setup → List Entry → List Entry → List Grant
grants_in setup history entries = filter_map (λ entry. grant_by setup history entry.reply) entries

-- the first line of an application in a run
unfoldable pub app_line : Setup → Grant → List ℕ
app_line setup grant =
    codes "app " ++ label_text grant.label ++ codes " " ++ name_at setup.world grant.bundle
    ++ from_to_text (grant.start * setup.world.platform.slot_cycles)
    (stop_slot setup.budget grant * setup.world.platform.slot_cycles)

-- the first line of an application, these rows, and the lines of parts with the logs of its load
abbrev pub parts_text : Setup → List Station → Grant → List Part → List TraceRow → List ℕ
parts_text setup stations grant parts rows =
    app_line setup grant ++ flat_map row_text rows ++ flat_map (line_on stations grant.label) parts

-- the parts are those of a grant's bundle, if there is one and it breaks no rule
abbrev pub ArePartsOf : World → Grant → List Part → Type 0
ArePartsOf world grant parts = (bundle : Bundle) → bundle_at world grant.bundle ≡ Some bundle → parts ≡ bundle.parts

-- the tiles hold of a grant's application what it has alone, there is room for its rows, and it has a part at
-- most on each tile
pub record HoldsAlone (setup : Setup) (stations : List Station) (grant : Grant) : Type 0 where
  pub bundle : Bundle
  pub is_bundle : bundle_at setup.world grant.bundle ≡ Some bundle
  pub fits : length (flat_map (rows_on stations grant.label) bundle.parts) ≤ most_rows setup.world
  pub few : length bundle.parts ≤ 32
  pub rows : flat_map (rows_on stations grant.label) bundle.parts
      ≡ kept_rows (alone_at setup.world.platform bundle grant.start (stop_slot setup.budget grant))
  pub parts : flat_map (traces_on stations grant.label) bundle.parts
      ≡ map part_trace (alone_at setup.world.platform bundle grant.start (stop_slot setup.budget grant)).parts
