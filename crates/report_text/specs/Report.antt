-- The report of a run.
use Rattle.std.specs.Prelude.{◌≡◌, ℕ, ◌*◌, Bool, List, [], ◌∷◌, ◌++◌, codes, decimal, if◌then◌else◌, slice_get, Some}
use Rattle.std.specs.List.{concat, flat_map}
use Rattle.std.specs.Option.{option_map_or}
use Rattle.bundle_model.specs.declared.bundle.Bundle.{Bundle}
use Rattle.bundle_model.specs.declared.world.World.{World}
use Rattle.bundle_model.specs.declared.world.Grant.{Grant}
use Rattle.bundle_model.specs.Grants.{bundle_at}
use Rattle.alone_model.specs.declared.trace.AppTrace.{AppTrace}
use Rattle.alone_model.specs.App.{alone_at}
use Rattle.alone_model.specs.Trace.{IsTraceOf}
use Rattle.platform_model.specs.declared.platform.Platform.{Platform}
use Rattle.tile_core.specs.Tile.{TileState}
use Rattle.tile_core.specs.Lockstep.{tiles_at}
use Rattle.vep_manager.specs.declared.setup.Setup.{Setup}
use Rattle.vep_manager.specs.declared.reply.Entry.{Entry}
use Rattle.vep_manager.specs.History.{grants_of}
use Rattle.event_core.specs.Stands.{stop_slot}
use Rattle.report_text.specs.Rows.{line_end}
use Rattle.report_text.specs.Alone.{from_to_text, trace_text, end_line}
use Rattle.report_text.specs.Commands.{label_text, entry_text}
use Rattle.report_text.specs.State.{platform_line, state_text}

-- the name of the bundle file at a place of the catalog
abbrev pub name_at : World → ℕ → List ℕ
name_at world place = option_map_or (λ named. named.name) (slice_get world.catalog place) []

-- an application in a run: its load, its bundle file, where it was followed, as in
-- `app 1.1 a.toml from 8 to 384`, its rows and its parts
unfoldable pub app_text : Setup → Grant → AppTrace → List ℕ
app_text setup grant trace =
    let cycles = setup.world.platform.slot_cycles in
    (codes "app " ++ label_text grant.label ++ codes " " ++ name_at setup.world grant.bundle
    ++ from_to_text (grant.start * cycles) (stop_slot setup.budget grant * cycles))
    ++ trace_text trace

-- the trace of a grant's application: that of its bundle alone on the empty platform, from its granted start
-- to its end or the end of the run
pub record IsAppTrace (setup : Setup) (grant : Grant) (trace : AppTrace) : Type 0 where
  pub bundle : Bundle
  pub is_bundle : bundle_at setup.world grant.bundle ≡ Some bundle
  pub is_trace : IsTraceOf (alone_at setup.world.platform bundle grant.start (stop_slot setup.budget grant)) trace

-- the text of a grant's application, with its trace
pub record IsAppText (setup : Setup) (grant : Grant) (text : List ℕ) : Type 0 where
  pub trace : AppTrace
  pub is_trace : IsAppTrace setup grant trace
  pub is_text : text ≡ app_text setup grant trace

-- the texts of the grants' applications, one for each
abbrev pub AreAppTexts : Setup → List Grant → List (List ℕ) → Type 0
AreAppTexts setup [] [] = Unit {0}
AreAppTexts setup (grant ∷ grants) (text ∷ texts) = IsAppText setup grant text × AreAppTexts setup grants texts
AreAppTexts setup [] (text ∷ texts) = ⊥
AreAppTexts setup (grant ∷ grants) [] = ⊥

-- the first line: the form of the report
abbrev pub form_line : List ℕ
form_line = codes "compsoc report 1" ++ line_end

-- the second line: the budget in cycles, as in `budget 384`
abbrev pub budget_line : Setup → List ℕ
budget_line setup = codes "budget " ++ decimal (setup.budget * setup.world.platform.slot_cycles) ++ line_end

-- the tiles at the end of a run, all in step, by the grants of its history
abbrev pub last_tiles : Setup → List Entry → List TileState
last_tiles setup history = tiles_at setup.world setup.loads (grants_of setup history) setup.budget

-- the state of the tiles, where it is asked for
abbrev pub state_if : Bool → Platform → List TileState → List ℕ
state_if state platform tiles = if state then state_text platform tiles else []

-- the report with these texts of applications and these tiles
unfoldable pub report_text : Setup → List Entry → Bool → List (List ℕ) → List TileState → List ℕ
report_text setup history state apps tiles =
    (form_line ++ budget_line setup) ++ flat_map (entry_text setup) history ++ concat apps
    ++ platform_line tiles ++ state_if state setup.world.platform tiles ++ end_line

-- The report of a history: each entry with its command and its reply; then each granted application with the
-- trace that it has alone; then the sum over the tiles at the end of the run and, where it is asked for, their
-- state.
pub record IsReport (setup : Setup) (history : List Entry) (state : Bool) (text : List ℕ) : Type 0 where
  pub apps : List (List ℕ)
  pub are_apps : AreAppTexts setup (grants_of setup history) apps
  pub is_text : text ≡ report_text setup history state apps (last_tiles setup history)
