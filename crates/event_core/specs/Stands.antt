-- How a granted application stands on a tile, and the laws that it always does so.
use Rattle.std.specs.Prelude.{◌≡◌, ℕ, ◌<◌, ◌≤◌, ◌⊎◌, ◌==◌, min, max, List, find, option_map, Option, Some, None, All, IsTrue}
use Rattle.std.specs.Option.{option_and_then, option_map_or}
use Rattle.bundle_model.specs.declared.world.World.{World}
use Rattle.bundle_model.specs.declared.world.LoadName.{LoadName}
use Rattle.bundle_model.specs.declared.world.Grant.{Grant}
use Rattle.bundle_model.specs.Grants.{IsApart, bundle_at, lasts_to}
use Rattle.bundle_model.specs.World.{IsSoundWorld, AreOfLoads, part_on}
use Rattle.trace_log.specs.Log.{Log, new_log}
use Rattle.part_model.specs.Part.{PartState}
use Rattle.alone_model.specs.App.{AppState, alone_at}
use Rattle.tile_core.specs.Tile.{TileState, log_of, state_of}
use Rattle.tile_core.specs.Lockstep.{tiles_at}

-- the application of a grant, alone on the empty platform from its start up to the beginning of a slot
abbrev pub alone_app : World → Grant → ℕ → Option AppState
alone_app world grant slot = option_map (λ bundle. alone_at world.platform bundle grant.start slot) (bundle_at world grant.bundle)

-- its part on a tile
abbrev pub alone_part : World → Grant → ℕ → ℕ → Option PartState
alone_part world grant slot number =
    option_and_then (λ app. option_map (λ p. p.state) (find (λ p. p.part.tile == number) app.parts)) (alone_app world grant slot)

-- nothing of the grant is installed on the tile, and its log there is this one
pub record IsAbsent (world : World) (grant : Grant) (tile : TileState) (log : Option Log) : Type 0 where
  pub not_installed : state_of world tile grant.label ≡ None
  pub its_log : log_of tile grant.label ≡ log

-- The grant stands on a tile as it would alone. Before its first slot, and where it ends at its start,
-- nothing of it is installed and its log is empty and live. From then on, while it is open and in the
-- slots up to its end, its words (wherever they are: in the register file, in its frame, or some in each),
-- its region, its ports and its log are those of the application alone at that slot.
-- After its end nothing of it is installed, and its log is that of the application alone at its end.
pub record Stands (world : World) (grant : Grant) (tile : TileState) : Type 0 where
  pub before : (tile.at ≤ grant.start) ⊎ (grant.end ≡ Some grant.start) → IsAbsent world grant tile (option_map (λ part. new_log part.trace) (part_on world tile.number grant.bundle))
  pub during : grant.start < tile.at → IsTrue (lasts_to tile.at grant.end) → state_of world tile grant.label ≡ alone_part world grant tile.at tile.number
  pub after : (end : ℕ) → grant.end ≡ Some end → grant.start < end → end < tile.at → IsAbsent world grant tile (option_map (λ state. state.log) (alone_part world grant end tile.number))

-- Every grant stands on every tile, in every slot in which all tiles are in step.
abbrev pub GrantsStand : Type 0
GrantsStand =
    (world : World) (loads : List LoadName) (grants : List Grant) (slot : ℕ) → IsSoundWorld world loads → IsApart world grants → AreOfLoads loads grants
    → All (λ tile. All (λ grant. Stands world grant tile) grants) (tiles_at world loads grants slot)

-- the slot up to which a grant's application is followed in a run: its end or the run's, and no slot
-- before its start
abbrev pub stop_slot : ℕ → Grant → ℕ
stop_slot budget grant = max grant.start (option_map_or (λ end. min end budget) grant.end budget)

-- So at the end of a run the log of a grant on each tile is the log of its application alone, at the end
-- of the grant or of the run.
abbrev pub LogsAreAlone : Type 0
LogsAreAlone =
    (world : World) (loads : List LoadName) (grants : List Grant) (budget : ℕ) → IsSoundWorld world loads → IsApart world grants → AreOfLoads loads grants
    → All (λ tile. All (λ grant. log_of tile grant.label ≡ option_map (λ state. state.log) (alone_part world grant (stop_slot budget grant) tile.number)) grants) (tiles_at world loads grants budget)
