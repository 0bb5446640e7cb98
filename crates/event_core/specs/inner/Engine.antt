-- What a core knows of what it holds.
use Rattle.std.specs.Prelude.{◌≡◌, ℕ, ◌≤◌, List, length, All}
use Rattle.soc_base.specs.Port.{WordAndCredits}
use Rattle.bundle_model.specs.declared.world.Grant.{Grant}
use Rattle.tile_core.specs.Tile.{TileState}
use Rattle.tile_core.specs.Fit.{IsFit, IsMadeFor}
use Rattle.vep_manager.specs.declared.setup.Setup.{Setup}
use Rattle.vep_manager.specs.Setup.{IsSound}
use Rattle.vep_manager.specs.History.{grants_of, horizon_of}
use Rattle.core_model.specs.Core.{CoreState}
use Rattle.core_model.specs.Order.{IsInOrder}
use Rattle.event_core.specs.Core.{hardware_of}

-- The setup is sound, the core is in order, its schedule is that of its history, with room for every load,
-- and every tile is made for the setup and fit.
pub record IsEngaged (setup : Setup) (core : CoreState TileState WordAndCredits) (grants : List Grant)
    (horizon room : ℕ) : Type 0 where
  pub sound : IsSound setup
  pub order : IsInOrder TileState WordAndCredits (hardware_of setup) setup core
  pub grants_known : grants ≡ grants_of setup core.history
  pub horizon_known : horizon ≡ horizon_of setup core.history
  pub made : All (IsMadeFor setup.world setup.loads) core.tiles
  pub fits : All (IsFit setup.world (grants_of setup core.history)) core.tiles
  pub enough : length setup.loads ≤ room
