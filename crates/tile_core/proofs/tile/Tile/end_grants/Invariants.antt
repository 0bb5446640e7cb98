use Rattle.std.proofs.Common.{◌≡◌, filter, fold, take}
use Rattle.tile_core.specs.Slot.{ends_in, after_end}
use Rattle.tile_core.proofs.tile.Tile.end_grants.Given as goal

abbrev pub invariant-loop-grant : goal.invariant-loop-grant
invariant-loop-grant l =
    l.self ≡ fold (after_end l.world) l.fn.self (filter (ends_in l.fn.self.at) (take l.grant-index l.schedule.grants.items))
