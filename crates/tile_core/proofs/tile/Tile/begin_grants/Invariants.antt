use Rattle.std.proofs.Common.{◌≡◌, filter, fold, take}
use Rattle.tile_core.specs.Slot.{begins_in, after_start}
use Rattle.tile_core.proofs.tile.Tile.begin_grants.Given as goal

abbrev pub invariant-loop-grant : goal.invariant-loop-grant
invariant-loop-grant l =
    l.self ≡ fold (after_start l.world) l.fn.self (filter (begins_in l.fn.self.at) (take l.grant-index l.schedule.grants.items))
