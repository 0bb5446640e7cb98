-- Tiles that have run by themselves: they can go on, and what they did stays where grants go on.
use Rattle.std.proofs.Common.{◌≡◌, ℕ, zero, suc, ◌+◌, ◌*◌, ◌<◌, ◌≤◌, List, get_or, sym, subst, ap, ◌∙◌, arith}
use Rattle.soc_base.specs.Port.{WordAndCredits}
use Rattle.soc_base.specs.declared.limits.TheConstants.{LAST_CYCLE}
use Rattle.platform_model.specs.declared.link.Link.{Link}
use Rattle.bundle_model.specs.declared.world.World.{World}
use Rattle.bundle_model.specs.declared.world.LoadName.{LoadName}
use Rattle.bundle_model.specs.declared.world.Grant.{Grant}
use Rattle.bundle_model.specs.declared.world.Schedule.{Schedule}
use Rattle.bundle_model.specs.Grants.{IsApart}
use Rattle.bundle_model.specs.World.{IsSoundWorld, AreOfLoads}
use Rattle.lockstep.specs.Lockstep.{inputs_of, tile_run, run_puts}
use Rattle.lockstep.specs.Seen.{grants_seen, AreSeenAlike}
use Rattle.lockstep.proofs.Laws.{run_none, run_more, run_at, run_stays, made_same}
use Rattle.tile_core.specs.Tile.{TileState, fresh_tile}
use Rattle.tile_core.specs.Slot.{tile_slot, slot_outputs}
use Rattle.tile_core.specs.Fit.{IsMadeFor, IsFit, IsUnderway}
use Rattle.tile_core.specs.Lockstep.{tile_hardware}
use Rattle.tile_core.specs.Station.{StationState, came, HasRun}
use Rattle.tile_core.proofs.Fresh.{fresh_begins}
use Rattle.tile_core.proofs.Slots.{slot_goes_on}
use Rattle.tile_core.proofs.Paced.{tiles_are_paced}

-- a tile is of its world and loads, and fit
record IsSettled (world : World) (loads : List LoadName) (grants : List Grant) (tile : TileState) : Type 0 where
  made : IsMadeFor world loads tile
  fits : IsFit world grants tile

module _ (world : World) (loads : List LoadName) (grants : List Grant) (sound : IsSoundWorld world loads)
    (apart : IsApart world grants) (of_loads : AreOfLoads loads grants) (flits : Link → ℕ → WordAndCredits)
    (number : ℕ) (exists : number < world.platform.tiles) where
  abbrev links : List Link
  links = world.platform.links

  abbrev run : ℕ → TileState
  run slot = tile_run (tile_hardware world loads) links grants flits number slot

  -- one tile by itself is settled at every slot
  settled_run : (slot : ℕ) → IsSettled world loads grants (run slot)
  settled_run zero =
      let begins = fresh_begins world loads grants number exists in
      let first : IsSettled world loads grants (fresh_tile world loads number) =
      record { made = begins.made; fits = begins.fits } in
      subst (IsSettled world loads grants) (sym (run_none (tile_hardware world loads) links grants flits number)) first
  settled_run (suc slot) =
      let one : suc slot ≡ slot + 1 = omega arith in
      let before = settled_run slot in
      let inputs = inputs_of (tile_hardware world loads).idle links (λ link. flits link slot) number in
      let on = slot_goes_on world loads grants inputs (run slot) sound apart of_loads before.made before.fits in
      let next : IsSettled world loads grants (tile_slot world grants inputs (run slot)) =
      record { made = on.made; fits = on.fits } in
      subst (IsSettled world loads grants)
      (sym (ap run one ∙ run_more (tile_hardware world loads) links grants flits number slot)) next

-- a station that has run by itself can go on by a schedule of the same grants
pub run_underway : (world : World) (loads : List LoadName) (schedule : Schedule) (station : StationState)
    → IsSoundWorld world loads → IsApart world schedule.grants.items → AreOfLoads loads schedule.grants.items
    → schedule.horizon * world.platform.slot_cycles ≤ LAST_CYCLE
    → HasRun world loads schedule.grants.items station → IsUnderway world schedule station.tile
run_underway world loads schedule station sound apart of_loads bounded has =
    let grants = schedule.grants.items in
    let settled : IsSettled world loads grants station.tile =
    subst (IsSettled world loads grants) (sym has.tile)
    (settled_run world loads grants sound apart of_loads (came station.ins) station.tile.number has.exists
    station.tile.at) in
    record {
      loads = loads;
      sound = sound;
      made = settled.made;
      apart = apart;
      of_loads = of_loads;
      fits = settled.fits;
      bounded = bounded;
    }

-- what one tile by itself puts on a link in a slot stays, where the grants are known alike in it
puts_stay : (world : World) (loads : List LoadName) (old new : List Grant) (horizon : ℕ)
    (flits : Link → ℕ → WordAndCredits) (link : Link) (slot : ℕ) → AreSeenAlike horizon old new → slot < horizon
    → run_puts (tile_hardware world loads) world.platform.links old flits link slot
    ≡ run_puts (tile_hardware world loads) world.platform.links new flits link slot
puts_stay world loads old new horizon flits link slot alike low =
    let hardware = tile_hardware world loads in
    let links = world.platform.links in
    let paced = tiles_are_paced world loads in
    let inputs = inputs_of hardware.idle links (λ other. flits other slot) link.from in
    let tile = tile_run hardware links old flits link.from slot in
    let same = run_stays hardware links old new flits horizon link.from slot paced alike (omega arith) in
    let at : tile.at ≡ slot = run_at hardware paced links old flits link.from slot in
    let Seen = λ (n : ℕ). grants_seen n old ≡ grants_seen n new in
    let seen : grants_seen tile.at old ≡ grants_seen tile.at new = subst Seen (sym at) (alike slot low) in
    ap (λ (outputs : List WordAndCredits). get_or outputs link.out hardware.idle)
    (paced.same_puts old new inputs tile seen)
    ∙ ap (λ (t : TileState). get_or (slot_outputs world new inputs t) link.out hardware.idle) same

-- a station that has run by itself, up to a slot from which the grants may go on in another way, has run so by
-- either of them
pub has_run_stays : (world : World) (loads : List LoadName) (old new : List Grant) (horizon : ℕ)
    (station : StationState) → AreSeenAlike horizon old new → station.tile.at ≤ horizon
    → HasRun world loads old station → HasRun world loads new station
has_run_stays world loads old new horizon station alike low has =
    let hardware = tile_hardware world loads in
    let links = world.platform.links in
    let paced = tiles_are_paced world loads in
    let flits = came station.ins in
    record {
      exists = has.exists;
      wired = has.wired;
      tile = has.tile
          ∙ run_stays hardware links old new flits horizon station.tile.number station.tile.at paced alike low;
      taken = has.taken;
      set = λ link inside leaves. has.set link inside leaves
          ∙ made_same (run_puts hardware links old flits link) (run_puts hardware links new flits link) 0
          station.tile.at
          (λ slot below. puts_stay world loads old new horizon flits link slot alike (omega arith));
    }
