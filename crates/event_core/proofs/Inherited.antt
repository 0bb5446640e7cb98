-- What holds of all tiles in step holds of the tiles and the links of a core, each tile at its own slot.
use Rattle.std.proofs.Common.{◌≡◌, ℕ, zero, suc, ◌+◌, ◌-◌, ◌<◌, ◌==◌, List, map, get_or, slice_get, find, option_map, Option, Some, sym, ap, ap₂, subst, ◌∙◌, arith}
use Rattle.std.specs.List.{All, Contains, range_with_len}
use Rattle.std.specs.Option.{option_and_then}
use Rattle.std.proofs.lemmas.List.Elements.{All-contains}
use Rattle.std.proofs.lemmas.List.FromFn.{get_or-map-range_with_len, length-map-range_with_len}
use Rattle.std.proofs.lemmas.Option.{slice_get-map, slice_get-get_or, slice_get_within, get_or_from_slice_get}
use Rattle.soc_base.specs.Port.{WordAndCredits}
use Rattle.platform_model.specs.declared.link.Link.{Link}
use Rattle.platform_model.specs.declared.platform.Platform.{Platform}
use Rattle.bundle_model.specs.declared.bundle.Bundle.{Bundle}
use Rattle.bundle_model.specs.declared.world.World.{World}
use Rattle.bundle_model.specs.declared.world.LoadName.{LoadName}
use Rattle.bundle_model.specs.declared.world.Grant.{Grant}
use Rattle.bundle_model.specs.Grants.{IsApart, bundle_at}
use Rattle.bundle_model.specs.World.{IsSoundWorld, AreOfLoads}
use Rattle.trace_log.specs.Log.{Log}
use Rattle.alone_model.specs.App.{alone_at}
use Rattle.lockstep.specs.Lockstep.{Machine, inputs_of}
use Rattle.lockstep.proofs.Laws.{lockstep_none, lockstep_more}
use Rattle.tile_core.specs.Tile.{TileState, log_of}
use Rattle.tile_core.specs.Fit.{IsFit, IsMadeFor}
use Rattle.tile_core.specs.Law.{TilesBegin, TilesGoOn}
use Rattle.tile_core.specs.Lockstep.{tile_hardware, machine_at, tiles_at}
use Rattle.tile_core.proofs.Laws.{tiles_are_paced}
use Rattle.vep_manager.specs.declared.setup.Setup.{Setup}
use Rattle.vep_manager.specs.Setup.{IsSound}
use Rattle.vep_manager.specs.History.{grants_of}
use Rattle.vep_manager.proofs.Laws.{sound_world, legal_apart, grants_of_loads}
use Rattle.core_model.specs.Core.{Line, CoreState, Happening}
use Rattle.core_model.specs.Order.{slot_of, in_step, HoldsBetween, IsInOrder}
use Rattle.core_model.proofs.Laws.{core_in_order}
use Rattle.event_core.specs.Stands.{Stands, GrantsStand, LogsAreAlone, stop_slot}
use Rattle.event_core.specs.Links.{LinkFollows, LinksFollow}
use Rattle.event_core.specs.Core.{hardware_of}
use Rattle.event_core.specs.Worlds.{core_of, CoresAreInStep, CoresFit, CoresStand, LineFollows, CoreLinksFollow, TwoWorlds}

-- whatever events come, the core is in order
pub cores_step : (setup : Setup) → IsSound setup → CoresAreInStep setup
cores_step setup sound events = core_in_order (hardware_of setup) setup sound (tiles_are_paced setup.world setup.loads) events

-- ---- the tiles

-- what is true in every slot of all tiles in step is true of every tile of a core that is in order, at its
-- own slot
core_inherits : (setup : Setup) (core : CoreState TileState WordAndCredits) (P : ℕ → TileState → Type 0) → IsInOrder TileState WordAndCredits (hardware_of setup) setup core → ((slot : ℕ) → All (P slot) (tiles_at setup.world setup.loads (grants_of setup core.history) slot)) → All (λ tile. P tile.at tile) core.tiles
core_inherits setup core P order each = λ k d below.
    let tile = get_or core.tiles k d in
    let slot = tile.at in
    let machine : Machine TileState WordAndCredits = machine_at setup.world setup.loads (grants_of setup core.history) slot in
    let count = setup.world.platform.tiles in
    let counted = order.counted in
    let long = length-map-range_with_len machine.tile 0 count in
    let here : get_or (map machine.tile (range_with_len 0 count)) k d ≡ machine.tile k = get_or-map-range_with_len machine.tile 0 count k k d (omega arith) (omega arith) in
    let is : machine.tile k ≡ tile = sym (order.stepped k tile (slice_get-get_or core.tiles k d below)) in
    subst (λ (t : TileState). P slot t) (here ∙ is) (each slot k d (omega arith))

-- a tile is made for a world, and what is installed on it are the grants that stand at its slot
abbrev Fits : World → List LoadName → List Grant → TileState → Type 0
Fits world loads grants tile = IsMadeFor world loads tile × IsFit world grants tile

-- so are all tiles in step
machine_fits : TilesBegin → TilesGoOn → (world : World) (loads : List LoadName) (grants : List Grant) (slots number : ℕ) → IsSoundWorld world loads → IsApart world grants → AreOfLoads loads grants → number < world.platform.tiles → Fits world loads grants ((machine_at world loads grants slots).tile number)
machine_fits begin go_on world loads grants zero number sound apart of low =
    let begins = begin world loads grants number low in
    subst (λ (m : Machine TileState WordAndCredits). Fits world loads grants (m.tile number)) (sym (lockstep_none (tile_hardware world loads) world.platform.links grants)) (begins.made, begins.fits)
machine_fits begin go_on world loads grants (suc n) number sound apart of low =
    let hardware = tile_hardware world loads in
    let links = world.platform.links in
    let machine : Machine TileState WordAndCredits = machine_at world loads grants n in
    let was = machine_fits begin go_on world loads grants n number sound apart of low in
    let on = go_on world loads grants (inputs_of hardware.idle links machine.carried number) (machine.tile number) sound apart of was.0 was.1 in
    let more : n + 1 ≡ suc n = omega arith in
    subst (λ (slots : ℕ). Fits world loads grants ((machine_at world loads grants slots).tile number)) more
    (subst (λ (m : Machine TileState WordAndCredits). Fits world loads grants (m.tile number)) (sym (lockstep_more hardware links grants n)) (on.made, on.fits))

-- and those of a core
pub cores_fit : TilesBegin → TilesGoOn → (setup : Setup) → IsSound setup → CoresFit setup
cores_fit begin go_on setup sound events =
    let core = core_of setup events in
    let order = cores_step setup sound events in
    let grants = grants_of setup core.history in
    let count = setup.world.platform.tiles in
    core_inherits setup core (λ slot tile. Fits setup.world setup.loads grants tile) order (λ slot k d below.
    let machine : Machine TileState WordAndCredits = machine_at setup.world setup.loads grants slot in
    let long = length-map-range_with_len machine.tile 0 count in
    let here : get_or (map machine.tile (range_with_len 0 count)) k d ≡ machine.tile k = get_or-map-range_with_len machine.tile 0 count k k d (omega arith) (omega arith) in
    subst (λ (t : TileState). Fits setup.world setup.loads grants t) (sym here)
    (machine_fits begin go_on setup.world setup.loads grants slot k (sound_world setup sound) (legal_apart setup sound core.history order.legal) (grants_of_loads setup sound core.history order.legal) (omega arith)))

-- every grant stands on every tile
pub cores_stand : GrantsStand → (setup : Setup) → IsSound setup → CoresStand setup
cores_stand stands setup sound events =
    let core = core_of setup events in
    let order = cores_step setup sound events in
    let grants = grants_of setup core.history in
    core_inherits setup core (λ slot tile. All (λ grant. Stands setup.world grant tile) grants) order
    (λ slot. stands setup.world setup.loads grants slot (sound_world setup sound) (legal_apart setup sound core.history order.legal) (grants_of_loads setup sound core.history order.legal))

-- ---- the links

-- an item of a list that a function makes
made_at : {X : Type 0} (f : ℕ → X) (from n k : ℕ) (x : X) → slice_get (map f (range_with_len from n)) k ≡ Some x → x ≡ f (from + k)
made_at f from n k x there =
    let low = slice_get_within (map f (range_with_len from n)) k x there in
    let long = length-map-range_with_len f from n in
    sym (get_or_from_slice_get (map f (range_with_len from n)) k x x there) ∙ get_or-map-range_with_len f from n k (from + k) x (omega arith) (omega arith)

line_follows : LinksFollow → (setup : Setup) (core : CoreState TileState WordAndCredits) (number : ℕ) (line : Line WordAndCredits) → IsSound setup → IsInOrder TileState WordAndCredits (hardware_of setup) setup core → slice_get core.lines number ≡ Some line → LineFollows setup core number line
line_follows follow setup core number line sound order there = λ place flit is.
    let hardware = hardware_of setup in
    let grants = grants_of setup core.history in
    let inside = slice_get_within core.lines number line there in
    let at : get_or core.lines number line ≡ line = get_or_from_slice_get core.lines number line line there in
    let holds : HoldsBetween TileState WordAndCredits hardware setup core line = subst (HoldsBetween TileState WordAndCredits hardware setup core) at (order.between number line inside) in
    let reader = slot_of hardware core line.link.to in
    let carries = λ (slot : ℕ). (in_step hardware setup core slot).carried line.link in
    let count = slot_of hardware core line.link.from + 1 - reader in
    let flit_is : flit ≡ carries (reader + place) = made_at carries reader count place flit (sym (ap (λ (l : List WordAndCredits). slice_get l place) holds.holds) ∙ is) in
    let linked : slice_get setup.world.platform.links number ≡ Some line.link =
    sym (ap (λ (l : List Link). slice_get l number) order.linked) ∙ slice_get-map (λ (l : Line WordAndCredits). l.link) core.lines number ∙ ap (option_map (λ (l : Line WordAndCredits). l.link)) there in
    subst (LinkFollows setup.world grants (reader + place) number) (sym flit_is)
    (follow setup.world setup.loads grants (reader + place) number line.link (sound_world setup sound) (legal_apart setup sound core.history order.legal) (grants_of_loads setup sound core.history order.legal) linked)

-- the flits that a link holds are what it carries
pub core_links_follow : LinksFollow → (setup : Setup) → IsSound setup → CoreLinksFollow setup
core_links_follow follow setup sound events number line there =
    line_follows follow setup (core_of setup events) number line sound (cores_step setup sound events) there

-- ---- two worlds

-- the log of an application alone on a tile, by its bundle
abbrev log_by : Platform → ℕ → ℕ → ℕ → Option Bundle → Option Log
log_by platform start slot number o =
    option_map (λ state. state.log) (option_and_then (λ app. option_map (λ p. p.state) (find (λ p. p.part.tile == number) app.parts)) (option_map (λ bundle. alone_at platform bundle start slot) o))

-- the log of a grant of a core is that of its application alone, where it was stopped or at the tile's slot
core_log : LogsAreAlone → (setup : Setup) (events : List Happening) (tile : TileState) (grant : Grant) → IsSound setup → Contains (core_of setup events).tiles tile → Contains (grants_of setup (core_of setup events).history) grant → log_of tile grant.label ≡ log_by setup.world.platform grant.start (stop_slot tile.at grant) tile.number (bundle_at setup.world grant.bundle)
core_log alone setup events tile grant sound inside granted =
    let core = core_of setup events in
    let order = cores_step setup sound events in
    let grants = grants_of setup core.history in
    let P : TileState → Grant → Type 0 = λ t g. log_of t g.label ≡ log_by setup.world.platform g.start (stop_slot t.at g) t.number (bundle_at setup.world g.bundle) in
    let logs : All (λ t. All (P t) grants) core.tiles =
    core_inherits setup core (λ slot t. All (λ (g : Grant). log_of t g.label ≡ log_by setup.world.platform g.start (stop_slot slot g) t.number (bundle_at setup.world g.bundle)) grants) order
    (λ slot. alone setup.world setup.loads grants slot (sound_world setup sound) (legal_apart setup sound core.history order.legal) (grants_of_loads setup sound core.history order.legal)) in
    All-contains (P tile) grants grant (All-contains (λ (t : TileState). All (P t) grants) core.tiles tile logs inside) granted

-- so it depends on the platform, the bundle, the start and the stop alone
pub two_worlds : LogsAreAlone → TwoWorlds
two_worlds alone one other events again sound sound_too tile twin grant twin_grant inside inside_too granted granted_too twins =
    core_log alone one events tile grant sound inside granted
    ∙ ap (λ (p : Platform). log_by p grant.start (stop_slot tile.at grant) tile.number (bundle_at one.world grant.bundle)) twins.platform
    ∙ ap₂ (λ (start slot : ℕ). log_by other.world.platform start slot tile.number (bundle_at one.world grant.bundle)) twins.start twins.stop
    ∙ ap₂ (λ (n : ℕ) (o : Option Bundle). log_by other.world.platform twin_grant.start (stop_slot twin.at twin_grant) n o) twins.number twins.bundle
    ∙ sym (core_log alone other again twin twin_grant sound_too inside_too granted_too)
