-- What keeps a core engaged.
use Rattle.std.proofs.Common.{◌≡◌, ℕ, ◌+◌, ◌*◌, ◌<◌, ◌≤◌, true, List, [], ◌++◌, length, map, vec_capacity, append-nil, mul-le-mul_right, get_or, set, slice_get, Option, Some, None, refl, sym, ap, ap₂, subst, ◌∙◌, arith}
use Rattle.std.specs.Prelude.{nat_lt, IfSome}
use Rattle.std.specs.List.{All, list_all, range_with_len}
use Rattle.std.specs.Option.{option_to_list}
use Rattle.std.proofs.lemmas.Bool.{and_parts, ltb-true}
use Rattle.std.proofs.lemmas.List.{length-map}
use Rattle.std.proofs.lemmas.List.Elements.{All-set, All-map}
use Rattle.std.proofs.lemmas.List.FromFn.{length-range_with_len, get_or-range_with_len}
use Rattle.std.proofs.lemmas.Option.{slice_get_within, get_or_from_slice_get, slice_get-get_or}
use Rattle.soc_base.specs.Port.{WordAndCredits, idle}
use Rattle.soc_base.specs.declared.limits.TheConstants.{MOST_LINKS, MOST_TILES}
use Rattle.bundle_model.specs.declared.world.Grant.{Grant}
use Rattle.bundle_model.specs.declared.world.Schedule.{Schedule}
use Rattle.bundle_model.specs.Grants.{IsApart}
use Rattle.bundle_model.specs.World.{AreOfLoads}
use Rattle.tile_core.specs.Tile.{TileState, fresh_tile}
use Rattle.tile_core.specs.Slot.{tile_slot, slot_outputs}
use Rattle.tile_core.specs.Fit.{IsFit, IsMadeFor, IsReady}
use Rattle.tile_core.proofs.Laws.{fresh_begins, tiles_are_paced}
use Rattle.vep_manager.specs.declared.setup.Setup.{Setup}
use Rattle.vep_manager.specs.declared.reply.Entry.{Entry}
use Rattle.vep_manager.specs.Setup.{IsSound}
use Rattle.vep_manager.specs.History.{grants_of, horizon_of}
use Rattle.vep_manager.specs.Replies.{next_entry}
use Rattle.vep_manager.specs.Legal.{IsLegal}
use Rattle.vep_manager.specs.Manager.{ManagerState}
use Rattle.vep_manager.proofs.Laws.{sound_world, legal_apart, grants_of_loads, horizon_within, legal_goes_on}
use Rattle.core_model.specs.Core.{Line, CoreState, Happening, line_inputs, passed, is_fed, may_go, answered, happens, fresh_core}
use Rattle.core_model.specs.Core.Happening.{Command as Commands, Slot as Slots}
use Rattle.core_model.specs.Order.{IsInOrder}
use Rattle.core_model.proofs.Laws.{fresh_order, happens_keeps}
use Rattle.event_core.specs.declared.event.Event.TheVariants.{Command}
use Rattle.event_core.specs.Core.{Engaged, hardware_of, after_event}
use Rattle.event_core.specs.inner.Engine.{IsEngaged}
use Rattle.event_core.specs.inner.Turn.{IsTurned, IsPassedOn}
use Rattle.event_core.proofs.Fits.{fits_go_on}
use Rattle.event_core.proofs.Hindered.{Goes, slot_happens}

-- an event keeps the core of a sound setup in order
keeps_order : (setup : Setup) (core : CoreState TileState WordAndCredits) (event : Happening) → IsSound setup → IsInOrder TileState WordAndCredits (hardware_of setup) setup core → IsInOrder TileState WordAndCredits (hardware_of setup) setup (happens (hardware_of setup) setup core event)
keeps_order setup core event sound order = happens_keeps (hardware_of setup) setup sound (tiles_are_paced setup.world setup.loads) core event order

-- the tiles and the links of a core are few
pub few_tiles : (setup : Setup) (core : CoreState TileState WordAndCredits) → IsInOrder TileState WordAndCredits (hardware_of setup) setup core → length core.tiles ≤ MOST_TILES
few_tiles setup core order =
    let counted = order.counted in
    let range = setup.world.platform.tiles_in_range in
    omega (arith, counted, range.1)

pub few_links : (setup : Setup) (core : CoreState TileState WordAndCredits) → IsInOrder TileState WordAndCredits (hardware_of setup) setup core → length core.lines ≤ MOST_LINKS
few_links setup core order =
    let counted : length core.lines ≡ length setup.world.platform.links = sym (length-map core.lines (λ line. line.link)) ∙ ap length order.linked in
    let range = setup.world.platform.links_in_range in
    omega (arith, counted, range)

-- ---- a slot

-- a tile that may go is ready
going_ready : (setup : Setup) (core : CoreState TileState WordAndCredits) (schedule : Schedule) (room number : ℕ) (tile : TileState) → IsEngaged setup core schedule.grants.items schedule.horizon room → slice_get core.tiles number ≡ Some tile → may_go (hardware_of setup) setup core number tile ≡ true → IsReady setup.world schedule tile
going_ready setup core schedule room number tile engaged there may =
    let parts = and_parts (nat_lt tile.at (horizon_of setup core.history)) (list_all (is_fed number) core.lines) may in
    let low = ltb-true tile.at (horizon_of setup core.history) parts.0 in
    let is = engaged.horizon_known in
    let inside = slice_get_within core.tiles number tile there in
    let at : get_or core.tiles number tile ≡ tile = get_or_from_slice_get core.tiles number tile tile there in
    let grants : grants_of setup core.history ≡ schedule.grants.items = sym engaged.grants_known in
    let high = horizon_within setup core.history in
    let cycles = setup.world.platform.slot_cycles in
    let budget = engaged.sound.budget in
    let times : schedule.horizon * cycles ≤ setup.budget * cycles = mul-le-mul_right cycles (omega arith) in
    record {
      underway = record {
        loads = setup.loads;
        sound = sound_world setup engaged.sound;
        made = subst (IsMadeFor setup.world setup.loads) at (engaged.made number tile inside);
        apart = subst (λ (l : List Grant). IsApart setup.world l) grants (legal_apart setup engaged.sound core.history engaged.order.legal);
        of_loads = subst (λ (l : List Grant). AreOfLoads setup.loads l) grants (grants_of_loads setup engaged.sound core.history engaged.order.legal);
        fits = subst (λ (l : List Grant). IsFit setup.world l tile) grants (subst (IsFit setup.world (grants_of setup core.history)) at (engaged.fits number tile inside));
        bounded = omega arith;
      };
      below = omega arith;
    }

pub ready_there : (setup : Setup) (core : CoreState TileState WordAndCredits) (schedule : Schedule) (room number : ℕ) → IsEngaged setup core schedule.grants.items schedule.horizon room → Goes (record { setup = setup; core = core }) number → IfSome (slice_get core.tiles number) (IsReady setup.world schedule)
ready_there setup core schedule room number engaged it =
    subst (λ (o : Option TileState). IfSome o (IsReady setup.world schedule)) (sym it.1) (going_ready setup core schedule room number it.0 engaged it.1 it.2)

-- the core with these tiles and lines
abbrev pub core_with : CoreState TileState WordAndCredits → List TileState → List (Line WordAndCredits) → CoreState TileState WordAndCredits
core_with core tiles lines = record { history = core.history; tiles = tiles; lines = lines }

-- a slot of a tile that may go is the event, and leaves the core engaged
pub passed_on : (setup : Setup) (core : CoreState TileState WordAndCredits) (grants : List Grant) (horizon room number : ℕ) (tiles : List TileState) (lines : List (Line WordAndCredits)) → IsEngaged setup core grants horizon room → Goes (record { setup = setup; core = core }) number → IfSome (slice_get core.tiles number) (IsPassedOn setup.world grants number core.tiles tiles core.lines lines) → (core_with core tiles lines ≡ happens (hardware_of setup) setup core (Slots number)) × IsEngaged setup (core_with core tiles lines) grants horizon room
passed_on setup core grants horizon room number tiles lines engaged it done =
    let tile = it.0 in
    let on : IsPassedOn setup.world grants number core.tiles tiles core.lines lines tile = subst (λ (o : Option TileState). IfSome o (IsPassedOn setup.world grants number core.tiles tiles core.lines lines)) it.1 done in
    let inputs : List WordAndCredits = line_inputs idle core.lines number in
    let turned : IsTurned setup.world grants inputs number core.tiles tiles tile = on.turned in
    let known = engaged.grants_known in
    let set_is : tiles ≡ set core.tiles number (tile_slot setup.world (grants_of setup core.history) inputs tile) = turned.turned ∙ ap (λ (l : List Grant). set core.tiles number (tile_slot setup.world l inputs tile)) known in
    let lines_are : lines ≡ map (passed idle number (slot_outputs setup.world (grants_of setup core.history) inputs tile)) core.lines = on.passed_on ∙ ap (λ (l : List Grant). map (passed idle number (slot_outputs setup.world l inputs tile)) core.lines) known in
    let same : core_with core tiles lines ≡ happens (hardware_of setup) setup core (Slots number) =
    ap₂ (core_with core) set_is lines_are ∙ sym (slot_happens setup core number tile it.1 it.2) in
    let inside = slice_get_within core.tiles number tile it.1 in
    let at : get_or core.tiles number tile ≡ tile = get_or_from_slice_get core.tiles number tile tile it.1 in
    let made_now = turned.made setup.loads (subst (IsMadeFor setup.world setup.loads) at (engaged.made number tile inside)) in
    let fits_now : IsFit setup.world (grants_of setup core.history) (tile_slot setup.world grants inputs tile) = subst (λ (l : List Grant). IsFit setup.world l (tile_slot setup.world grants inputs tile)) known turned.fits in (
      same,
      record {
        sound = engaged.sound;
        order = subst (IsInOrder TileState WordAndCredits (hardware_of setup) setup) (sym same) (keeps_order setup core (Slots number) engaged.sound engaged.order);
        grants_known = engaged.grants_known;
        horizon_known = engaged.horizon_known;
        made = subst (λ (l : List TileState). All (IsMadeFor setup.world setup.loads) l) (sym turned.turned) (All-set (IsMadeFor setup.world setup.loads) core.tiles number (tile_slot setup.world grants inputs tile) made_now engaged.made);
        fits = subst (λ (l : List TileState). All (IsFit setup.world (grants_of setup core.history)) l) (sym turned.turned) (All-set (IsFit setup.world (grants_of setup core.history)) core.tiles number (tile_slot setup.world grants inputs tile) fits_now engaged.fits);
        enough = engaged.enough;
      },
    )

-- ---- a command

answered_by : (setup : Setup) (core : CoreState TileState WordAndCredits) (o : Option Entry) → record core { history = core.history ++ option_to_list o } ≡ answered core o
answered_by setup core None = ap (λ (h : List Entry). record core { history = h }) (append-nil core.history)
answered_by setup core (Some entry) = refl

committed : (setup : Setup) (core : CoreState TileState WordAndCredits) (session : ℕ) (o : Option Entry) → o ≡ next_entry setup core.history session → record core { history = core.history ++ option_to_list o } ≡ happens (hardware_of setup) setup core (Commands session)
unfolding happens
committed setup core session o is = answered_by setup core o ∙ ap (answered core) is

-- a core of these parts
abbrev pub core_of_parts : ManagerState → List TileState → List (Line WordAndCredits) → CoreState TileState WordAndCredits
core_of_parts kept tiles lines = record { history = kept.history; tiles = tiles; lines = lines }

abbrev pub engaged_of : ManagerState → List TileState → List (Line WordAndCredits) → Engaged
engaged_of kept tiles lines = record { setup = kept.setup; core = core_of_parts kept tiles lines }

-- what the commit of a session's next command leaves of a manager: its history has the entry that the session
-- has next, where there is one, and is legal
pub record IsCommitted (kept new : ManagerState) (session : ℕ) (entry : Option Entry) : Type 0 where
  pub entry_is : entry ≡ next_entry kept.setup kept.history session
  pub appended : new ≡ record kept { history = kept.history ++ option_to_list entry }
  pub legal : IsLegal new.setup new.history

-- a schedule that was brought up to a history: its grants and its horizon, in the room of the one before
pub record IsBroughtUp (setup : Setup) (history : List Entry) (before new : Schedule) : Type 0 where
  pub grants_are : new.grants.items ≡ grants_of setup history
  pub horizon_is : new.horizon ≡ horizon_of setup history
  pub room_is : vec_capacity new.grants ≡ vec_capacity before.grants

-- a core is engaged with a schedule
abbrev pub IsEngagedWith : Setup → CoreState TileState WordAndCredits → Schedule → Type 0
IsEngagedWith setup core schedule = IsEngaged setup core schedule.grants.items schedule.horizon (vec_capacity schedule.grants)

goes_on : (setup : Setup) (core : CoreState TileState WordAndCredits) (before new : Schedule) (session : ℕ) (entry : Option Entry) → IsEngagedWith setup core before → entry ≡ next_entry setup core.history session → (let history = core.history ++ option_to_list entry in IsLegal setup history → IsBroughtUp setup history before new → (record core { history = history } ≡ happens (hardware_of setup) setup core (Commands session)) × IsEngagedWith setup (record core { history = history }) new)
goes_on setup core before new session entry engaged is legal brought =
    let same = committed setup core session entry is in
    let on = legal_goes_on setup engaged.sound core.history (core.history ++ option_to_list entry) (option_to_list entry, refl) legal in
    let order = engaged.order in (
      same,
      record {
        sound = engaged.sound;
        order = subst (IsInOrder TileState WordAndCredits (hardware_of setup) setup) (sym same) (keeps_order setup core (Commands session) engaged.sound engaged.order);
        grants_known = brought.grants_are;
        horizon_known = brought.horizon_is;
        made = engaged.made;
        fits = λ k d below.
            let tile = get_or core.tiles k d in
            let low = order.below k tile (slice_get-get_or core.tiles k d below) in
            fits_go_on setup.world (horizon_of setup core.history) (grants_of setup core.history) (grants_of setup (core.history ++ option_to_list entry)) tile low on.grants (engaged.fits k d below);
        enough = subst (λ (n : ℕ). length setup.loads ≤ n) (sym brought.room_is) engaged.enough;
      },
    )

-- a session's next command is the event, and leaves the core engaged
pub command_on : (kept new : ManagerState) (tiles : List TileState) (lines : List (Line WordAndCredits)) (before next : Schedule) (session : ℕ) (entry : Option Entry) → IsEngagedWith kept.setup (core_of_parts kept tiles lines) before → IsCommitted kept new session entry → IsBroughtUp new.setup new.history before next → (engaged_of new tiles lines ≡ after_event (engaged_of kept tiles lines) (Command session)) × IsEngagedWith new.setup (core_of_parts new tiles lines) next
command_on kept new tiles lines before next session entry engaged commit =
    let P : ManagerState → Type 0 = λ n. IsLegal n.setup n.history → IsBroughtUp n.setup n.history before next → (engaged_of n tiles lines ≡ after_event (engaged_of kept tiles lines) (Command session)) × IsEngagedWith n.setup (core_of_parts n tiles lines) next in
    subst P (sym commit.appended) (λ legal brought.
    let on = goes_on kept.setup (core_of_parts kept tiles lines) before next session entry engaged commit.entry_is legal brought in
    (ap (λ (core : CoreState TileState WordAndCredits). let e : Engaged = record { setup = kept.setup; core = core } in e) on.0, on.1)) commit.legal

-- ---- the core before its first event

-- at most 256 loads
pub few_loads : (setup : Setup) → IsSound setup → length setup.loads ≤ 256
few_loads setup sound = (sound_world setup sound).few

pub fresh_engaged : (setup : Setup) (grants : List Grant) (horizon room : ℕ) (history : List Entry) (tiles : List TileState) (lines : List (Line WordAndCredits)) → IsSound setup → history ≡ [] → grants ≡ grants_of setup history → horizon ≡ horizon_of setup history → length setup.loads ≤ room → tiles ≡ (fresh_core (hardware_of setup) setup).tiles → lines ≡ (fresh_core (hardware_of setup) setup).lines → IsEngaged setup (record { history = history; tiles = tiles; lines = lines }) grants horizon room
fresh_engaged setup grants horizon room history tiles lines sound none grants_is horizon_is big tiles_are lines_are =
    let hardware = hardware_of setup in
    let fresh = fresh_core hardware setup in
    let count = setup.world.platform.tiles in
    let same : (let core : CoreState TileState WordAndCredits = record { history = history; tiles = tiles; lines = lines } in core ≡ fresh) =
    ap₂ (λ (t : List TileState) (l : List (Line WordAndCredits)). let core : CoreState TileState WordAndCredits = record { history = history; tiles = t; lines = l } in core) tiles_are lines_are
    ∙ ap (λ (h : List Entry). let core : CoreState TileState WordAndCredits = record { history = h; tiles = fresh.tiles; lines = fresh.lines } in core) none in
    let each : (P : TileState → Type 0) → ((n : ℕ) → n < count → P (fresh_tile setup.world setup.loads n)) → All P tiles = λ P here.
    subst (λ (l : List TileState). All P l) (sym tiles_are) (All-map P (fresh_tile setup.world setup.loads) (range_with_len 0 count) (λ k d low.
    let long = length-range_with_len 0 count in
    let number : get_or (range_with_len 0 count) k d ≡ 0 + k = get_or-range_with_len 0 count k d (omega arith) in
    here (get_or (range_with_len 0 count) k d) (omega arith))) in
    record {
      sound = sound;
      order = subst (IsInOrder TileState WordAndCredits hardware setup) (sym same) (fresh_order hardware setup (tiles_are_paced setup.world setup.loads));
      grants_known = grants_is;
      horizon_known = horizon_is;
      made = each (IsMadeFor setup.world setup.loads) (λ n low. (fresh_begins setup.world setup.loads (grants_of setup history) n low).made);
      fits = each (IsFit setup.world (grants_of setup history)) (λ n low. (fresh_begins setup.world setup.loads (grants_of setup history) n low).fits);
      enough = big;
    }
