-- One slot of a tile: what is installed is fit again, and the tile holds its parts, each after its slot.
use Rattle.std.proofs.Common.{◌≡◌, ℕ, ◌+◌, ◌*◌, List, [], slice_get, Option, option_and_then, refl, sym, subst, ap, ◌∙◌, arith}
use Rattle.soc_base.specs.Port.{WordAndCredits}
use Rattle.soc_base.specs.Steps.{after_steps}
use Rattle.platform_model.specs.Platform.{frame_of}
use Rattle.bundle_model.specs.declared.bundle.Part.{Part}
use Rattle.bundle_model.specs.declared.world.World.{World}
use Rattle.bundle_model.specs.declared.world.LoadName.{LoadName}
use Rattle.bundle_model.specs.declared.world.Grant.{Grant}
use Rattle.bundle_model.specs.Grants.{IsApart}
use Rattle.bundle_model.specs.World.{IsSoundWorld, AreOfLoads}
use Rattle.rv_core.specs.Registers.{fresh_registers}
use Rattle.trace_log.specs.Log.{new_log}
use Rattle.part_model.specs.Part.{PartState}
use Rattle.grant_tables.specs.Tables.{tables_after, AreTabled}
use Rattle.ni_port.specs.SizedPort.{after_inject}
use Rattle.tdm_network.specs.Rows.{injecting}
use Rattle.tdm_network.specs.declared.rows.Row.{Row}
use Rattle.tile_core.specs.Tile.{TileState, load_part}
use Rattle.tile_core.specs.Cycle.{tile_cycle}
use Rattle.tile_core.specs.Slot.{begins_in, with_ends, with_starts, with_grants, with_injection, with_cycles, with_delivery, traffic, tile_slot}
use Rattle.tile_core.specs.Fit.{AreInstalled, granted_cycle, granted_from, IsFit, IsMadeFor}
use Rattle.tile_core.specs.Views.{view_cycles, views_slot}
use Rattle.tile_core.specs.Holds.{Holds, HoldsGranted}
use Rattle.tile_core.specs.Law.{TilesGoOn, HoldsPorts, HoldsNext}
use Rattle.tile_core.proofs.Installed.{installed_same}
use Rattle.tile_core.proofs.Ports.{change_at, with_own_if}
use Rattle.tile_core.proofs.Viewing.{granted_is, opened_is, exchange_of, exchange_is, views_are}
use Rattle.tile_core.proofs.Holding.{AreParted, HoldsSome}
use Rattle.tile_core.proofs.Coming.{holds_by}
use Rattle.tile_core.proofs.Going.{holds_going}
use Rattle.tile_core.proofs.Sites.{IsSite, site_granted_is}
use Rattle.tile_core.proofs.Folding.{IsTile, GoesAlong}
use Rattle.tile_core.proofs.Rooms.{parted_at}
use Rattle.tile_core.proofs.Starting.{views_with}
use Rattle.tile_core.proofs.Settling.{goes_installed, goes_holds, ended, begun}
use Rattle.grant_tables.proofs.Laws.{tables_go_on}
use Rattle.tile_core.proofs.Exchanges.{holds_beside, holds_changed, delivered, holds_delivered}
use Rattle.tile_core.proofs.Made.{frame_is, IsAlike, alike_more, made_alike, parts_alike, IsKept, kept_more}
use Rattle.tile_core.proofs.SlotMade.{granted_alike, granted_tables, injected_kept, delivered_kept, active_kept, slot_made, slot_at}

-- a tile that was made for a world, beside the world and the grants
pub site_of : (world : World) (all : List LoadName) (grants : List Grant) (t : TileState) → IsSoundWorld world all → IsApart world grants → AreOfLoads all grants → IsMadeFor world all t → IsSite world all t.loads grants t.number
site_of world all grants t sound apart of made = record { sound = sound; apart = apart; of_loads = of; here = made.its_loads }

pub tile_of : (world : World) (all : List LoadName) (t : TileState) → IsMadeFor world all t → IsTile t.number t.at t.loads world.platform.partition_slots t
tile_of world all t made = record { number_is = refl; at_is = refl; loads_are = refl; owners = made.owners; places = made.places }

-- a relation after the grants of the slot
pub settled : (world : World) (all : List LoadName) (grants : List Grant) (R : (ℕ → Option ℕ) → (ℕ → PartState) → TileState → Type 0) (view : ℕ → PartState) (t : TileState) → IsSite world all t.loads grants t.number → GoesAlong world world.platform.partition_slots (load_part world t) (t.at * world.platform.slot_cycles) R → IsMadeFor world all t → R (granted_from world grants t.at t) view t → R (granted_from world grants (t.at + 1) t) (views_with world (begins_in t.at) grants t.loads (load_part world t) view) (with_starts world grants (with_ends world grants t)) × IsTile t.number t.at t.loads world.platform.partition_slots (with_starts world grants (with_ends world grants t))
settled world all grants R view t site goes made holds =
    let one = ended world all t.loads grants t.number t.at (t.at * world.platform.slot_cycles) R view t site goes (tile_of world all t made) holds in
    begun world all t.loads grants t.number t.at R view (with_ends world grants t) site goes one.1 one.0

-- the tile at the end of its slot, before its deliveries and after them
abbrev pub active_tile : World → List Grant → TileState → TileState
active_tile world grants t = with_cycles world (with_injection (with_grants world grants t))

abbrev pub done_tile : World → List Grant → List WordAndCredits → TileState → TileState
done_tile world grants inputs t =
    with_delivery (traffic inputs (with_grants world grants t)).deliver (active_tile world grants t)

active_is : (world : World) (all : List LoadName) (grants : List Grant) (t : TileState) → IsSoundWorld world all → IsMadeFor world all t → IsKept (with_grants world grants t) (active_tile world grants t)
active_is world all grants t sound made =
    active_kept world all (with_grants world grants t) sound.catalog (made_alike world all t (with_grants world grants t) (granted_alike world all grants t sound.catalog made) made)

done_is : (world : World) (all : List LoadName) (grants : List Grant) (inputs : List WordAndCredits) (t : TileState) → IsSoundWorld world all → IsMadeFor world all t → IsKept (with_grants world grants t) (done_tile world grants inputs t)
done_is world all grants inputs t sound made =
    kept_more (with_grants world grants t) (active_tile world grants t) (done_tile world grants inputs t) (active_is world all grants t sound made)
    (delivered_kept (active_tile world grants t) (traffic inputs (with_grants world grants t)).deliver)

done_alike : (world : World) (all : List LoadName) (grants : List Grant) (inputs : List WordAndCredits) (t : TileState) → IsSoundWorld world all → IsMadeFor world all t → IsAlike t (done_tile world grants inputs t)
done_alike world all grants inputs t sound made =
    alike_more t (with_grants world grants t) (done_tile world grants inputs t) (granted_alike world all grants t sound.catalog made) (done_is world all grants inputs t sound made).alike

done_tables : (world : World) (all : List LoadName) (grants : List Grant) (inputs : List WordAndCredits) (t : TileState) → IsSoundWorld world all → IsMadeFor world all t → (done_tile world grants inputs t).tables ≡ tables_after world t.number grants t.at t.tables
done_tables world all grants inputs t sound made =
    (done_is world all grants inputs t sound made).tables ∙ granted_tables world all grants t sound.catalog made

-- a slot leaves a tile its number and its loads
pub slot_number : (world : World) (all : List LoadName) (grants : List Grant) (inputs : List WordAndCredits) (t : TileState) → IsSoundWorld world all → IsMadeFor world all t → (tile_slot world grants inputs t).number ≡ t.number
unfolding tile_slot
slot_number world all grants inputs t sound made = (done_alike world all grants inputs t sound made).number

pub slot_loads : (world : World) (all : List LoadName) (grants : List Grant) (inputs : List WordAndCredits) (t : TileState) → IsSoundWorld world all → IsMadeFor world all t → (tile_slot world grants inputs t).loads ≡ t.loads
unfolding tile_slot
slot_loads world all grants inputs t sound made = (done_alike world all grants inputs t sound made).loads

-- its slot tables are those once the grants of the slot have ended and begun
pub slot_tables : (world : World) (all : List LoadName) (grants : List Grant) (inputs : List WordAndCredits) (t : TileState) → IsSoundWorld world all → IsMadeFor world all t → (tile_slot world grants inputs t).tables ≡ tables_after world t.number grants t.at t.tables
unfolding tile_slot
slot_tables world all grants inputs t sound made = done_tables world all grants inputs t sound made

-- What is installed after its slot are the parts of the grants that stand at the next.
slot_installed : (world : World) (all : List LoadName) (grants : List Grant) (inputs : List WordAndCredits) (t : TileState) → IsSoundWorld world all → IsApart world grants → AreOfLoads all grants → IsMadeFor world all t → IsFit world grants t → (let last = tile_slot world grants inputs t in AreInstalled world.platform.partition_slots (load_part world last) (granted_from world grants last.at last) last)
unfolding tile_slot
slot_installed world all grants inputs t sound apart of made fits =
    let slots = world.platform.partition_slots in
    let parts = load_part world t in
    let granted = granted_from world grants (t.at + 1) t in
    let site = site_of world all grants t sound apart of made in
    let view : ℕ → PartState = λ place. record { regs = fresh_registers 0; left = 0; bytes = []; ports = []; log = new_log 0 } in
    let s = with_starts world grants (with_ends world grants t) in
    let R : (ℕ → Option ℕ) → (ℕ → PartState) → TileState → Type 0 = λ granted view u. AreInstalled slots parts granted u in
    let begun = settled world all grants R view t site (goes_installed world slots parts (t.at * world.platform.slot_cycles)) made fits.parts in
    let kept = done_is world all grants inputs t sound made in
    let alike = done_alike world all grants inputs t sound made in
    let last = tile_slot world grants inputs t in
    let now : AreInstalled slots parts granted last = installed_same slots parts granted s last kept.places kept.owners begun.0 in
    let P : (ℕ → Option Part) → Type 0 = λ ps. AreInstalled slots ps (granted_from world grants (t.at + 1) last) last in
    let Q : List LoadName → Type 0 = λ loads. AreInstalled slots parts (λ place. option_and_then (granted_cycle world grants (t.at + 1)) (slice_get loads place)) last in
    subst P (sym (parts_alike world t (done_tile world grants inputs t) alike)) (subst Q (sym alike.loads) now)

-- After its slot a tile is fit again.
pub slot_fits : (world : World) (all : List LoadName) (grants : List Grant) (inputs : List WordAndCredits) (t : TileState) → IsSoundWorld world all → IsApart world grants → AreOfLoads all grants → IsMadeFor world all t → IsFit world grants t → IsFit world grants (tile_slot world grants inputs t)
slot_fits world all grants inputs t sound apart of made fits =
    let last = tile_slot world grants inputs t in
    let tabled = tables_go_on world grants t.at t.number t.tables sound.catalog apart fits.tables in
    let P : ℕ → Type 0 = λ at. AreTabled world grants at t.number (tables_after world t.number grants t.at t.tables) in
    let Q : ℕ → Type 0 = λ number. AreTabled world grants last.at number (tables_after world t.number grants t.at t.tables) in
    let R : List Row → Type 0 = λ rows. AreTabled world grants last.at last.number rows in
    record {
      parts = slot_installed world all grants inputs t sound apart of made fits;
      tables = subst R (sym (slot_tables world all grants inputs t sound made)) (subst Q (sym (slot_number world all grants inputs t sound made)) (subst P (sym (slot_at world grants inputs t)) tabled));
    }

-- and goes on
pub slot_goes_on : TilesGoOn
slot_goes_on world loads grants inputs t sound apart of made fits = record {
  made = slot_made world loads grants inputs t sound.catalog made;
  fits = slot_fits world loads grants inputs t sound apart of made fits;
  at = slot_at world grants inputs t;
  number_same = slot_number world loads grants inputs t sound made;
  loads_same = slot_loads world loads grants inputs t sound made;
  tables_are = slot_tables world loads grants inputs t sound made;
}

-- parts that are installed at a slot share no byte and no port
parted : (world : World) (all : List LoadName) (grants : List Grant) (slot : ℕ) (t : TileState) → IsSite world all t.loads grants t.number → AreParted (load_part world t) (granted_from world grants slot t)
parted world all grants slot t site i j one other s e differ one_is one_begins other_is other_begins =
    parted_at world all t.loads grants t.number slot i j one other site differ
    (record { start = s; granted = site_granted_is world grants slot t.loads i s one_begins; is = one_is })
    (record { start = e; granted = site_granted_is world grants slot t.loads j e other_begins; is = other_is })

-- once the grants of its slot have ended and begun, a tile holds the parts, those opened that begin
pub settled_holds : (world : World) (all : List LoadName) (grants : List Grant) (view : ℕ → PartState) (t : TileState) → IsSoundWorld world all → IsApart world grants → AreOfLoads all grants → IsMadeFor world all t → HoldsGranted world grants view t → HoldsSome (frame_of world.platform) (load_part world t) (t.at * world.platform.slot_cycles) (granted_from world grants (t.at + 1) t) (views_with world (begins_in t.at) grants t.loads (load_part world t) view) (with_starts world grants (with_ends world grants t))
settled_holds world all grants view t sound apart of made h =
    let times = frame_of world.platform in
    let cycle = t.at * world.platform.slot_cycles in
    let parts = load_part world t in
    let site = site_of world all grants t sound apart of made in
    let first : HoldsSome times parts cycle (granted_from world grants t.at t) view t = record { starts = h.starts; parted = parted world all grants t.at t site; holds = h.holds } in
    (settled world all grants (HoldsSome times parts cycle) view t site (goes_holds world times parts cycle) made first).0

-- an installed part then has its ports, as it has by itself
pub slot_ports : HoldsPorts
slot_ports world all grants view t place part grant sound apart of made h is granted stands =
    let begun = settled_holds world all grants view t sound apart of made h in
    let begins = granted_is world grants (t.at + 1) t place grant apart.labelled granted stands in
    (begun.holds.here place part (grant.start * world.platform.slot_cycles) is begins).ports
    ∙ ap (λ (s : PartState). s.ports) (opened_is world grants t view place part grant apart.labelled is granted)

-- over the rest of the slot it holds them: injection, cycles, delivery
active_holds : (world : World) (all : List LoadName) (grants : List Grant) (inputs : List WordAndCredits) (view : ℕ → PartState) (t : TileState) (starts : ℕ → ℕ) → IsSoundWorld world all → IsMadeFor world all t → (let times = frame_of world.platform in
    let len = world.platform.slot_cycles in
    let parts = load_part world t in
    let granted = granted_from world grants (t.at + 1) t in
    let ready = with_grants world grants t in
    let sends = injecting ready.tables ready.at in
    AreParted parts granted → Holds times parts granted starts view (t.at * len) (with_starts world grants (with_ends world grants t))
    → Holds times parts granted starts (λ place. with_own_if (delivered (traffic inputs ready).deliver) (granted place) (parts place) (view_cycles times world.platform.costs (granted place) (parts place) (t.at * len) len (with_own_if (change_at after_inject sends) (granted place) (parts place) (view place)))) ((t.at + 1) * len) (done_tile world grants inputs t))
active_holds world all grants inputs view t starts sound made apart h =
    let times = frame_of world.platform in
    let costs = world.platform.costs in
    let len = world.platform.slot_cycles in
    let parts = load_part world t in
    let granted = granted_from world grants (t.at + 1) t in
    let s = with_starts world grants (with_ends world grants t) in
    let ready = with_grants world grants t in
    let sends = injecting ready.tables ready.at in
    let sent_view : ℕ → PartState = λ place. with_own_if (change_at after_inject sends) (granted place) (parts place) (view place) in
    let went : ℕ → PartState = λ place. view_cycles times costs (granted place) (parts place) (t.at * len) len (sent_view place) in
    let r = with_injection ready in
    let alike : IsAlike t r = alike_more t ready r (granted_alike world all grants t sound.catalog made) (injected_kept ready).alike in
    let begun : Holds times parts granted starts view (t.at * len) ready = holds_beside times parts granted starts view (t.at * len) s.at (tables_after world s.number grants s.at s.tables) s.carried s h in
    let injected : Holds times parts granted starts sent_view (t.at * len) r = holds_changed times parts granted starts view (t.at * len) after_inject sends ready begun in
    let gone = holds_going times parts granted starts sent_view costs (t.at * len) len r (frame_is world) apart injected in
    let end : t.at * len + len ≡ (t.at + 1) * len = omega arith in
    let A : ℕ → Type 0 = λ cycle. Holds times parts granted starts went cycle (after_steps (tile_cycle parts costs) (t.at * len) len r) in
    let B : ℕ → Type 0 = λ from. Holds times parts granted starts went ((t.at + 1) * len) (after_steps (tile_cycle parts costs) (from * len) len r) in
    let C : (ℕ → Option Part) → Type 0 = λ ps. Holds times parts granted starts went ((t.at + 1) * len) (after_steps (tile_cycle ps costs) (r.at * len) len r) in
    let now : Holds times parts granted starts went ((t.at + 1) * len) (active_tile world grants t) = subst C (sym (parts_alike world t r alike)) (subst B (sym alike.at) (subst A end gone)) in
    holds_delivered times parts granted starts went ((t.at + 1) * len) (traffic inputs ready).deliver (active_tile world grants t) now

-- After its slot a tile holds its parts, each after the slot.
pub slot_holds : HoldsNext
unfolding tile_slot
slot_holds world all grants inputs view t sound apart of made h =
    let times = frame_of world.platform in
    let cycle = (t.at + 1) * world.platform.slot_cycles in
    let parts = load_part world t in
    let granted = granted_from world grants (t.at + 1) t in
    let views = views_slot world grants inputs t view in
    let begun = settled_holds world all grants view t sound apart of made h in
    let done = done_tile world grants inputs t in
    let alike = done_alike world all grants inputs t sound made in
    let exchange = exchange_is world grants inputs t (granted_tables world all grants t sound.catalog made) (granted_alike world all grants t sound.catalog made).at in
    let gone = active_holds world all grants inputs (views_with world (begins_in t.at) grants t.loads parts view) t begun.starts sound made begun.parted begun.holds in
    let viewed : Holds times parts granted begun.starts views cycle done = holds_by times parts granted granted begun.starts _ views cycle done (λ place. refl) (λ place part is. views_are world grants inputs t (exchange_of world grants inputs t) view place part apart.labelled exchange is) gone in
    let last = tile_slot world grants inputs t in
    let there : Holds times parts granted begun.starts views cycle last = holds_beside times parts granted begun.starts views cycle (t.at + 1) done.tables last.carried done viewed in
    let P : (ℕ → Option Part) → Type 0 = λ ps. Holds times ps (granted_from world grants (t.at + 1) last) begun.starts views cycle last in
    let Q : List LoadName → Type 0 = λ loads. Holds times parts (λ place. option_and_then (granted_cycle world grants (t.at + 1)) (slice_get loads place)) begun.starts views cycle last in
    record { starts = begun.starts; holds = subst P (sym (parts_alike world t done alike)) (subst Q (sym alike.loads) there) }
