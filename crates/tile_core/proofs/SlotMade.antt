-- What a tile was made for stays in a slot.
use Rattle.std.proofs.Common.{◌≡◌, ℕ, suc, ◌+◌, ◌*◌, ◌≤◌, Bool, true, false, cond, List, [], ◌∷◌, filter, fold, length, Option, Some, None, option_and_then, refl, subst, ap, ◌∙◌, All, arith}
use Rattle.std.proofs.lemmas.List.Elements.{All-nil, All-cons}
use Rattle.soc_base.specs.Port.{WordAndCredits}
use Rattle.bundle_model.specs.declared.bundle.Part.{Part}
use Rattle.bundle_model.specs.declared.world.World.{World}
use Rattle.bundle_model.specs.declared.world.LoadName.{LoadName}
use Rattle.bundle_model.specs.declared.world.Grant.{Grant}
use Rattle.bundle_model.specs.World.{IsSoundCatalog}
use Rattle.ni_port.specs.SizedPort.{SizedPort, after_inject, after_deliver}
use Rattle.tdm_network.specs.declared.rows.Row.{Row}
use Rattle.tdm_network.specs.declared.routing.Delivery.{Delivery}
use Rattle.tdm_network.specs.Rows.{injecting}
use Rattle.grant_tables.specs.Tables.{tables_after}
use Rattle.tile_core.specs.Tile.{TileState, load_part, load_place}
use Rattle.tile_core.specs.Slot.{ends_in, begins_in, removed_if, after_end, with_ends, installed_if, installed_at, after_start, with_starts, with_grants, with_port, with_injection, with_cycles, with_delivery, is_idle, counted, traffic, tile_slot}
use Rattle.tile_core.specs.Fit.{IsMadeFor}
use Rattle.tile_core.proofs.Queues.{queues_of, port_queues}
use Rattle.tile_core.proofs.Made.{IsAlike, alike_more, made_alike, IsKept, kept_same, kept_more, settled_alike, cycles_kept}

-- another table changes nothing of that
pub tables_alike : (t : TileState) (rows : List Row) → IsAlike t (record t { tables = rows })
tables_alike t rows = record { number = refl; at = refl; frame = refl; owners = refl; size = refl; places = refl; loads = refl; logs = refl; ports = refl; carried = refl }

-- the parts and the entries of a slot's grants
pub granted_alike : (world : World) (loads : List LoadName) (grants : List Grant) (t : TileState) → IsSoundCatalog world → IsMadeFor world loads t → IsAlike t (with_grants world grants t)
granted_alike world loads grants t sound made =
    let s = with_starts world grants (with_ends world grants t) in
    alike_more t s (with_grants world grants t) (settled_alike world loads grants t sound made) (tables_alike s (tables_after world s.number grants s.at s.tables))

-- parts that leave and come leave the slot tables
end_tables : (world : World) (t : TileState) (part : Option Part) → (removed_if world t part).tables ≡ t.tables
end_tables world t None = refl
end_tables world t (Some part) = refl

ends_tables : (world : World) (grants : List Grant) (t : TileState) → (fold (after_end world) t grants).tables ≡ t.tables
ends_tables world [] t = refl
ends_tables world (grant ∷ grants) t =
    ends_tables world grants (after_end world t grant) ∙ end_tables world t (option_and_then (load_part world t) (load_place t grant.label))

come_tables : (world : World) (t : TileState) (place : ℕ) (part : Option Part) → (installed_if world t place part).tables ≡ t.tables
come_tables world t place None = refl
come_tables world t place (Some part) = refl

start_tables : (world : World) (t : TileState) (place : Option ℕ) → (installed_at world t place).tables ≡ t.tables
start_tables world t None = refl
start_tables world t (Some place) = come_tables world t place (load_part world t place)

starts_tables : (world : World) (grants : List Grant) (t : TileState) → (fold (after_start world) t grants).tables ≡ t.tables
starts_tables world [] t = refl
starts_tables world (grant ∷ grants) t =
    starts_tables world grants (after_start world t grant) ∙ start_tables world t (load_place t grant.label)

pub settled_tables : (world : World) (grants : List Grant) (t : TileState) → (with_starts world grants (with_ends world grants t)).tables ≡ t.tables
settled_tables world grants t =
    let mid = with_ends world grants t in
    starts_tables world (filter (begins_in mid.at) grants) mid ∙ ends_tables world (filter (ends_in t.at) grants) t

-- the tables of a slot are those of the tile after its grants
pub granted_tables : (world : World) (loads : List LoadName) (grants : List Grant) (t : TileState) → IsSoundCatalog world → IsMadeFor world loads t → (with_grants world grants t).tables ≡ tables_after world t.number grants t.at t.tables
granted_tables world loads grants t sound made =
    let s = with_starts world grants (with_ends world grants t) in
    let alike = settled_alike world loads grants t sound made in
    ap (λ (n : ℕ). tables_after world n grants s.at s.tables) alike.number
    ∙ ap (λ (n : ℕ). tables_after world t.number grants n s.tables) alike.at
    ∙ ap (tables_after world t.number grants t.at) (settled_tables world grants t)

-- a port that injects or receives
ported_kept : (t : TileState) (ports : List SizedPort) → queues_of ports ≡ queues_of t.ports → IsKept t (record t { ports = ports })
ported_kept t ports same = record {
  alike = record { number = refl; at = refl; frame = refl; owners = refl; size = refl; places = refl; loads = refl; logs = refl; ports = same; carried = refl };
  places = refl;
  owners = refl;
  tables = refl;
}

pub injected_kept : (t : TileState) → IsKept t (with_injection t)
injected_kept t = ported_kept t (with_port after_inject (injecting t.tables t.at) t.ports) (port_queues after_inject (λ port. refl) (injecting t.tables t.at) t.ports)

pub delivered_kept : (t : TileState) (deliver : Option Delivery) → IsKept t (with_delivery deliver t)
delivered_kept t None = kept_same t
delivered_kept t (Some delivery) =
    ported_kept t (with_port (after_deliver delivery.flit) (Some delivery.port) t.ports) (port_queues (after_deliver delivery.flit) (λ port. refl) (Some delivery.port) t.ports)

-- the tile in a slot before its deliveries, and after them
pub active_kept : (world : World) (loads : List LoadName) (t : TileState) → IsSoundCatalog world → IsMadeFor world loads t → IsKept t (with_cycles world (with_injection t))
active_kept world loads t sound made =
    let s = with_injection t in
    let one = injected_kept t in
    let kept = cycles_kept world loads world.platform.costs (s.at * world.platform.slot_cycles) world.platform.slot_cycles s sound (made_alike world loads t s one.alike made) in
    kept_more t s (with_cycles world s) one kept

-- as many counts, each at most one more
pub counted_count : (flits : List WordAndCredits) (counts : List ℕ) → length (counted flits counts) ≡ length counts
counted_count [] counts = refl
counted_count (flit ∷ flits) [] = refl
counted_count (flit ∷ flits) (count ∷ counts) = ap suc (counted_count flits counts)

one_more : (idle : Bool) (count at : ℕ) → count ≤ at → cond idle count (count + 1) ≤ at + 1
one_more true count at low = omega arith
one_more false count at low = omega arith

pub counted_within : (flits : List WordAndCredits) (counts : List ℕ) (at : ℕ) → All (λ count. count ≤ at) counts → All (λ count. count ≤ at + 1) (counted flits counts)
counted_within [] counts at within = λ k d below. let low = within k d below in omega arith
counted_within (flit ∷ flits) [] at within = All-nil (λ count. count ≤ at + 1)
counted_within (flit ∷ flits) (count ∷ counts) at within =
    All-cons (λ count. count ≤ at + 1) (cond (is_idle flit) count (count + 1)) (counted flits counts) (one_more (is_idle flit) count at (within 0 count (omega arith)))
    (counted_within flits counts at (λ k d below. within (suc k) d (omega (arith, below))))

-- a slot: what the tile was made for stays
pub slot_made : (world : World) (loads : List LoadName) (grants : List Grant) (inputs : List WordAndCredits) (t : TileState) → IsSoundCatalog world → IsMadeFor world loads t → IsMadeFor world loads (tile_slot world grants inputs t)
unfolding tile_slot
slot_made world loads grants inputs t sound made =
    let ready = with_grants world grants t in
    let one = granted_alike world loads grants t sound made in
    let ready_made = made_alike world loads t ready one made in
    let two = active_kept world loads ready sound ready_made in
    let active = with_cycles world (with_injection ready) in
    let active_alike = alike_more t ready active one two.alike in
    let active_made = made_alike world loads t active active_alike made in
    let outputs = traffic inputs ready in
    let end = with_delivery outputs.deliver active in
    let done = made_alike world loads active end (delivered_kept active outputs.deliver).alike active_made in
    let P : ℕ → Type 0 = λ at. All (λ count. count ≤ at + 1) (counted outputs.links active.carried) in
    record {
      number = done.number;
      frame = done.frame;
      owners = done.owners;
      size = done.size;
      places = done.places;
      its_loads = done.its_loads;
      logs = done.logs;
      ports = done.ports;
      queues = done.queues;
      outputs = counted_count outputs.links active.carried ∙ active_made.outputs;
      counts = subst P active_alike.at (counted_within outputs.links active.carried active.at active_made.counts);
    }

-- the slot after is next
pub slot_at : (world : World) (grants : List Grant) (inputs : List WordAndCredits) (t : TileState) → (tile_slot world grants inputs t).at ≡ t.at + 1
unfolding tile_slot
slot_at world grants inputs t = refl
