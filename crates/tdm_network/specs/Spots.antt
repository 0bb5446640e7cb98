-- The slot tables of a tile as places, each of which is free or holds one entry.
use Rattle.std.specs.Prelude.{◌≡◌, ℕ, Bool, false, ◌<◌, ◌==◌, ◌&&◌, List, length, get_or, All, if◌then◌else◌, Option, Some, None}
use Rattle.std.specs.Option.{option_map}
use Rattle.soc_base.specs.declared.label.Label.{Label}
use Rattle.soc_base.specs.Port.{WordAndCredits, idle}
use Rattle.tdm_network.specs.declared.entries.Entry.{Entry}
use Rattle.tdm_network.specs.declared.entries.Source.{Source}
use Rattle.tdm_network.specs.declared.entries.TableEntry.{TableEntry}
use Rattle.tdm_network.specs.declared.entries.TableEntry.TheVariants.{Inject, Out, Deliver}
use Rattle.tdm_network.specs.declared.entries.Source.TheVariants.{Local, Input}
use Rattle.tdm_network.specs.declared.rows.Row.{Row}
use Rattle.tdm_network.specs.declared.routing.Delivery.{Delivery}
use Rattle.tdm_network.specs.Rows.{row_at, slot_of, kept}
use Rattle.tdm_network.specs.Routing.{from_source}

-- a place: a slot of the inject table, an output and a slot of the table of outputs, a slot of the
-- deliver table
pub data Spot : Type 0 where
  InjectRow : ℕ → Spot
  OutRow : ℕ → ℕ → Spot
  DropRow : ℕ → Spot

-- what an entry says: the port that injects; where the output takes its flit from; the input and the
-- port of what is delivered
pub data Role : Type 0 where
  Sends : ℕ → Role
  Takes : Source → Role
  Receives : ℕ → ℕ → Role

-- what stands at each place
abbrev pub Spots : Type 0
Spots = Spot → Option (Entry Role)

-- an entry of one table as one of all tables
abbrev pub in_role : {X : Type 0} → (X → Role) → Entry X → Entry Role
in_role role entry = record { label = entry.label; what = role entry.what }

-- what a tile's tables hold, place by place
abbrev pub spots_of : List Row → Spots
spots_of rows (InjectRow slot) = option_map (in_role Sends) (row_at rows slot).inject
spots_of rows (OutRow out slot) = option_map (in_role Takes) (get_or (row_at rows slot).outs out None)
spots_of rows (DropRow slot) =
    option_map (in_role (λ arrival. Receives arrival.input arrival.port)) (row_at rows slot).deliver

-- the place of an entry, and what it says there
abbrev pub spot_of : TableEntry → Spot
spot_of (Inject slot port) = InjectRow slot
spot_of (Out out slot source) = OutRow out slot
spot_of (Deliver slot input port) = DropRow slot

-- what an entry does at its place
abbrev pub role_of : TableEntry → Role
role_of (Inject slot port) = Sends port
role_of (Out out slot source) = Takes source
role_of (Deliver slot input port) = Receives input port

-- whether two places are one
abbrev pub same_spot : Spot → Spot → Bool
same_spot (InjectRow slot) (InjectRow other) = slot == other
same_spot (OutRow out slot) (OutRow at other) = out == at && slot == other
same_spot (DropRow slot) (DropRow other) = slot == other
same_spot _ _ = false

-- with an entry more, all other places as they were
abbrev pub with_spot : Label → TableEntry → Spots → Spots
with_spot label entry spots spot =
    if same_spot (spot_of entry) spot then Some (record { label = label; what = role_of entry }) else spots spot

-- without a label's entries, all other places as they were
abbrev pub without_label : Label → Spots → Spots
without_label label spots spot = kept label (spots spot)

-- what an output of this role carries, where the tile injects `injected` and has `inputs` on its inputs
abbrev pub role_flit : List WordAndCredits → WordAndCredits → Role → WordAndCredits
role_flit inputs injected (Sends port) = idle
role_flit inputs injected (Takes source) = from_source inputs injected source
role_flit inputs injected (Receives input port) = idle

-- what is delivered by a role
abbrev pub role_delivery : List WordAndCredits → Role → Option Delivery
role_delivery inputs (Sends port) = None
role_delivery inputs (Takes source) = None
role_delivery inputs (Receives input port) = Some (record { port = port; flit = get_or inputs input idle })

-- the port that injects by a role
abbrev pub role_port : Role → Option ℕ
role_port (Sends port) = Some port
role_port (Takes source) = None
role_port (Receives input port) = None

-- There is a row for each table slot, with seven outputs.
pub record IsLaidOut (table_slots : ℕ) (rows : List Row) : Type 0 where
  pub slots : length rows ≡ table_slots
  pub outs : All (λ row. length row.outs ≡ 7) rows

-- a source that a router has: the flit that its tile injects, or one of its inputs
abbrev pub IsSource : Source → Type 0
IsSource Local = Unit {0}
IsSource (Input input) = input < 7

-- outputs and inputs are numbered from 0 to 6, ports from 0 to 15
abbrev pub IsNumbered : TableEntry → Type 0
IsNumbered (Inject slot port) = port < 16
IsNumbered (Out out slot source) = (out < 7) × IsSource source
IsNumbered (Deliver slot input port) = (input < 7) × (port < 16)

-- the numbers of an entry are in range
pub record IsInRange (table_slots : ℕ) (entry : TableEntry) : Type 0 where
  pub slot : slot_of entry < table_slots
  pub numbers : IsNumbered entry

-- The place that is printed as (table, row, slot): table 0 injects, 1 has a row for each output, 2 delivers.
abbrev pub told : ℕ → ℕ → ℕ → List Row → Option (Label × TableEntry)
told table row slot rows =
    let places = row_at rows slot in
    if table == 0 then option_map (λ entry. (entry.label, Inject slot entry.what)) places.inject
    else if table == 1 then option_map (λ entry. (entry.label, Out row slot entry.what)) (get_or places.outs row None)
    else option_map (λ entry. (entry.label, Deliver slot entry.what.input entry.what.port)) places.deliver
