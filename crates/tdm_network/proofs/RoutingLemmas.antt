-- What a slot does, by the tables read place by place.
use Rattle.std.proofs.Common.{◌≡◌, ◌∙◌, ap, ℕ, ◌+◌, ◌%◌, List, length, get_or, map, replicate, Option, Some, None, refl}
use Rattle.std.specs.Option.{option_map, option_map_or, option_and_then}
use Rattle.std.proofs.Math.ListN.{get_or-map}
use Rattle.soc_base.specs.Port.{WordAndCredits, idle}
use Rattle.tdm_network.specs.declared.entries.Entry.{Entry}
use Rattle.tdm_network.specs.declared.entries.Source.{Source}
use Rattle.tdm_network.specs.declared.entries.Arrival.{Arrival}
use Rattle.tdm_network.specs.declared.rows.Row.{Row}
use Rattle.tdm_network.specs.declared.routing.Outputs.{Outputs}
use Rattle.tdm_network.specs.Rows.{row_of, row_at, free_row, free_rows, injecting}
use Rattle.tdm_network.proofs.SpotLemmas.{free_at}
use Rattle.tdm_network.specs.Routing.{out_flit, arriving, routed, no_outputs}
use Rattle.tdm_network.specs.Spots.{Role, spots_of, in_role, role_port, role_flit, role_delivery}
use Rattle.tdm_network.specs.Spots.Spot.{InjectRow, OutRow, DropRow}
use Rattle.tdm_network.specs.Spots.Role.{Sends, Takes, Receives}

free_row_of : (rows : List Row) (slot : ℕ) → rows ≡ free_rows (length rows) → row_of rows slot ≡ free_row
free_row_of rows slot free = ap (λ (read : List Row). row_at read (slot % length rows)) free ∙ free_at (length rows) (slot % length rows)

port_by : (o : Option (Entry ℕ)) → option_map (λ (entry : Entry ℕ). entry.what) o ≡ option_and_then (λ (entry : Entry Role). role_port entry.what) (option_map (in_role Sends) o)
port_by None = refl
port_by (Some entry) = refl

-- the port that injects is the one that the place of the slot's own row names
pub injecting_is : (rows : List Row) (slot : ℕ) → injecting rows slot ≡ option_and_then (λ (entry : Entry Role). role_port entry.what) (spots_of rows (InjectRow (slot % length rows)))
injecting_is rows slot = port_by (row_of rows slot).inject

flit_by : (inputs : List WordAndCredits) (injected : WordAndCredits) (o : Option (Entry Source)) → out_flit inputs injected o ≡ option_map_or (λ (entry : Entry Role). role_flit inputs injected entry.what) (option_map (in_role Takes) o) idle
flit_by inputs injected None = refl
flit_by inputs injected (Some entry) = refl

-- an output gets the flit that its place in the next slot's row names
pub output_is : (rows : List Row) (slot : ℕ) (inputs : List WordAndCredits) (injected : WordAndCredits) (out : ℕ) → get_or (routed rows slot inputs injected).links out idle ≡ option_map_or (λ (entry : Entry Role). role_flit inputs injected entry.what) (spots_of rows (OutRow out ((slot + 1) % length rows))) idle
output_is rows slot inputs injected out =
    let outs = (row_of rows (slot + 1)).outs in
    get_or-map (out_flit inputs injected) outs out None ∙ flit_by inputs injected (get_or outs out None)

delivery_by : (inputs : List WordAndCredits) (o : Option (Entry Arrival)) → option_map (arriving inputs) o ≡ option_and_then (λ (entry : Entry Role). role_delivery inputs entry.what) (option_map (in_role (λ arrival. Receives arrival.input arrival.port)) o)
delivery_by inputs None = refl
delivery_by inputs (Some entry) = refl

-- what is delivered is what the place of the slot's own row names
pub delivery_is : (rows : List Row) (slot : ℕ) (inputs : List WordAndCredits) (injected : WordAndCredits) → (routed rows slot inputs injected).deliver ≡ option_and_then (λ (entry : Entry Role). role_delivery inputs entry.what) (spots_of rows (DropRow (slot % length rows)))
delivery_is rows slot inputs injected = delivery_by inputs (row_of rows slot).deliver

-- where every place is free, no port injects
pub nobody_injects : (rows : List Row) (slot : ℕ) → rows ≡ free_rows (length rows) → injecting rows slot ≡ None
nobody_injects rows slot free = ap (λ (row : Row). option_map (λ (entry : Entry ℕ). entry.what) row.inject) (free_row_of rows slot free)

-- where every place is free, the outputs are idle and nothing is delivered
pub nothing_routed : (rows : List Row) (slot : ℕ) (inputs : List WordAndCredits) (injected : WordAndCredits) → rows ≡ free_rows (length rows) → routed rows slot inputs injected ≡ no_outputs
nothing_routed rows slot inputs injected free =
    ap (λ (row : Row). record { links = map (out_flit inputs injected) row.outs; deliver = option_map (arriving inputs) (row_of rows slot).deliver }) (free_row_of rows (slot + 1) free)
    ∙ ap (λ (row : Row). record { links = replicate 7 idle; deliver = option_map (arriving inputs) row.deliver }) (free_row_of rows slot free)

-- the same of the outputs alone
pub no_flits : (rows : List Row) (slot : ℕ) (inputs : List WordAndCredits) (injected : WordAndCredits) → rows ≡ free_rows (length rows) → (routed rows slot inputs injected).links ≡ replicate 7 idle
no_flits rows slot inputs injected free = ap (λ (outputs : Outputs). outputs.links) (nothing_routed rows slot inputs injected free)

-- and of the delivery
pub no_delivery : (rows : List Row) (slot : ℕ) (inputs : List WordAndCredits) (injected : WordAndCredits) → rows ≡ free_rows (length rows) → (routed rows slot inputs injected).deliver ≡ None
no_delivery rows slot inputs injected free = ap (λ (outputs : Outputs). outputs.deliver) (nothing_routed rows slot inputs injected free)
