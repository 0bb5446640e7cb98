-- What a tile puts on its links, and what its ports receive, by its slot tables.
use Rattle.std.specs.Prelude.{ℕ, ◌+◌, List, map, get_or, replicate, Option, Some, None}
use Rattle.std.specs.Option.{option_map}
use Rattle.soc_base.specs.Port.{WordAndCredits, idle}
use Rattle.tdm_network.specs.declared.entries.Entry.{Entry}
use Rattle.tdm_network.specs.declared.entries.Source.{Source}
use Rattle.tdm_network.specs.declared.entries.Source.TheVariants.{Local, Input}
use Rattle.tdm_network.specs.declared.entries.Arrival.{Arrival}
use Rattle.tdm_network.specs.declared.rows.Row.{Row}
use Rattle.tdm_network.specs.declared.routing.Outputs.{Outputs}
use Rattle.tdm_network.specs.declared.routing.Delivery.{Delivery}
use Rattle.tdm_network.specs.Rows.{row_of}

-- the flit of a source, where the tile injects `injected` and has `inputs` on its inputs
abbrev pub from_source : List WordAndCredits → WordAndCredits → Source → WordAndCredits
from_source inputs injected Local = injected
from_source inputs injected (Input input) = get_or inputs input idle

-- the flit of an output: what its entry names, idle without one
abbrev pub out_flit : List WordAndCredits → WordAndCredits → Option (Entry Source) → WordAndCredits
out_flit inputs injected None = idle
out_flit inputs injected (Some entry) = from_source inputs injected entry.what

-- what is delivered: the flit of the input that the entry names, to its port
abbrev pub arriving : List WordAndCredits → Entry Arrival → Delivery
arriving inputs entry = record { port = entry.what.port; flit = get_or inputs entry.what.input idle }

-- In a slot: an output gets, for the slot after it, what that next slot's row names; what is delivered
-- goes by the slot's own row.
abbrev pub routed : List Row → ℕ → List WordAndCredits → WordAndCredits → Outputs
routed rows slot inputs injected = record {
  links = map (out_flit inputs injected) (row_of rows (slot + 1)).outs;
  deliver = option_map (arriving inputs) (row_of rows slot).deliver;
}

-- idle links, and nothing delivered
abbrev pub no_outputs : Outputs
no_outputs = record { links = replicate 7 idle; deliver = None }
