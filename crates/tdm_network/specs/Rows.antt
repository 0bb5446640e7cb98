-- The slot tables of a tile (dAElite), row by row: row s is what they hold for the slots whose number is s
-- modulo the number of rows.
use Rattle.std.specs.Prelude.{ℕ, ◌%◌, List, map, length, get_or, slice_set, replicate, if◌then◌else◌, Option, Some, None}
use Rattle.std.specs.Option.{option_map}
use Rattle.soc_base.specs.declared.label.Label.{Label}
use Rattle.soc_base.specs.Label.{same_label}
use Rattle.tdm_network.specs.declared.entries.Entry.{Entry}
use Rattle.tdm_network.specs.declared.entries.TableEntry.{TableEntry}
use Rattle.tdm_network.specs.declared.entries.TableEntry.TheVariants.{Inject, Out, Deliver}
use Rattle.tdm_network.specs.declared.rows.Row.{Row}

-- a row whose places are all free: nobody injects, the seven outputs are idle, nothing is delivered
abbrev pub free_row : Row
free_row = record { inject = None; outs = replicate 7 None; deliver = None }

-- tables whose places are all free
abbrev pub free_rows : ℕ → List Row
free_rows table_slots = replicate table_slots free_row

-- the row of a slot
abbrev pub row_at : List Row → ℕ → Row
row_at rows slot = get_or rows slot free_row

-- the row of a slot that is counted from the beginning of time
abbrev pub row_of : List Row → ℕ → Row
row_of rows slot = row_at rows (slot % length rows)

-- a place that holds an entry of a label
abbrev pub held_by : {X : Type 0} → Label → X → Option (Entry X)
held_by label what = Some (record { label = label; what = what })

-- the slot whose row an entry stands in
abbrev pub slot_of : TableEntry → ℕ
slot_of (Inject slot port) = slot
slot_of (Out out slot source) = slot
slot_of (Deliver slot input port) = slot

-- a row with an entry at its place, for a label
abbrev pub with_entry : Label → TableEntry → Row → Row
with_entry label (Inject slot port) row = record row { inject = held_by label port }
with_entry label (Out out slot source) row = record row { outs = slice_set row.outs out (held_by label source) }
with_entry label (Deliver slot input port) row =
    record row { deliver = held_by label (record { input = input; port = port }) }

-- the tables after an entry was installed: its row has it, and every other row stays
abbrev pub installed : Label → TableEntry → List Row → List Row
installed label entry rows = slice_set rows (slot_of entry) (with_entry label entry (row_at rows (slot_of entry)))

-- a place without what a label has there
abbrev pub kept : {X : Type 0} → Label → Option (Entry X) → Option (Entry X)
kept label None = None
kept label (Some entry) = if same_label entry.label label then None else Some entry

-- a row without a label's entries
abbrev pub kept_row : Label → Row → Row
kept_row label row = record {
  inject = kept label row.inject;
  outs = map (kept label) row.outs;
  deliver = kept label row.deliver;
}

-- the tables without a label's entries
abbrev pub removed : Label → List Row → List Row
removed label rows = map (kept_row label) rows

-- the port that injects in a slot
abbrev pub injecting : List Row → ℕ → Option ℕ
injecting rows slot = option_map (λ entry. entry.what) (row_of rows slot).inject
