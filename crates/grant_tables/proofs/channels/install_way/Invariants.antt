use Rattle.std.proofs.Common.{drop}
use Rattle.std.specs.List.{flat_map}
use Rattle.bundle_model.specs.Ways.{way_of}
use Rattle.grant_tables.specs.Entries.{slot_entries, entries_on}
use Rattle.grant_tables.specs.Tables.{with_entries}
use Rattle.grant_tables.proofs.Placings.{Remains}
use Rattle.grant_tables.proofs.channels.install_way.Given as goal

abbrev pub invariant-loop-slot : goal.invariant-loop-slot
invariant-loop-slot l =
    let f = slot_entries l.platform (way_of l.from l.to l.channel) in
    Remains l.platform.table_slots l.site.label l.site.tile (with_entries l.site.label (entries_on l.site.tile (flat_map f l.channel.slots)) l.fn.tables)
    (flat_map f (drop l.slot-index l.channel.slots)) l.tables
