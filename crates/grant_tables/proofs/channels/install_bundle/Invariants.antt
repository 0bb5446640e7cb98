use Rattle.std.proofs.Common.{drop}
use Rattle.std.specs.List.{flat_map}
use Rattle.grant_tables.specs.Entries.{entries_on}
use Rattle.grant_tables.specs.Tables.{with_entries}
use Rattle.grant_tables.proofs.Placings.{Remains, pair_entries}
use Rattle.grant_tables.proofs.channels.install_bundle.Given as goal

abbrev pub invariant-loop-pair : goal.invariant-loop-pair
invariant-loop-pair l =
    Remains l.platform.table_slots l.site.label l.site.tile (with_entries l.site.label (entries_on l.site.tile (flat_map (pair_entries l.platform) l.bundle.pairs)) l.fn.tables)
    (flat_map (pair_entries l.platform) (drop l.pair-index l.bundle.pairs)) l.tables
