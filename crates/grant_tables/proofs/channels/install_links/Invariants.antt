use Rattle.std.proofs.Common.{◌+◌}
use Rattle.tdm_network.specs.declared.entries.Source.TheVariants.{Local}
use Rattle.grant_tables.specs.Entries.{link_entries, entries_on}
use Rattle.grant_tables.specs.Tables.{with_entries}
use Rattle.grant_tables.proofs.Placings.{Remains, links_left}
use Rattle.grant_tables.proofs.channels.install_links.Given as goal

abbrev pub invariant-loop-hop : goal.invariant-loop-hop
invariant-loop-hop l =
    Remains l.platform.table_slots l.site.label l.site.tile (with_entries l.site.label (entries_on l.site.tile (link_entries l.platform (l.slot + 1) Local l.path)) l.fn.tables)
    (links_left l.platform l.slot l.hop l.source l.path) l.tables
