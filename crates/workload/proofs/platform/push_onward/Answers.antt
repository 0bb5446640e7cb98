use Rattle.std.proofs.Common.{◌+◌, ◌%◌, map, ap, ◌∙◌}
use Rattle.toml.specs.Data.{table}
use Rattle.toml.specs.View.{view}
use Rattle.workload.specs.Documents.{link_table}
use Rattle.workload.proofs.Ranges.{mapped_more}
use Rattle.workload.proofs.platform.push_onward.Goals as goal

pub loop-tile-preserved : goal.loop-tile-preserved
loop-tile-preserved c =
    ap (map view) c.in_ok-push.ensures.items
    ∙ mapped_more view (λ tile. table (link_table tile ((tile + 1) % 16) 0)) _ _ _ c.loop-tile.tile c.loop-tile.invariant c.in_ok-link.ensures
