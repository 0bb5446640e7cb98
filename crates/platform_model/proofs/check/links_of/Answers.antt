use Rattle.soc_base.specs.declared.limits.TheConstants.{MOST_TILES}
use Rattle.platform_model.specs.Links.{joins_tiles, has_router_ports}
use Rattle.std.proofs.Common.{pos, rules}
use Rattle.platform_model.proofs.Passing.{all_at}
use Rattle.platform_model.proofs.check.links_of.Goals as goal

pub link_of-requires-clause-joins : goal.link_of-requires-clause-joins
link_of-requires-clause-joins c = all_at (joins_tiles (pos MOST_TILES)) c.args.raw.now c.loop-link.link-index _ c.requires.join (search rules)

pub link_of-requires-clause-ports : goal.link_of-requires-clause-ports
link_of-requires-clause-ports c = all_at has_router_ports c.args.raw.now c.loop-link.link-index _ c.requires.ports (search rules)
