use Rattle.grant_tables.proofs.Placings.{links_front, links_behind}
use Rattle.grant_tables.proofs.channels.install_links.Goals as goal

pub install_on-requires : goal.install_on-requires
install_on-requires c = record {
  room = links_front c.args.platform.now.table_slots c.args.site.label c.args.site.tile _ c.args.platform.now c.args.slot c.loop-hop.hop c.loop-hop.source c.args.path.now c.loop-hop.tables
      c.link_of-link.result c.slots_later-slot.result c.loop-hop-test.true c.loop-hop.invariant c.link_of-link.ensures c.slots_later-slot.ensures;
}

pub loop-hop-preserved : goal.loop-hop-preserved
loop-hop-preserved c =
    links_behind c.args.platform.now.table_slots c.args.site.label c.args.site.tile _ c.args.platform.now c.args.slot c.loop-hop.hop c.loop-hop.source c.args.path.now c.loop-hop.tables
    c.link_of-link.result c.slots_later-slot.result c.install_on.new.tables c.loop-hop-test.true c.loop-hop.invariant c.link_of-link.ensures c.slots_later-slot.ensures c.install_on.ensures
