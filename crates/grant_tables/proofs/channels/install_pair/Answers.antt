use Rattle.std.proofs.Common.{[], ◌++◌}
use Rattle.bundle_model.specs.Ways.{way_of}
use Rattle.grant_tables.specs.Entries.{way_entries}
use Rattle.grant_tables.proofs.Placings.{remain_all, remain_front, remain_behind}
use Rattle.grant_tables.proofs.channels.install_pair.Goals as goal

pub install_way-requires : goal.install_way-requires
install_way-requires c =
    let pair = c.args.pair.now in
    let there = way_entries c.args.platform.now (way_of pair.a pair.b pair.there) in
    let back = way_entries c.args.platform.now (way_of pair.b pair.a pair.back) in
    record {
      room = remain_front c.args.platform.now.table_slots c.args.site.label c.args.site.tile _ there (back ++ []) c.args.tables.now
          (remain_all c.args.platform.now.table_slots c.args.site.label c.args.site.tile (there ++ (back ++ [])) c.args.tables.now c.requires.room);
    }

pub install_way-requires-2 : goal.install_way-requires-2
install_way-requires-2 c =
    let pair = c.args.pair.now in
    let there = way_entries c.args.platform.now (way_of pair.a pair.b pair.there) in
    let back = way_entries c.args.platform.now (way_of pair.b pair.a pair.back) in
    record {
      room = remain_front c.args.platform.now.table_slots c.args.site.label c.args.site.tile _ back [] c.install_way.new.tables
          (remain_behind c.args.platform.now.table_slots c.args.site.label c.args.site.tile _ there (back ++ []) c.args.tables.now c.install_way.new.tables
          (remain_all c.args.platform.now.table_slots c.args.site.label c.args.site.tile (there ++ (back ++ [])) c.args.tables.now c.requires.room) c.install_way.ensures);
    }
