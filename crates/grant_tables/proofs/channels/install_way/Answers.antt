use Rattle.std.proofs.Common.{◌<◌, length, get_or, ap}
use Rattle.bundle_model.specs.Ways.{way_of}
use Rattle.grant_tables.specs.Entries.{slot_entries}
use Rattle.grant_tables.proofs.Placings.{flat_front, flat_behind}
use Rattle.grant_tables.proofs.channels.install_way.Goals as goal

pub install_slot-requires : goal.install_slot-requires
install_slot-requires c =
    let inside : c.loop-slot.slot-index < length c.args.channel.now.slots = rw (← c.as_slice-slot-items.ensures) c.loop-slot-test.true in
    record {
      room = flat_front c.args.platform.now.table_slots c.args.site.label c.args.site.tile _ (slot_entries c.args.platform.now (way_of c.args.from c.args.to c.args.channel.now)) c.args.channel.now.slots c.loop-slot.slot-index 0 _ c.loop-slot.tables inside c.loop-slot.invariant
          (ap (λ slots. get_or slots c.loop-slot.slot-index 0) c.as_slice-slot-items.ensures);
    }

pub loop-slot-preserved : goal.loop-slot-preserved
loop-slot-preserved c =
    let inside : c.loop-slot.slot-index < length c.args.channel.now.slots = rw (← c.as_slice-slot-items.ensures) c.loop-slot-test.true in
    flat_behind c.args.platform.now.table_slots c.args.site.label c.args.site.tile _ (slot_entries c.args.platform.now (way_of c.args.from c.args.to c.args.channel.now)) c.args.channel.now.slots c.loop-slot.slot-index 0 _ c.loop-slot.tables c.install_slot.new.tables inside c.loop-slot.invariant
    (ap (λ slots. get_or slots c.loop-slot.slot-index 0) c.as_slice-slot-items.ensures) c.install_slot.ensures
