use Rattle.bundle_model.specs.Ways.{way_of}
use Rattle.grant_tables.proofs.Placings.{slot_goes_on, slot_ends}
use Rattle.grant_tables.proofs.channels.install_slot.Goals as goal

pub install_links-requires : goal.install_links-requires
install_links-requires c = record {
  room =
      rw c.as_slice-path.ensures
      (slot_goes_on c.args.platform.now c.args.site.label c.args.site.tile (way_of c.args.from c.args.to c.args.channel.now) c.args.slot c.args.tables.now c.install_on.new.tables c.requires.room c.install_on.ensures);
}

pub install_on-requires-2 : goal.install_on-requires-2
install_on-requires-2 c = record {
  room =
      rw (c.slots_later-slot.ensures, c.last_input-input.ensures, c.as_slice-path.ensures)
      (slot_ends c.args.platform.now c.args.site.label c.args.site.tile (way_of c.args.from c.args.to c.args.channel.now) c.args.slot c.args.tables.now c.install_on.new.tables c.install_links.new.tables c.requires.room c.install_on.ensures
      (rw (← c.as_slice-path.ensures) c.install_links.ensures));
}
