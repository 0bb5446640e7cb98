use Rattle.report_text.proofs.RowCounts.{few_rows}
use Rattle.report_text.proofs.room.judged_room.Goals as goal

pub parts_room-requires : goal.parts_room-requires
parts_room-requires c = rw c.as_slice.ensures (few_rows c.args.platform.now _ (rw c.in-Ok.is at c.requires))
