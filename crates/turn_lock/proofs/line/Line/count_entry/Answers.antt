use Rattle.std.proofs.Common.{arith}
use Rattle.turn_lock.proofs.Leaving.{adds_at}
use Rattle.turn_lock.proofs.line.Line.count_entry.Goals as goal

pub fetch_add-requires : goal.fetch_add-requires
fetch_add-requires g c =
    let at = c.requires.at in
    (at.0, (let words = at.1 in omega arith), adds_at g.V.Kept.base g.V.Kept.entries _ _ _ _ _ c.requires.more)
