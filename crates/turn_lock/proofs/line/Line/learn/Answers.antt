use Rattle.std.proofs.Common.{arith}
use Rattle.turn_lock.proofs.Leaving.{learns_at}
use Rattle.turn_lock.proofs.line.Line.learn.Goals as goal

pub load-requires : goal.load-requires
load-requires g c =
    let at = c.requires.at in
    (at.0, (let words = at.1 in omega arith), learns_at g.V.Kept.base g.V.Kept.entries _ _ _ _ _ c.requires.taken)
