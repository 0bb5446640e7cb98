use Rattle.std.proofs.Common.{arith}
use Rattle.turn_lock.proofs.Taking.{looks_at}
use Rattle.turn_lock.proofs.line.Line.look.Goals as goal

pub load-serving-requires : goal.load-serving-requires
load-serving-requires g c =
    let at = c.requires.at in
    (at.0, (let words = at.1 in omega arith), looks_at g.V.Kept.base g.V.Kept.entries _ _ _ _ _ _ c.requires.waits)
