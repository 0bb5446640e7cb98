use Rattle.std.proofs.Common.{arith}
use Rattle.turn_lock.proofs.Sharing.{splits}
use Rattle.turn_lock.proofs.line.Line.split.Goals as goal

pub split_seat-requires : goal.split_seat-requires
split_seat-requires g c =
    let at = c.requires.at in
    (at.0, (let words = at.1 in omega arith), splits g.V.Kept.base g.V.Kept.entries _ _ _ _ c.requires.away.1 c.requires.share)
