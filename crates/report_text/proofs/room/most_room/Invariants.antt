use Rattle.std.proofs.Common.{◌≡◌, take, max, map, fold}
use Rattle.report_text.specs.inner.Room.{bundle_rows}
use Rattle.report_text.proofs.room.most_room.Given as goal

abbrev pub invariant-loop-named : goal.invariant-loop-named
invariant-loop-named l =
    l.most ≡ fold (λ most rows. max most rows) 0
    (map (λ named. bundle_rows named.judged) (take l.named-index l.named-items))
