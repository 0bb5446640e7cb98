use Rattle.std.proofs.Common.{arith, ap, sym, subst, ◌∙◌, length, ◌≤◌}
use mathlib.Core.List.{IsPrefix}
use Rattle.turn_lock.proofs.Sharing.{joins}
use Rattle.turn_lock.proofs.Comparing.{compares, both_begin}
use Rattle.turn_lock.proofs.line.Line.join.Goals as goal

pub join_seat-requires : goal.join_seat-requires
join_seat-requires g c =
    let at = c.requires.at in
    let p = c.requires.away in
    let q = c.requires.other_away in
    (at.0, c.requires.other_at, q.0, (let words = at.1 in omega arith), joins g.V.Kept.base g.V.Kept.entries _ _ _ _ _ _ p.1 q.1 p.2 q.2)

pub load-requires : goal.load-requires
load-requires g c =
    let at = c.requires.at in
    let p = c.requires.away.2 in
    let j = c.join_seat.ensures in
    let e = ap (λ m. m.0.share) j.2 in
    (j.0 ∙ at.0, (let words = at.1 in omega arith), compares g.V.Kept.base g.V.Kept.entries _ _ _ _ c.join_seat.new.seat.me (omega arith))

pub returns-clause-joined : goal.returns-clause-joined
returns-clause-joined g c = c.load.ensures.2.0 ∙ c.join_seat.ensures.2

pub returns-clause-first : goal.returns-clause-first
returns-clause-first g c =
    let told = subst (λ m. length m.0.met ≤ length m.0.seen → IsPrefix m.0.met m.0.seen) c.join_seat.ensures.2 c.load.ensures.2.1 in
    subst (λ l. IsPrefix c.args.hand.now.seat.me.0.seen l) (sym (ap (λ m. m.0.seen) (c.load.ensures.2.0 ∙ c.join_seat.ensures.2))) (both_begin c.args.hand.now.seat.me.0.seen c.args.other.seat.me.0.seen told).0

pub returns-clause-second : goal.returns-clause-second
returns-clause-second g c =
    let told = subst (λ m. length m.0.met ≤ length m.0.seen → IsPrefix m.0.met m.0.seen) c.join_seat.ensures.2 c.load.ensures.2.1 in
    subst (λ l. IsPrefix c.args.other.seat.me.0.seen l) (sym (ap (λ m. m.0.seen) (c.load.ensures.2.0 ∙ c.join_seat.ensures.2))) (both_begin c.args.hand.now.seat.me.0.seen c.args.other.seat.me.0.seen told).1
