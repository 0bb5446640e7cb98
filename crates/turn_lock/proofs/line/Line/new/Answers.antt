use Rattle.std.proofs.Common.{◌≡◌, ◌<◌, ◌^◌, ◌∷◌, [], length, Some, rules, arith}
use Rattle.turn_lock.proofs.Opens.{opens}
use Rattle.turn_lock.proofs.line.Line.new.Goals as goal

pub new-requires : goal.new-requires
new-requires g c =
    let kept : c.of-about.result.value ≡ c.args.value = search rules in
    let counted : c.count-count.result ≡ length (g.V.Kept.entries c.args.value) = search rules in
    let slots : c.push_reserved.new.self.items ≡ Some c.args.value ∷ [] = search rules in
    let fits : length (g.V.Kept.entries c.args.value) < 2 ^ 64 = let h = c.count-count.type_inv in let e = counted in grind (arith, h, e) in
    rw (kept, counted, slots) (opens g.V.Kept.base g.V.Kept.entries c.args.value fits)
