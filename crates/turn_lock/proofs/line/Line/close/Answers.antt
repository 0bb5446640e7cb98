use Rattle.std.proofs.Common.{◌≡◌, Some, None, sym, ◌∙◌, ap, subst, length}
use Rattle.std.proofs.lemmas.Option.{same_Some}
use mathlib.Core.Option.{some-injective}
use mathlib.Core.List.{IsPrefix}
use Rattle.turn_lock.proofs.Closing.{closes}
use Rattle.turn_lock.proofs.line.Line.close.Goals as goal

pub unreachable-requires : goal.unreachable-requires
unreachable-requires g c =
    let got = closes g.V.Kept.base g.V.Kept.entries _ _ _ _ _ _ c.requires.away.1 c.requires.share c.close_with-closed.ensures.values.2 in
    let same : Some got.0 ≡ None = some-injective _ _ (sym got.1 ∙ c.take-slot.ensures.value) ∙ c.in-None.is in
    cc

pub returns-clause-base : goal.returns-clause-base
returns-clause-base g c =
    let got = closes g.V.Kept.base g.V.Kept.entries _ _ _ _ _ _ c.requires.away.1 c.requires.share c.close_with-closed.ensures.values.2 in
    let same : got.0 ≡ c.in-Some.value = same_Some _ _ (some-injective _ _ (sym got.1 ∙ c.take-slot.ensures.value) ∙ c.in-Some.is) in
    ap g.V.Kept.base (sym same) ∙ got.2

pub returns-clause-begins : goal.returns-clause-begins
returns-clause-begins g c =
    let got = closes g.V.Kept.base g.V.Kept.entries _ _ _ _ _ _ c.requires.away.1 c.requires.share c.close_with-closed.ensures.values.2 in
    let same : got.0 ≡ c.in-Some.value = same_Some _ _ (some-injective _ _ (sym got.1 ∙ c.take-slot.ensures.value) ∙ c.in-Some.is) in
    subst (λ x. IsPrefix c.args.hand.seat.me.0.seen (g.V.Kept.entries x)) same got.3

pub returns-clause-count : goal.returns-clause-count
returns-clause-count g c =
    let got = closes g.V.Kept.base g.V.Kept.entries _ _ _ _ _ _ c.requires.away.1 c.requires.share c.close_with-closed.ensures.values.2 in
    let same : got.0 ≡ c.in-Some.value = same_Some _ _ (some-injective _ _ (sym got.1 ∙ c.take-slot.ensures.value) ∙ c.in-Some.is) in
    ap (λ x. length (g.V.Kept.entries x)) (sym same) ∙ got.4
