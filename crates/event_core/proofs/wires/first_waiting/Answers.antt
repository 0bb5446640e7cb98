use Rattle.std.proofs.Common.{◌≡◌, ◌∙◌, ℕ, ◌<◌, length, true, false, not, map, get_or, sym, ap, subst, arith}
use Rattle.std.proofs.lemmas.List.{length-map, get_or-map}
use Rattle.std.proofs.lemmas.List.Elements.{All-map}
use Rattle.soc_base.specs.Port.{WordAndCredits}
use Rattle.event_core.specs.declared.wires.Wire.{Wire}
use Rattle.core_model.specs.Core.{Line, is_fed}
use Rattle.event_core.specs.inner.Wires.{line_of}
use Rattle.event_core.proofs.WireLoops.{position_is, position_is_none}
use Rattle.event_core.proofs.wires.first_waiting.Goals as goal

pub returns-then-not-is_fed : goal.returns-then-not-is_fed
returns-then-not-is_fed c =
    let wires = c.args.wires.now in
    let number = c.loop-number.number in
    let unfed = λ (line : Line WordAndCredits). not (is_fed c.args.tile line) in
    let item = c.index-wires-number.result in
    let long = length-map wires line_of in
    let at = λ (k : ℕ) (d : Wire) (low : k < length wires). get_or-map line_of wires k d (line_of d) low in
    let here : not (is_fed c.args.tile (line_of item)) ≡ true = ap not (sym c.is_fed.ensures ∙ c.if-not-is_fed.true) in
    let there : not (is_fed c.args.tile (line_of (get_or wires number item))) ≡ true = subst (λ (w : Wire). not (is_fed c.args.tile (line_of w)) ≡ true) c.index-wires-number.is here in
    sym (position_is unfed (map line_of wires) number (line_of item) (omega (arith, long)) (ap unfed (at number item (omega arith)) ∙ there)
    (λ k below. ap unfed (at k item (omega arith)) ∙ c.loop-number.invariant k item below))

pub returns : goal.returns
returns c =
    let unfed = λ (line : Line WordAndCredits). not (is_fed c.args.tile line) in
    sym (position_is_none unfed (map line_of c.args.wires.now) (All-map (λ line. unfed line ≡ false) line_of c.args.wires.now (λ k d below. c.loop-number.invariant k d (omega arith))))
