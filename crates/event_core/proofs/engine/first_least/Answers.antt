use Rattle.std.proofs.Common.{◌≡◌, ◌∙◌, ◌&&◌, true, sym, ap, subst, arith, ℕ}
use Rattle.std.specs.Prelude.{nat_lt, nat_le}
use Rattle.std.specs.List.{list_all}
use Rattle.std.proofs.lemmas.Bool.{lt-ltb}
use Rattle.tile_core.specs.Tile.{TileState}
use Rattle.event_core.proofs.Hindered.{and_both}
use Rattle.event_core.proofs.WireLoops.{position_is, position_is_none}
use Rattle.event_core.proofs.engine.first_least.Goals as goal

pub returns-then-none_lower : goal.returns-then-none_lower
returns-then-none_lower c =
    let tiles = c.args.tiles.now in
    let horizon = c.args.horizon in
    let tile = c.index-tiles-number.result in
    let slot : c.at-slot.result ≡ tile.at = c.at-slot.ensures in
    let low = lt-ltb tile.at horizon (omega arith) in
    let none = sym (ap (λ (n : ℕ). list_all (λ (other : TileState). nat_le n other.at) tiles) slot) ∙ sym c.none_lower.ensures ∙ c.if-none_lower.true in
    let here = and_both (nat_lt tile.at horizon) (list_all (λ (other : TileState). nat_le tile.at other.at) tiles) low none in
    sym (position_is (λ (t : TileState). nat_lt t.at horizon && list_all (λ other. nat_le t.at other.at) tiles) tiles c.loop-number.number tile (omega arith)
    (subst (λ (t : TileState). (nat_lt t.at horizon && list_all (λ (other : TileState). nat_le t.at other.at) tiles) ≡ true) c.index-tiles-number.is here)
    (λ k below. c.loop-number.invariant k tile below))

pub returns : goal.returns
returns c =
    let tiles = c.args.tiles.now in
    let horizon = c.args.horizon in
    sym (position_is_none (λ (t : TileState). nat_lt t.at horizon && list_all (λ other. nat_le t.at other.at) tiles) tiles (λ k d below. c.loop-number.invariant k d (omega arith)))
