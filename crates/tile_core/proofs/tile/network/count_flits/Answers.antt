use Rattle.std.proofs.Common.{◌≡◌, ℕ, List, get_or, sym, ap, ◌∙◌, arith}
use Rattle.std.proofs.lemmas.List.{take_all}
use Rattle.soc_base.specs.Port.{WordAndCredits}
use Rattle.tile_core.specs.Slot.{counted}
use Rattle.tile_core.proofs.Counts.{count_after, uncounted, counted_step}
use Rattle.tile_core.proofs.tile.network.count_flits.Goals as goal

pub after_flit-requires : goal.after_flit-requires
after_flit-requires c =
    let read : get_or c.loop-out.carried c.loop-out.out 0 ≡ get_or c.args.carried.now c.loop-out.out 0 =
    ap (λ (cs : List ℕ). get_or cs c.loop-out.out 0) c.loop-out.invariant ∙ uncounted c.args.links.now c.args.carried.now c.loop-out.out 0 in
    let low = c.requires c.loop-out.out 0 (omega arith) in
    omega arith

pub loop-out-preserved : goal.loop-out-preserved
loop-out-preserved c =
    counted_step c.args.links.now c.args.carried.now c.loop-out.carried c.loop-out.out c.after_flit.result c.index-links-out.result (omega arith) (omega arith) c.loop-out.invariant c.index-links-out.is
    (c.after_flit.ensures ∙ ap (count_after (get_or c.loop-out.carried c.loop-out.out 0)) (sym c.index-links-out.is))

pub returns : goal.returns
returns c =
    c.loop-out.invariant ∙ ap (λ (links : List WordAndCredits). counted links c.args.carried.now) (take_all c.loop-out.out c.args.links.now (omega arith))
