use Rattle.std.proofs.Common.{None, ap, slice_set, arith, ◌∙◌, get_or}
use Rattle.std.proofs.lemmas.List.Edits.{map_over_more}
use Rattle.std.proofs.lemmas.List.{get_or_default}
use Rattle.comik.specs.Kernel.{without}
use Rattle.comik.proofs.owner.free.Goals as goal

pub loop-owner-preserved : goal.loop-owner-preserved
loop-owner-preserved c =
    let owners = c.loop-owner.owners in
    let i = c.loop-owner.owner-index in
    let x = get_or owners i None in
    let read = get_or_default owners i None x (omega arith) in
    ap (slice_set owners i) c.without.ensures ∙ map_over_more (without c.args.part) c.args.owners.now owners i x (omega arith) c.loop-owner.invariant read
