use Rattle.std.proofs.Common.{List, get_or, sym, subst, ◌∙◌, arith}
use Rattle.std.proofs.lemmas.Option.{slice_get-get_or, slice_get_within}
use Rattle.tile_core.specs.Station.{StationState}
use Rattle.serial_run.specs.inner.Hops.{HasEnds, AllHaveEnds, all_ends}
use Rattle.serial_run.proofs.CarriedAll.{no_hop, seen_more, line_more, carried_more}
use Rattle.serial_run.proofs.Ends.{can_carry}
use Rattle.serial_run.proofs.carrying.carry_all.Goals as goal

pub carry_link-requires : goal.carry_link-requires
carry_link-requires c =
    let (seen, line, carried) = c.loop-number.invariant in
    let at = slice_get-get_or c.args.hops.now c.loop-number.number no_hop (omega arith) in
    let Has = λ (states : List StationState). HasEnds (all_ends states) c.loop-number.number
    (get_or c.args.hops.now c.loop-number.number no_hop) in
    can_carry c.loop-number.stations c.loop-number.number _
    (subst Has (sym seen) (c.requires.ends c.loop-number.number _ at)) c.args.in_line
    (λ known. line known c.loop-number.number _ at)

pub loop-number-preserved : goal.loop-number-preserved
loop-number-preserved c =
    let (seen, line, carried) = c.loop-number.invariant in
    let hops = c.args.hops.now in
    let number = c.loop-number.number in
    let old = c.loop-number.stations in
    let new = c.carry_link.new.stations in
    let at = slice_get-get_or hops number no_hop (omega arith) in
    let Has = λ (states : List StationState). AllHaveEnds (all_ends states) hops in
    let has = subst Has (sym seen) c.requires.ends in (
      seen_more hops number _ at old new has c.carry_link.ensures ∙ seen,
      λ known. line_more hops number _ at old new has c.carry_link.ensures (line known),
      carried_more hops number _ at old new has c.carry_link.ensures carried,
    )

pub returns-clause-carried : goal.returns-clause-carried
returns-clause-carried c =
    let (seen, line, carried) = c.loop-number.invariant in
    λ number hop at. carried number hop (let inside = slice_get_within c.args.hops.now number hop at in omega arith) at
