use Rattle.std.proofs.Common.{get_or, ap, ◌∙◌, arith}
use Rattle.std.proofs.lemmas.List.{get_or_default}
use Rattle.bundle_model.specs.declared.resource.Resource.{Resource}
use Rattle.bundle_model.specs.declared.resource.Resource.TheVariants.{Partition}
use Rattle.vep_manager.specs.inner.Places.{row_of}
use Rattle.vep_manager.proofs.Holding.{has_room, holds_more}
use Rattle.vep_manager.proofs.owners.hold.Goals as goal

pub put-requires-clause-room : goal.put-requires-clause-room
put-requires-clause-room c =
    let index = c.loop-resource.resource-index in
    let resource : Resource = get_or c.args.list.now index (Partition 0 0) in
    has_room c.args.tiles c.args.list.now index c.args.place c.args.rows.now c.loop-resource.rows resource
    c.row_number-row.result c.loop-resource.invariant (omega arith)
    (get_or_default c.args.list.now index (Partition 0 0) resource (omega arith))
    (c.row_number-row.ensures.row
    ∙ ap (λ k. row_of c.args.tiles k resource) (c.len.ensures ∙ c.loop-resource.invariant.count))
    (omega (arith, c.row_number-row.ensures.within, c.len.ensures, c.loop-resource.invariant.count)) c.requires.fits

pub put-requires-clause-order : goal.put-requires-clause-order
put-requires-clause-order c =
    c.loop-resource.invariant.in_order c.row_number-row.result
    (omega (arith, c.row_number-row.ensures.within, c.len.ensures, c.loop-resource.invariant.count))

pub loop-resource-preserved : goal.loop-resource-preserved
loop-resource-preserved c =
    let index = c.loop-resource.resource-index in
    let resource : Resource = get_or c.args.list.now index (Partition 0 0) in
    holds_more c.args.tiles c.args.list.now index c.args.place c.args.rows.now c.loop-resource.rows resource
    c.row_number-row.result c.loop-resource.invariant (omega arith)
    (get_or_default c.args.list.now index (Partition 0 0) resource (omega arith))
    (c.row_number-row.ensures.row
    ∙ ap (λ k. row_of c.args.tiles k resource) (c.len.ensures ∙ c.loop-resource.invariant.count))
    (omega (arith, c.row_number-row.ensures.within, c.len.ensures, c.loop-resource.invariant.count)) c.put.new.self
    c.put.ensures.rooms c.put.ensures.count c.put.ensures.others c.put.ensures.order c.put.ensures.held
