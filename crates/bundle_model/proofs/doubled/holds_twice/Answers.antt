use Rattle.std.proofs.Common.{take}
use Rattle.bundle_model.proofs.Marks.{found_more, marks_more}
use Rattle.bundle_model.proofs.doubled.holds_twice.Goals as goal

pub loop-resource-preserved : goal.loop-resource-preserved
loop-resource-preserved c =
    let list = c.args.list.now in
    let i = c.loop-resource.resource-index in
    let met = take i list in
    record {
      marks = marks_more list i _ c.mark-found.new.marks.items c.loop-resource-test.true (c.mark-found.ensures.marked met c.loop-resource.invariant.marks);
      found = found_more list i _ c.loop-resource.found c.mark-found.result c.loop-resource-test.true c.loop-resource.invariant.found (c.mark-found.ensures.met met c.loop-resource.invariant.marks);
    }
