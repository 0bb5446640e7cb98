use Rattle.std.proofs.Common.{arith}
use Rattle.live_run.proofs.threads.+fn-serve_from-scope+serve_from.Goals as goal

pub scope-join-requires : goal.scope-join-requires
scope-join-requires g t c = record {
  rests = c.serve_from-pass.ensures.rests;
  other_rests = (c.wait_for-part.ensures _ c.start-started.ensures).0;
}

pub scope-returns : goal.scope-returns
scope-returns g t c =
    let owed = c.wait_for-part.ensures _ c.start-started.ensures in
    let summed = c.join.ensures.share in
    let kept = c.serve_from-pass.ensures.share in
    let given = owed.1 in
    let one = c.requires.4 in
    (c.join.ensures.rests, omega arith)
