use Rattle.std.proofs.Common.{◌∙◌, ap, sym}
use Rattle.turn_lock.proofs.line.Line.leave.Goals as goal

pub pass_on-requires-clause-same : goal.pass_on-requires-clause-same
pass_on-requires-clause-same g c =
    let held = c.put_back.ensures.held in
    let (ticket, turn) = c.requires.turn in (
      ticket,
      _,
      c.args.value,
      ap (λ m. m.1) held,
      ap (λ m. m.0.stage) held ∙ turn,
      c.requires.base,
      c.requires.entries ∙ sym (ap (λ m. m.0.seen) held),
    )
