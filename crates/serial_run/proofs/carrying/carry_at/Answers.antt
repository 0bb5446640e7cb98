use Rattle.std.proofs.Common.{refl}
use Rattle.std.proofs.lemmas.Option.{slice_get-get_or, get_or_from_slice_get}
use Rattle.serial_run.specs.inner.Carrying.{Carries}
use Rattle.serial_run.proofs.Parting.{moved}
use Rattle.serial_run.proofs.carrying.carry_at.Goals as goal

pub line_and_carry-requires : goal.line_and_carry-requires
line_and_carry-requires c =
    c.requires.can _ _ (slice_get-get_or c.args.outs.now c.args.out c.index-outs-out.result c.requires.out)
    (slice_get-get_or c.args.ins.now c.args.input c.index-ins-input.result c.requires.input)

pub returns : goal.returns
returns c = record {
  sender = c.line_and_carry.new.sender;
  receiver = c.line_and_carry.new.receiver;
  outs_are = refl;
  ins_are = refl;
  carries = λ s r at_s at_r.
      moved (λ s r. Carries s c.line_and_carry.new.sender r c.line_and_carry.new.receiver) _ _ s r
      (get_or_from_slice_get c.args.outs.now c.args.out s c.index-outs-out.result at_s)
      (get_or_from_slice_get c.args.ins.now c.args.input r c.index-ins-input.result at_r) c.line_and_carry.ensures;
}
