use Rattle.std.proofs.Common.{set, slice_get, refl, sym, ap, ◌∙◌}
use Rattle.std.proofs.lemmas.List.{length-set}
use Rattle.serial_run.proofs.Parting.{refilled}
use Rattle.serial_run.proofs.carrying.carry_stations.Goals as goal

pub carry_at-requires-clause-can : goal.carry_at-requires-clause-can
carry_at-requires-clause-can c = λ s r at_s at_r.
    c.requires.can s r (ap (λ xs. slice_get xs c.args.hop.out) (sym c.as_mut_slice.ensures.value) ∙ at_s)
    (ap (λ xs. slice_get xs c.args.hop.input) (sym c.as_mut_slice-2.ensures.value) ∙ at_r)

pub returns : goal.returns
returns c =
    let outs = c.args.sender.now.outs.items in
    let ins = c.args.receiver.now.ins.items in
    let at = c.carry_at.ensures in record {
      carries = record {
        sender = at.sender;
        receiver = at.receiver;
        outs_are = refilled c.args.sender.now.outs.len c.carry_at.new.outs outs (set outs c.args.hop.out at.sender)
            (at.outs_are ∙ ap (λ xs. set xs c.args.hop.out at.sender) c.as_mut_slice.ensures.value)
            (length-set outs c.args.hop.out at.sender) c.args.sender.now.outs.ok.0;
        ins_are = refilled c.args.receiver.now.ins.len c.carry_at.new.ins ins
            (set ins c.args.hop.input at.receiver)
            (at.ins_are ∙ ap (λ xs. set xs c.args.hop.input at.receiver) c.as_mut_slice-2.ensures.value)
            (length-set ins c.args.hop.input at.receiver) c.args.receiver.now.ins.ok.0;
        carries = λ s r at_s at_r.
            at.carries s r (ap (λ xs. slice_get xs c.args.hop.out) c.as_mut_slice.ensures.value ∙ at_s)
            (ap (λ xs. slice_get xs c.args.hop.input) c.as_mut_slice-2.ensures.value ∙ at_r);
      };
      sender_tile = refl;
      sender_ins = refl;
      receiver_tile = refl;
      receiver_outs = refl;
    }
