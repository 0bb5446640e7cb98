use Rattle.std.proofs.Common.{◌≡◌, length, ap, arith}
use Rattle.flit_link.specs.declared.ends.LinkOut.{LinkOut}
use Rattle.flit_link.specs.declared.ends.LinkIn.{LinkIn}
use Rattle.flit_link.specs.Link.{flits_set, flits_taken, flits_known, sending, receiving}
use Rattle.serial_run.proofs.Counting.{counted, carried, cleared, some_by_count, none_by_count, latched_some, latched_none}
use Rattle.serial_run.proofs.carrying.carry.Goals as goal

pub returns-clause-carried : goal.returns-clause-carried
returns-clause-carried c =
    let into = c.args.receiver.now.end in
    let out = c.args.sender.now.end in
    let count = counted out into c.requires.line in
    let set : length (flits_set c.carry.new.out) ≡ length (flits_set out) = ap length c.carry.ensures.out in
    let taken : length (flits_taken c.carry.new.self) ≡ length (flits_taken into) = ap length c.carry.ensures.into in
    record {
      line = c.carry.ensures.line;
      waits = λ behind. carried (receiving into) (receiving c.carry.new.self) (sending out) (flits_known into)
          (λ some. ap (λ (e : LinkIn). receiving e) (c.carry.ensures.full some).0)
          (λ flit rest none ring. (c.carry.ensures.oldest flit rest none ring).0)
          (λ none ring. (c.carry.ensures.past none ring).0)
          (λ none ring. some_by_count (sending out)
          (omega (arith, count, behind, set, taken, latched_none (receiving into) none, ap length ring)));
      free = λ ahead. cleared (receiving into) (sending out) (sending c.carry.new.out) (flits_known into)
          (λ some. ap (λ (e : LinkOut). sending e) (c.carry.ensures.full some).1)
          (λ flit rest none ring. ap (λ (e : LinkOut). sending e) (c.carry.ensures.oldest flit rest none ring).2)
          (λ none ring. (c.carry.ensures.past none ring).2)
          (λ some. none_by_count (sending out)
          (omega (arith, count, ahead, set, taken, latched_some (receiving into) some)))
          (λ flit rest none ring. none_by_count (sending out)
          (omega (arith, count, ahead, set, taken, ap length ring)));
    }
