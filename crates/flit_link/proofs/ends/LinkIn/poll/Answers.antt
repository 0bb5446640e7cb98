use Rattle.flit_link.specs.Packing.{flit_of}
use Rattle.flit_link.proofs.Prefixes.{prefix_popped}
use Rattle.flit_link.proofs.ends.LinkIn.poll.Goals as goal

pub returns-in-Ok-clause-oldest : goal.returns-in-Ok-clause-oldest
returns-in-Ok-clause-oldest c _empty = prefix_popped flit_of c.in-Ok.bits c.unpack_known.result _ _ c.unpack_known.ensures c.in-Ok.ensures.ok.1
