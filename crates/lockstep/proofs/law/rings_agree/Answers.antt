use Rattle.lockstep.proofs.Rings.{ring_tiles_agree, ring_flits_agree}
use Rattle.lockstep.proofs.law.rings_agree.Goals as goal

pub returns : goal.returns
returns g c = record { tile = ring_tiles_agree; link = ring_flits_agree }
