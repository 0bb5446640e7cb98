use Rattle.serial_run.specs.inner.Carrying.{CarriesStations}
use Rattle.serial_run.proofs.Parting.{part_left, part_right, written_up, written_down, at_both, below}
use Rattle.serial_run.proofs.carrying.carry_link.Goals as goal

pub carry_stations-requires : goal.carry_stations-requires
carry_stations-requires c =
    let split = c.split_at_mut-front in
    let hop = c.args.hop in
    c.requires.can _ _
    (part_left c.args.stations.now split.result.0.now split.result.1.now hop.to hop.from c.index-front-from.result
    split.ensures.value split.ensures.front_len c.if-from-to.true)
    (part_right c.args.stations.now split.result.0.now split.result.1.now hop.to c.index-back-0.result
    split.ensures.value split.ensures.front_len c.requires.to)

pub returns-then-from-to : goal.returns-then-from-to
returns-then-from-to c =
    let split = c.split_at_mut-front in
    let hop = c.args.hop in
    let xs = c.args.stations.now in
    let call = c.carry_stations in record {
      sender = call.new.sender;
      receiver = call.new.receiver;
      stations_are = written_up xs split.result.0.now split.result.1.now hop.from hop.to call.new.sender
          call.new.receiver split.ensures.value split.ensures.front_len c.if-from-to.true;
      carries = λ s r at_s at_r.
          at_both (λ s r. CarriesStations hop s call.new.sender r call.new.receiver) xs hop.from hop.to _ _ s r
          (part_left xs split.result.0.now split.result.1.now hop.to hop.from c.index-front-from.result
          split.ensures.value split.ensures.front_len c.if-from-to.true)
          (part_right xs split.result.0.now split.result.1.now hop.to c.index-back-0.result split.ensures.value
          split.ensures.front_len c.requires.to)
          at_s at_r call.ensures;
    }

pub carry_stations-requires-else-from-to : goal.carry_stations-requires-else-from-to
carry_stations-requires-else-from-to c =
    let split = c.split_at_mut-front-else-from-to in
    let hop = c.args.hop in
    c.requires.can _ _
    (part_right c.args.stations.now split.result.0.now split.result.1.now hop.from c.index-back-0-else-from-to.result
    split.ensures.value split.ensures.front_len c.requires.from)
    (part_left c.args.stations.now split.result.0.now split.result.1.now hop.from hop.to c.index-front-to.result
    split.ensures.value split.ensures.front_len (below hop.to hop.from c.requires.apart c.if-from-to.false))

pub returns-else-from-to : goal.returns-else-from-to
returns-else-from-to c =
    let split = c.split_at_mut-front-else-from-to in
    let hop = c.args.hop in
    let xs = c.args.stations.now in
    let lower = below hop.to hop.from c.requires.apart c.if-from-to.false in
    let call = c.carry_stations-else-from-to in record {
      sender = call.new.sender;
      receiver = call.new.receiver;
      stations_are = written_down xs split.result.0.now split.result.1.now hop.to hop.from call.new.sender
          call.new.receiver split.ensures.value split.ensures.front_len lower;
      carries = λ s r at_s at_r.
          at_both (λ s r. CarriesStations hop s call.new.sender r call.new.receiver) xs hop.from hop.to _ _ s r
          (part_right xs split.result.0.now split.result.1.now hop.from c.index-back-0-else-from-to.result
          split.ensures.value split.ensures.front_len c.requires.from)
          (part_left xs split.result.0.now split.result.1.now hop.from hop.to c.index-front-to.result
          split.ensures.value split.ensures.front_len lower)
          at_s at_r call.ensures;
    }
