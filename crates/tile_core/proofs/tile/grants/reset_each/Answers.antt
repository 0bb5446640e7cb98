use Rattle.std.proofs.Common.{◌≡◌, ◌<◌, [], length, drop, ap, ◌∙◌, arith}
use Rattle.std.proofs.lemmas.List.{length-set, drop_all}
use Rattle.std.proofs.lemmas.List.Elements.{All-set}
use Rattle.soc_base.specs.Port.{empty_port}
use Rattle.ni_port.specs.SizedPort.{SizedPort}
use Rattle.tile_core.proofs.Resets.{reset_is, reset_step, reset_all}
use Rattle.tile_core.proofs.tile.grants.reset_each.Goals as goal

pub loop-number-preserved : goal.loop-number-preserved
loop-number-preserved c =
    let l = c.loop-number in
    let queue = c.args.queue in
    let port : SizedPort = record { queue = queue; port = empty_port c.args.credit } in
    let below : c.loop-number.number-index < length c.args.numbers.now = omega arith in
    let inside : c.from.result < length c.loop-number.ports =
    let low = c.requires.numbers c.loop-number.number-index 0 below in omega arith in
    let is : c.reset.new.self ≡ port = reset_is queue c.args.credit l.ports c.from.result _ c.reset.new.self l.invariant.queues inside c.reset.ensures in
    record {
      rest = reset_step port c.args.numbers.now c.args.ports.now l.ports l.number-index c.from.result c.reset.new.self below c.from.ensures is l.invariant.rest;
      size = length-set l.ports c.from.result c.reset.new.self ∙ l.invariant.size;
      queues = All-set (λ (p : SizedPort). p.queue ≡ queue) l.ports c.from.result c.reset.new.self (ap (λ (p : SizedPort). p.queue) is) l.invariant.queues;
    }

pub returns : goal.returns
returns c =
    let port : SizedPort = record { queue = c.args.queue; port = empty_port c.args.credit } in
    let none : drop c.loop-number.number-index c.args.numbers.now ≡ [] = drop_all c.loop-number.number-index c.args.numbers.now (omega arith) in
    reset_all port c.args.numbers.now _ c.args.ports.now c.loop-number.ports none c.loop-number.invariant.rest
