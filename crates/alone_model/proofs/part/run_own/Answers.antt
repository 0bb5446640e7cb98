use Rattle.soc_base.specs.Steps.{after_steps}
use Rattle.part_model.specs.Part.{part_cycle}
use Rattle.alone_model.proofs.OwnPorts.{are_own, own_runs}
use Rattle.alone_model.proofs.part.run_own.Goals as goal

pub run-requires-clause-own : goal.run-requires-clause-own
run-requires-clause-own c = are_own c.args.part.now.ports.now c.args.part.now.map.now c.requires.numbered

pub returns-clause-state : goal.returns-clause-state
returns-clause-state c =
    own_runs c.args.part.now c.run.new.self (after_steps (part_cycle c.args.costs.now c.args.place) c.args.from c.args.count)
    c.run.ensures.rest c.requires.numbered c.run.ensures.view
