use Rattle.std.proofs.Common.{arith}
use Rattle.vep_manager.proofs.SetupLemmas.{command_loads, command_number}
use Rattle.vep_manager.proofs.loads.add_session.Goals as goal

pub loop-command-preserved : goal.loop-command-preserved
loop-command-preserved c =
    let before = c.loop-command.invariant in
    let number = command_number c.loop-command.load c.in_ok-load.load c.loop-command.command-index c.args.commands.now
    c.command-item.result (omega arith) c.command-item.is before.1 before.2 c.in_ok-load.ensures.next in (
      command_loads c.args.catalog.now c.args.session c.loop-command.load c.loop-command.command-index
          c.args.commands.now c.command-item.result c.args.loads.now.items c.loop-command.loads.items
          c.add_command.new.loads.items (omega arith) c.command-item.is before.1 before.0 c.in_ok-load.ensures.added,
      number.0,
      number.1,
    )
