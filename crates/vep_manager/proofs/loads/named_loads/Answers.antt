use Rattle.std.proofs.Common.{List, ap, ◌∙◌, ◌++◌, arith}
use Rattle.script_file.specs.declared.command.Command.{Command}
use Rattle.vep_manager.specs.Loads.{loads_from, loaded_names}
use Rattle.vep_manager.proofs.SetupLemmas.{script_loads}
use Rattle.vep_manager.proofs.loads.named_loads.Goals as goal

pub loop-script-preserved : goal.loop-script-preserved
loop-script-preserved c =
    let before = c.loop-script.invariant in
    let added = λ (commands : List Command). c.loop-script.loads.items
    ++ loads_from c.args.catalog.now c.loop-script.session 1 (loaded_names commands) in (
      script_loads c.args.catalog.now c.loop-script.session c.loop-script.script-index c.args.scripts.now
          c.script-item.result c.loop-script.loads.items c.add_session.new.loads.items (omega arith) c.script-item.is
          before.1 before.0 (c.in_ok-add_session.ensures ∙ ap added c.as_slice.ensures),
      omega arith,
    )
