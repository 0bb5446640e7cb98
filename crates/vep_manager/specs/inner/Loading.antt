-- The loads of one command more.
use Rattle.std.specs.Prelude.{List}
use Rattle.std.specs.Option.{option_to_list}
use Rattle.soc_base.specs.declared.label.Label.{Label}
use Rattle.bundle_model.specs.declared.world.Named.{Named}
use Rattle.bundle_model.specs.declared.world.LoadName.{LoadName}
use Rattle.script_file.specs.declared.command.Command.{Command}
use Rattle.vep_manager.specs.Loads.{loaded_name, loads_from}

-- the load of a command, if it is one, under this label
abbrev pub load_as : List Named → Label → Command → List LoadName
load_as catalog label command = loads_from catalog label.session label.load (option_to_list (loaded_name command))
