-- The load commands of a run, by name.
use Rattle.std.specs.Prelude.{ℕ, ◌+◌, List, [], ◌∷◌, ◌++◌, Option, Some, None}
use Rattle.std.specs.List.{filter_map, position_or_len}
use Rattle.std.specs.Str.{bytes_eq}
use Rattle.bundle_model.specs.declared.world.Named.{Named}
use Rattle.bundle_model.specs.declared.world.LoadName.{LoadName}
use Rattle.script_file.specs.declared.command.Command.{Command}
use Rattle.script_file.specs.declared.command.Command.TheVariants.{Load, Stop, Until}
use Rattle.script_file.specs.declared.command.Script.{Script}

-- the place of the first bundle file of a name; the length of the catalog where there is none
abbrev pub catalog_place : List Named → List ℕ → ℕ
catalog_place catalog name = position_or_len (λ named. bytes_eq named.name name) catalog

-- the bundle file that a load command names
abbrev pub loaded_name : Command → Option (List ℕ)
loaded_name (Load name cycle) = Some name
loaded_name (Stop load cycle) = None
loaded_name (Until cycle) = None

-- the names that the load commands of a script name, in their order
abbrev pub loaded_names : List Command → List (List ℕ)
loaded_names commands = filter_map loaded_name commands

-- the loads of a session that names these bundle files, numbered from `number` on
abbrev pub loads_from : List Named → ℕ → ℕ → List (List ℕ) → List LoadName
loads_from catalog session number [] = []
loads_from catalog session number (name ∷ names) =
    record { label = record { session = session; load = number }; bundle = catalog_place catalog name }
    ∷ loads_from catalog session (number + 1) names

-- the loads of a session with these commands
abbrev pub loads_of_session : List Named → ℕ → List Command → List LoadName
loads_of_session catalog session commands = loads_from catalog session 1 (loaded_names commands)

-- the loads of sessions, numbered from `session` on
abbrev pub session_loads : List Named → ℕ → List Script → List LoadName
session_loads catalog session [] = []
session_loads catalog session (script ∷ scripts) =
    loads_of_session catalog session script.commands ++ session_loads catalog (session + 1) scripts

-- each load command of the sessions' scripts, by its session and its number among that session's load
-- commands, both counted from 1, with the catalog's entry of its name
unfoldable pub loads_of : List Named → List Script → List LoadName
loads_of catalog scripts = session_loads catalog 1 scripts
