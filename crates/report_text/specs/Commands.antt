-- Commands and their replies as text. Slots are printed as cycles.
use Rattle.std.specs.Prelude.{ℕ, ◌*◌, List, ◌++◌, codes, decimal, Option, Some, None}
use Rattle.std.specs.Option.{option_map_or}
use Rattle.soc_base.specs.declared.label.Label.{Label}
use Rattle.bundle_model.specs.Words.{bundle_rule_text}
use Rattle.bundle_model.specs.declared.resource.Resource.{Resource}
use Rattle.bundle_model.specs.declared.resource.Resource.TheVariants.{Partition, Span, Port, Inject, LinkSlot, Deliver}
use Rattle.script_file.specs.declared.command.Command.{Command}
use Rattle.script_file.specs.declared.command.Command.TheVariants.{Load, Stop, Until}
use Rattle.vep_manager.specs.declared.setup.Setup.{Setup}
use Rattle.vep_manager.specs.declared.reply.Reply.{Reply}
use Rattle.vep_manager.specs.declared.reply.Reply.TheVariants.{Malformed, Past, Taken, Granted, NoLoad, Already, Stopped, Horizon}
use Rattle.vep_manager.specs.declared.reply.Entry.{Entry}
use Rattle.vep_manager.specs.History.{numbered, commands_of}
use Rattle.report_text.specs.Rows.{line_end}

-- a load, as in `2.1`: its session and its number among that session's loads
abbrev pub label_text : Label → List ℕ
label_text label = decimal label.session ++ codes "." ++ decimal label.load

-- a command, as in `load a.toml at 1`: the cycle as it was stated
abbrev pub command_text : Command → List ℕ
command_text (Load name cycle) = codes "load " ++ name ++ codes " at " ++ decimal cycle
command_text (Stop load cycle) = codes "stop " ++ decimal load ++ codes " at " ++ decimal cycle
command_text (Until cycle) = codes "until " ++ decimal cycle

-- two numbers, as in `0 48`
abbrev pub pair_text : ℕ → ℕ → List ℕ
pair_text first second = decimal first ++ codes " " ++ decimal second

-- a resource, as in `span 0 48 64`
abbrev pub resource_text : Resource → List ℕ
resource_text (Partition tile slot) = codes "partition " ++ pair_text tile slot
resource_text (Span tile base len) = codes "span " ++ pair_text tile base ++ codes " " ++ decimal len
resource_text (Port tile port) = codes "port " ++ pair_text tile port
resource_text (Inject tile slot) = codes "inject " ++ pair_text tile slot
resource_text (LinkSlot link slot) = codes "link " ++ pair_text link slot
resource_text (Deliver tile slot) = codes "deliver " ++ pair_text tile slot

-- from when on a resource is free, if its owner has an end
abbrev pub free_text : ℕ → Option ℕ → List ℕ
free_text slot_cycles (Some slot) = decimal (slot * slot_cycles)
free_text slot_cycles None = codes "none"

-- a reply, as in `granted 1.1 at 8` and `taken span 0 48 64 by 1.1 free none`
unfoldable pub reply_text : ℕ → Reply → List ℕ
reply_text slot_cycles (Malformed rule) = codes "malformed " ++ bundle_rule_text rule
reply_text slot_cycles (Past horizon) = codes "past " ++ decimal (horizon * slot_cycles)
reply_text slot_cycles (Taken resource owner free_from) =
    codes "taken " ++ resource_text resource ++ codes " by " ++ label_text owner ++ codes " free "
    ++ free_text slot_cycles free_from
reply_text slot_cycles (Granted label start) =
    codes "granted " ++ label_text label ++ codes " at " ++ decimal (start * slot_cycles)
reply_text slot_cycles NoLoad = codes "no load"
reply_text slot_cycles (Already end) = codes "already " ++ decimal (end * slot_cycles)
reply_text slot_cycles (Stopped label end) =
    codes "stopped " ++ label_text label ++ codes " at " ++ decimal (end * slot_cycles)
reply_text slot_cycles (Horizon horizon) = codes "horizon " ++ decimal (horizon * slot_cycles)

-- the command that an entry is of
abbrev pub entry_command_text : Setup → Entry → List ℕ
entry_command_text setup entry =
    option_map_or command_text (numbered (commands_of setup entry.session) entry.index) (codes "")

-- an entry of the history: session, number, command and reply, as in
-- `command 1 1 load a.toml at 1: granted 1.1 at 8`
unfoldable pub entry_text : Setup → Entry → List ℕ
entry_text setup entry =
    codes "command " ++ pair_text entry.session entry.index ++ codes " " ++ entry_command_text setup entry
    ++ codes ": " ++ reply_text setup.world.platform.slot_cycles entry.reply ++ line_end
