-- Why a request is refused, as a line and a status.
use Rattle.std.specs.Prelude.{ℕ, List, ◌++◌, codes, decimal}
use Rattle.script_file.specs.Words.{script_rule_text}
use Rattle.script_file.specs.declared.rules.ScriptFault.{ScriptFault}
use Rattle.script_file.specs.declared.rules.ScriptFault.TheVariants.{Line, TooMany, NoMemory as NoScriptMemory}
use Rattle.report_text.specs.Rows.{line_end}
use Rattle.bundle_model.specs.Words.{bundle_rule_text}
use Rattle.soc_top.specs.declared.fault.TopFault.{TopFault}
use Rattle.soc_top.specs.declared.fault.TopFault.TheVariants.{Platform, ScriptTooLong, Script, Bundle, Absent, Read, NoMemory}
use Rattle.soc_top.specs.declared.ending.Ending.{Ending}
use Rattle.soc_top.specs.declared.ending.Ending.TheVariants.{Done, Unwritten, Refused}
use Rattle.platform_model.specs.Words.{platform_rule_text}

-- what is wrong with a script, as in ` line 3 S1`. No refusal names want of memory as a fault of a script.
abbrev pub script_fault_text : ScriptFault → List ℕ
script_fault_text (Line number rule) = codes " line " ++ decimal number ++ codes " " ++ script_rule_text rule
script_fault_text TooMany = codes " too many"
script_fault_text NoScriptMemory = codes " no memory"

-- what is printed where a request is refused, as in `compsoc: script s.txt line 3 S1`
unfoldable pub fault_line : TopFault → List ℕ
fault_line (Platform rule) = codes "compsoc: platform " ++ platform_rule_text rule ++ line_end
fault_line (ScriptTooLong name) = codes "compsoc: script " ++ name ++ codes " too long" ++ line_end
fault_line (Script name fault) = codes "compsoc: script " ++ name ++ script_fault_text fault ++ line_end
fault_line (Bundle name rule) = codes "compsoc: bundle " ++ name ++ codes " " ++ bundle_rule_text rule ++ line_end
fault_line (Absent name) = codes "compsoc: absent " ++ name ++ line_end
fault_line (Read name) = codes "compsoc: read " ++ name ++ line_end
fault_line NoMemory = codes "compsoc: memory" ++ line_end

-- the status of a refusal
abbrev pub fault_status : TopFault → ℕ
fault_status (Platform rule) = 2
fault_status (ScriptTooLong name) = 3
fault_status (Script name fault) = 3
fault_status (Bundle name rule) = 3
fault_status (Absent name) = 4
fault_status (Read name) = 5
fault_status NoMemory = 7

-- the status that a request ends with
abbrev pub ending_status : Ending → ℕ
ending_status Done = 0
ending_status Unwritten = 6
ending_status (Refused fault) = fault_status fault

-- what is printed where the words ask for nothing
abbrev pub usage_line : List ℕ
usage_line = codes "compsoc: usage\n"
