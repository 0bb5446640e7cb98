-- The command `run`: which files it reads, the setup that they give, and what it writes.
use Rattle.std.specs.Prelude.{◌≡◌, ℕ, zero, suc, ◌-◌, Bool, List, [], ◌∷◌, ◌++◌, length, map, fold, if◌then◌else◌, Some, Option}
use Rattle.soc_base.specs.declared.limits.TheConstants.{MOST_COMMANDS}
use Rattle.soc_base.specs.Time.{slot_up_of}
use Rattle.soc_io.specs.Reading.{Held}
use Rattle.platform_model.specs.declared.platform.Platform.{Platform}
use Rattle.bundle_model.specs.Sets.{names}
use Rattle.script_file.specs.declared.command.Command.{Command}
use Rattle.vep_manager.specs.declared.setup.Setup.{Setup}
use Rattle.vep_manager.specs.declared.reply.Entry.{Entry}
use Rattle.vep_manager.specs.Legal.{IsLegal, IsComplete, IsRoundRobin}
use Rattle.vep_manager.specs.Loads.{loaded_names}
use Rattle.report_text.specs.Report.{IsReport}
use Rattle.command_words.specs.declared.request.RunWords.{RunWords}
use Rattle.command_words.specs.declared.request.Request.TheVariants.{Run}
use Rattle.command_words.specs.Request.{asked_of}
use Rattle.soc_top.specs.Exchange.{Exchange}
use Rattle.soc_top.specs.Wants.{Input}
use Rattle.soc_top.specs.Wants.Want.{PlatformWant, ScriptWant, JudgedWant}
use Rattle.soc_top.specs.Wants.Input.{PlatformRead, ScriptRead, BundleRead}
use Rattle.soc_top.specs.Order.{Order, AreRead}
use Rattle.soc_top.specs.Order.Order.{Next, Whole}
use Rattle.soc_top.specs.Answers.{Answers}

-- the names with one more, unless it is among them
abbrev pub with_name : List (List ℕ) → List ℕ → List (List ℕ)
with_name known name = if names known name then known else known ++ name ∷ []

-- the bundle files that commands name, each once, in the order of their first naming
abbrev pub bundle_names : List Command → List (List ℕ)
bundle_names commands = fold with_name [] (loaded_names commands)

-- bundle files, one after another; one that breaks a rule is judged so, and refuses nothing
abbrev pub bundles_order : Platform → List (List ℕ) → Order
bundles_order platform [] = Whole
bundles_order platform (name ∷ names) = Next (JudgedWant platform name) (λ bundle. bundles_order platform names)

-- the commands of a script that was read
abbrev pub commands_in : Input → List Command
commands_in (PlatformRead platform) = []
commands_in (ScriptRead script) = script.commands
commands_in (BundleRead named) = []

-- the scripts of these names after others with these commands, each with room for what those before it
-- leave of 256 commands, and then the bundle files that all of them name
abbrev pub scripts_order : Platform → List (List ℕ) → List Command → Order
scripts_order platform [] commands = bundles_order platform (bundle_names commands)
scripts_order platform (name ∷ names) commands = Next (ScriptWant name (MOST_COMMANDS - length commands))
    (λ script. scripts_order platform names (commands ++ commands_in script))

-- after the platform, the scripts
abbrev pub after_platform : RunWords → Input → Order
after_platform request (PlatformRead platform) = scripts_order platform request.scripts []
after_platform request (ScriptRead script) = Whole
after_platform request (BundleRead named) = Whole

-- the platform is read and judged first; then each script; then each bundle
abbrev pub run_order : RunWords → Order
run_order request = Next (PlatformWant request.platform) (after_platform request)

-- what the files of a setup gave: its platform, the scripts of its sessions in order, its bundle files
abbrev pub inputs_of : Setup → List Input
inputs_of setup =
    PlatformRead setup.world.platform ∷ (map ScriptRead setup.scripts ++ map BundleRead setup.world.catalog)

-- the run of a setup ends at the slot granted for the budget
abbrev pub EndsAt : RunWords → Setup → Type 0
EndsAt request setup = setup.budget ≡ slot_up_of request.budget setup.world.platform.slot_cycles

-- all files of a request were read, and this is its setup
abbrev pub GivesSetup : Option Held → RunWords → Setup → Type 0
GivesSetup told request setup =
    AreRead told (run_order request) (inputs_of setup) × EndsAt request setup

-- the text is the report of a history of a setup that is one of these (`Kept`), each application's rows and
-- parts being the trace that it has alone, with the state of the tiles or without it
abbrev pub IsReportOf : (Setup → List Entry → Type 0) → Setup → Bool → List ℕ → Type 0
IsReportOf Kept setup state text = (history : List Entry) × Kept setup history × IsReport setup history state text

-- the report, by what the files gave: a setup, of which its own type says what its loads are
abbrev pub RunTexts : (Setup → List Entry → Type 0) → RunWords → List Input → List ℕ → Type 0
RunTexts Kept request inputs text =
    (setup : Setup) × (inputs ≡ inputs_of setup) × EndsAt request setup × IsReportOf Kept setup request.state text

-- which histories a run may have. On one thread alone (no workers) it is the legal one of all commands in
-- rounds; where each session is a thread it is any legal one of all commands, whatever the number of workers.
abbrev pub IsHistoryBy : ℕ → Setup → List Entry → Type 0
IsHistoryBy zero setup history = IsRoundRobin setup history
IsHistoryBy (suc workers) setup history = IsLegal setup history × IsComplete setup history

-- how a request to run may end with a status, where its history is one of these
abbrev pub RunAnswersBy : (Setup → List Entry → Type 0) → Exchange → RunWords → ℕ → Type 0
RunAnswersBy Kept e request status = Answers e (run_order request) (RunTexts Kept request) status

-- the same, by how many workers are asked for
abbrev pub RunAnswers : Exchange → RunWords → ℕ → Type 0
RunAnswers e request status = RunAnswersBy (IsHistoryBy request.workers) e request status

-- the same, where the words ask for one
abbrev pub AnswersRun : Exchange → List (List ℕ) → ℕ → Type 0
AnswersRun e words status = (request : RunWords) → asked_of words ≡ Some (Run request) → RunAnswers e request status
