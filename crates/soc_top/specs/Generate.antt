-- The command `generate`: a run of the workload of a number, and its summary.
use Rattle.std.specs.Prelude.{◌≡◌, ℕ, List, [], codes, false, fold, map, Option, Some}
use Rattle.soc_io.specs.Reading.{Held, with_file}
use Rattle.workload.specs.declared.texts.NamedText.{NamedText}
use Rattle.workload.specs.declared.texts.Texts.{Texts}
use Rattle.workload.specs.Texts.{AreTexts}
use Rattle.vep_manager.specs.declared.setup.Setup.{Setup}
use Rattle.vep_manager.specs.declared.reply.Entry.{Entry}
use Rattle.vep_manager.specs.Legal.{IsRoundRobin}
use Rattle.report_text.specs.Summary.{IsSummary}
use Rattle.command_words.specs.declared.request.RunWords.{RunWords}
use Rattle.command_words.specs.declared.request.Request.TheVariants.{Generate}
use Rattle.command_words.specs.Request.{asked_of}
use Rattle.soc_top.specs.declared.ending.Ending.{Ending}
use Rattle.soc_top.specs.Exchange.{Exchange}
use Rattle.soc_top.specs.Faults.{ending_status}
use Rattle.soc_top.specs.Answers.{Concludes}
use Rattle.soc_top.specs.Run.{GivesSetup}

-- the name under which a workload's platform file is read
abbrev pub platform_name : List ℕ
platform_name = codes "platform.toml"

-- files with more files, each by its name
abbrev pub with_files : Held → List NamedText → Held
with_files held named = fold (λ held file. with_file held file.name file.text) held named

-- the files of a workload: its platform file, its bundle files and its scripts
abbrev pub files_of : Texts → Held
files_of texts = with_files (with_files (with_file [] platform_name texts.platform) texts.bundles) texts.scripts

-- how a workload is run: its platform, its scripts, to its last cycle
abbrev pub workload_words : Texts → RunWords
workload_words texts = record {
  platform = platform_name;
  budget = texts.budget;
  scripts = map (λ file. file.name) texts.scripts;
  workers = 0;
  state = false;
}

-- the setup of the workload of a number: its texts are read as the files of a run are
pub record IsWorkload (number : ℕ) (setup : Setup) : Type 0 where
  pub texts : Texts
  pub are_texts : AreTexts number texts
  pub is_read : GivesSetup (Some (files_of texts)) (workload_words texts) setup

-- the summary of a number: that of its workload's setup, whose sessions commit in rounds
pub record IsSummaryOf (number : ℕ) (text : List ℕ) : Type 0 where
  pub setup : Setup
  pub is_setup : IsWorkload number setup
  pub history : List Entry
  pub in_rounds : IsRoundRobin setup history
  pub is_summary : IsSummary number setup history text

-- how a request for a workload may end with a status: its summary is written, a write of it fails, or memory is
-- wanted (0, 6 or 7). `old` and `new` are what the sink tells of what was written before and after, `before` and
-- `now` the count of its faults.
pub record GenerateAnswers (old : Option (List ℕ)) (before : ℕ) (new : Option (List ℕ)) (now : ℕ) (number : ℕ)
    (status : ℕ) : Type 0 where
  pub ending : Ending
  pub is_status : status ≡ ending_status ending
  pub ends : Concludes (IsSummaryOf number) old before new now ending

-- the same, where the words ask for one
abbrev pub AnswersGenerate : Exchange → List (List ℕ) → ℕ → Type 0
AnswersGenerate e words status =
    (number : ℕ) → asked_of words ≡ Some (Generate number)
    → GenerateAnswers e.written e.write_faults e.written_now e.write_faults_now number status
