-- What the words of a command line ask for.
use Rattle.std.specs.Prelude.{ℕ, ◌<◌, ◌≤◌, ◌^◌, ◌-◌, ◌&&◌, Bool, nat_le, nat_lt, List, [], ◌∷◌, codes, length, slice_get, unwrap_or, if◌then◌else◌, Option, Some, None, Result, Ok, Err}
use Rattle.std.specs.Str.{bytes_eq}
use Rattle.clap.specs.Words.{App, Kinds, Row, first_of, all_of, one_of, fault_of, matches_of}
use Rattle.soc_base.specs.declared.limits.TheConstants.{LAST_STATED_CYCLE, MOST_SCRIPTS}
use Rattle.soc_base.specs.declared.number.NumFault.{NumFault}
use Rattle.soc_base.specs.Text.{number_read}
use Rattle.command_words.specs.declared.request.TheConstants.{MOST_CHECKED, MOST_WORKERS}
use Rattle.command_words.specs.declared.request.AloneWords.{AloneWords}
use Rattle.command_words.specs.declared.request.RunWords.{RunWords}
use Rattle.command_words.specs.declared.request.CheckWords.{CheckWords}
use Rattle.command_words.specs.declared.request.Request.{Request}
use Rattle.command_words.specs.declared.request.Request.TheVariants.{Run, Alone, Check, Generate}
use Rattle.command_words.specs.Commands.{run_app, alone_app, check_app, generate_app}

-- the word of an argument of one word
abbrev pub word_of : List ℕ → List Row → List ℕ
word_of id rows = unwrap_or (first_of id rows) []

-- the words of an argument of several
abbrev pub words_of : List ℕ → List Row → List (List ℕ)
words_of id rows = unwrap_or (all_of id rows) []

-- a flag is set
abbrev pub is_set : List ℕ → List Row → Bool
is_set id rows = bytes_eq (unwrap_or (one_of id rows) []) (codes "true")

-- the cycle that a word states
abbrev pub cycle_of : List ℕ → Result ℕ NumFault
cycle_of word = number_read word LAST_STATED_CYCLE

-- there are from one to so many
abbrev pub are_some : ℕ → List (List ℕ) → Bool
are_some most words = nat_lt 0 (length words) && nat_le (length words) most

-- a run, where its numbers could be read
abbrev pub run_with : List Row → Result ℕ NumFault → Result ℕ NumFault → Option Request
run_with rows (Ok budget) (Ok workers) =
    if are_some MOST_SCRIPTS (words_of (codes "script") rows)
    then Some (Run (record {
      platform = word_of (codes "platform") rows;
      budget = budget;
      scripts = words_of (codes "script") rows;
      workers = workers;
      state = is_set (codes "state") rows;
    }))
    else None
run_with rows (Ok budget) (Err fault) = None
run_with rows (Err fault) workers = None

-- one application alone, where its cycles could be read
abbrev pub alone_with : List Row → Result ℕ NumFault → Result ℕ NumFault → Option Request
alone_with rows (Ok start) (Ok budget) = Some (Alone (record {
  platform = word_of (codes "platform") rows;
  bundle = word_of (codes "bundle") rows;
  start = start;
  budget = budget;
}))
alone_with rows (Ok start) (Err fault) = None
alone_with rows (Err fault) budget = None

-- a workload, where its number could be read
abbrev pub generate_with : Result ℕ NumFault → Option Request
generate_with (Ok number) = Some (Generate number)
generate_with (Err fault) = None

-- what the words of a `run` ask for, by what they give its arguments
unfoldable pub run_in : List Row → Option Request
run_in rows =
    run_with rows (cycle_of (word_of (codes "budget") rows)) (number_read (word_of (codes "workers") rows) MOST_WORKERS)

-- likewise those of an `alone`
unfoldable pub alone_in : List Row → Option Request
alone_in rows =
    alone_with rows (cycle_of (word_of (codes "start") rows)) (cycle_of (word_of (codes "budget") rows))

-- likewise those of a `check`
unfoldable pub check_in : List Row → Option Request
check_in rows =
    if are_some MOST_CHECKED (words_of (codes "bundle") rows)
    then Some (Check (record {
      platform = word_of (codes "platform") rows;
      bundles = words_of (codes "bundle") rows;
    }))
    else None

-- likewise those of a `generate`
unfoldable pub generate_in : List Row → Option Request
generate_in rows = generate_with (number_read (word_of (codes "number") rows) (2 ^ 32 - 1))

-- what words ask for that a command takes, unless `clap` finds a fault in them
abbrev pub unless_faulty : Kinds → Option Request → Option Request
unless_faulty [] request = request
unless_faulty (kind ∷ kinds) request = None

-- what words ask for by a command: `clap` says what they give its arguments
unfoldable pub asked_by : App → (List Row → Option Request) → List (List ℕ) → Option Request
asked_by app meaning words = unless_faulty (fault_of app words) (meaning (matches_of app words))

-- the first word
abbrev pub command_word : List (List ℕ) → List ℕ
command_word words = unwrap_or (slice_get words 0) []

-- what the words ask for: the first chooses the command
unfoldable pub asked_of : List (List ℕ) → Option Request
asked_of words =
    if bytes_eq (command_word words) (codes "run") then asked_by run_app run_in words
    else if bytes_eq (command_word words) (codes "alone") then asked_by alone_app alone_in words
    else if bytes_eq (command_word words) (codes "check") then asked_by check_app check_in words
    else if bytes_eq (command_word words) (codes "generate") then asked_by generate_app generate_in words
    else None

-- a request for one application that words can ask for
abbrev pub IsAloneInForm : AloneWords → Type 0
IsAloneInForm request = (request.start ≤ LAST_STATED_CYCLE) × (request.budget ≤ LAST_STATED_CYCLE)

-- likewise a request to run
abbrev pub IsRunInForm : RunWords → Type 0
IsRunInForm request =
    (request.budget ≤ LAST_STATED_CYCLE) × (0 < length request.scripts) × (length request.scripts ≤ MOST_SCRIPTS)
    × (request.workers ≤ MOST_WORKERS)

-- likewise a request to check
abbrev pub IsCheckInForm : CheckWords → Type 0
IsCheckInForm request = (0 < length request.bundles) × (length request.bundles ≤ MOST_CHECKED)

-- whichever of them it is
abbrev pub AreInForm : Request → Type 0
AreInForm (Run request) = IsRunInForm request
AreInForm (Alone request) = IsAloneInForm request
AreInForm (Check request) = IsCheckInForm request
AreInForm (Generate number) = number < 2 ^ 32
