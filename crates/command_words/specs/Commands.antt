-- The commands of the program, as `clap` reads the words after the command's own.
use Rattle.std.specs.Prelude.{ℕ, List, [], ◌∷◌, codes, true, Some}
use Rattle.clap.specs.Words.{App, Rule, new_app, new_rule, with_rule}
use Rattle.clap.specs.declared.builder.action.ArgAction.TheVariants.{Set, SetTrue, Append}
use Rattle.soc_base.specs.declared.limits.TheConstants.{MOST_SCRIPTS}
use Rattle.command_words.specs.declared.request.TheConstants.{MOST_CHECKED}

-- an argument that has to be given, by its place
abbrev pub required_rule : List ℕ → Rule
required_rule id = record (new_rule id) { required = true; action = Some Set }

-- an argument that has to be given, of one to so many words
abbrev pub several_rule : List ℕ → ℕ → Rule
several_rule id most = record (new_rule id) {
  required = true;
  action = Some Append;
  range = Some (record { start_inclusive = 1; end_inclusive = most });
}

-- `--workers N`, 2 where it isn't given
abbrev pub workers_rule : Rule
workers_rule = record (new_rule (codes "workers")) {
  long = Some (codes "workers");
  action = Some Set;
  defaults = codes "2" ∷ [];
}

-- `--state`
abbrev pub state_rule : Rule
state_rule = record (new_rule (codes "state")) {
  long = Some (codes "state");
  action = Some SetTrue;
}

-- `run PLATFORM BUDGET SCRIPT.. [--workers N] [--state]`
unfoldable pub run_app : App
run_app =
    with_rule (with_rule (with_rule (with_rule (with_rule (new_app (codes "run"))
    (required_rule (codes "platform"))) (required_rule (codes "budget")))
    (several_rule (codes "script") MOST_SCRIPTS)) workers_rule) state_rule

-- `alone PLATFORM BUNDLE START BUDGET`
unfoldable pub alone_app : App
alone_app =
    with_rule (with_rule (with_rule (with_rule (new_app (codes "alone"))
    (required_rule (codes "platform"))) (required_rule (codes "bundle")))
    (required_rule (codes "start"))) (required_rule (codes "budget"))

-- `check PLATFORM BUNDLE..`
unfoldable pub check_app : App
check_app =
    with_rule (with_rule (new_app (codes "check")) (required_rule (codes "platform")))
    (several_rule (codes "bundle") MOST_CHECKED)

-- `generate NUMBER`
unfoldable pub generate_app : App
generate_app = with_rule (new_app (codes "generate")) (required_rule (codes "number"))
