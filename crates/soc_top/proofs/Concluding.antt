-- How a request ends, from what its files gave and how its text was written.
use Rattle.std.proofs.Common.{◌≡◌, ℕ, zero, suc, ◌<◌, Bool, List, [], Option, refl, sym, subst, arith}
use Rattle.soc_io.specs.Reading.{Held}
use Rattle.vep_manager.specs.declared.setup.Setup.{Setup}
use Rattle.vep_manager.specs.declared.reply.Entry.{Entry}
use Rattle.platform_model.specs.declared.platform.Platform.{Platform}
use Rattle.bundle_model.specs.declared.world.Named.{Named}
use Rattle.command_words.specs.declared.request.AloneWords.{AloneWords}
use Rattle.command_words.specs.declared.request.CheckWords.{CheckWords}
use Rattle.command_words.specs.declared.request.RunWords.{RunWords}
use Rattle.soc_top.specs.declared.inputs.Inputs.{Inputs}
use Rattle.soc_top.specs.declared.fault.TopFault.TheVariants.{NoMemory}
use Rattle.soc_top.specs.declared.ending.Ending.{Ending}
use Rattle.soc_top.specs.declared.ending.Ending.TheVariants.{Done, Unwritten, Refused}
use Rattle.soc_top.specs.Wants.{Input}
use Rattle.soc_top.specs.Wants.Want.{PlatformWant}
use Rattle.soc_top.specs.Order.{Order, AreRead, Cause}
use Rattle.soc_top.specs.Answers.{Texts, Ends, Concludes}
use Rattle.soc_top.specs.Alone.{bundle_order, alone_order, alone_inputs, IsAloneText, AloneTexts}
use Rattle.report_text.specs.Report.{IsReport}
use Rattle.vep_manager.specs.Legal.{IsLegal, IsComplete}
use Rattle.soc_top.specs.Run.{run_order, inputs_of, GivesSetup, IsHistoryBy, IsReportOf, RunTexts}
use Rattle.soc_top.specs.Check.{checked_order, check_order, check_inputs, verdicts_text, CheckTexts}
use Rattle.soc_top.proofs.Exchanges.{exchange_of}
use Rattle.soc_top.proofs.Turns.{run_memory}

-- How the readings and the writings of a request went: what files and sink hold, and their counts of faults,
-- before and after.
module _ (told : Option Held) (read read_now : ℕ) (old new : Option (List ℕ)) (before now : ℕ) where
  -- by the inputs that the files gave, of which each text that the ending tells of is made
  ended : (order : Order) (texts : Texts) (IsText : List ℕ → Type 0) (inputs : List Input) (ending : Ending)
      → AreRead told order inputs → ((text : List ℕ) → IsText text → texts inputs text)
      → Cause told read read_now order NoMemory → Concludes IsText old before new now ending
      → Ends (exchange_of told read read_now old new before now) order texts ending
  ended order texts IsText inputs Done gives makes memory (text, is, written) =
      (text, (inputs, gives, makes text is), written)
  ended order texts IsText inputs Unwritten gives makes memory (text, is, front, rose) =
      (text, (inputs, gives, makes text is), front, rose)
  ended order texts IsText inputs (Refused fault) gives makes memory (is, says) =
      (subst (Cause told read read_now order) (sym is) memory, says)

  pub alone_ended : (request : AloneWords) (inputs : Inputs) (ending : Ending)
      → AreRead told (alone_order request) (alone_inputs request inputs.platform inputs.bundle)
      → Concludes (IsAloneText request inputs.platform inputs.bundle) old before new now ending
      → Ends (exchange_of told read read_now old new before now) (alone_order request) (AloneTexts request) ending
  alone_ended request inputs ending gives concludes =
      ended (alone_order request) (AloneTexts request) (IsAloneText request inputs.platform inputs.bundle)
      (alone_inputs request inputs.platform inputs.bundle) ending gives
      (λ text is. (inputs.platform, (inputs.bundle, refl, is)))
      (PlatformWant request.platform, ([], (bundle_order request, refl)), tt) concludes

  pub run_ended : (Kept : Setup → List Entry → Type 0) (request : RunWords) (setup : Setup) (ending : Ending)
      → GivesSetup told request setup → Concludes (IsReportOf Kept setup request.state) old before new now ending
      → Ends (exchange_of told read read_now old new before now) (run_order request) (RunTexts Kept request) ending
  run_ended Kept request setup ending gives concludes =
      ended (run_order request) (RunTexts Kept request) (IsReportOf Kept setup request.state) (inputs_of setup) ending
      gives.0 (λ text is. (setup, refl, gives.1, is)) (run_memory told read read_now request) concludes

  pub check_ended : (request : CheckWords) (platform : Platform) (catalog : List Named) (ending : Ending)
      → AreRead told (check_order request) (check_inputs platform catalog)
      → Concludes (λ text. text ≡ verdicts_text catalog request) old before new now ending
      → Ends (exchange_of told read read_now old new before now) (check_order request) (CheckTexts request) ending
  check_ended request platform catalog ending gives concludes =
      ended (check_order request) (CheckTexts request) (λ text. text ≡ verdicts_text catalog request)
      (check_inputs platform catalog) ending gives (λ text is. (platform, (catalog, refl, is)))
      (PlatformWant request.platform, ([], (checked_order request, refl)), tt) concludes

-- a report that was written is one of a history that is kept
pub reported : (Kept : Setup → List Entry → Type 0) (setup : Setup) (state : Bool) (history : List Entry)
    (old new : Option (List ℕ)) (before now : ℕ) (ending : Ending)
    → Kept setup history → Concludes (IsReport setup history state) old before new now ending
    → Concludes (IsReportOf Kept setup state) old before new now ending
reported Kept setup state history old new before now Done kept (text, is, written) =
    (text, (history, kept, is), written)
reported Kept setup state history old new before now Unwritten kept (text, is, front, rose) =
    (text, (history, kept, is), front, rose)
reported Kept setup state history old new before now (Refused fault) kept refused = refused

-- by threads any legal history of all commands may come, whatever their number
pub by_threads : (workers : ℕ) (setup : Setup) (history : List Entry) → 0 < workers → IsLegal setup history
    → IsComplete setup history → IsHistoryBy workers setup history
by_threads zero setup history some legal complete = absurd (omega (arith, some))
by_threads (suc workers) setup history some legal complete = (legal, complete)
