-- From how a request ends to what its status says.
use Rattle.std.proofs.Common.{◌≡◌, ℕ, ◌⊎◌, inl, inr, Bool, List, [], Option, Some, refl, ap, subst}
use Rattle.soc_io.specs.Counts.{Rose}
use Rattle.soc_io.specs.Reading.{Held}
use Rattle.soc_io.specs.Writing.{Printed}
use Rattle.command_words.specs.declared.request.AloneWords.{AloneWords}
use Rattle.command_words.specs.declared.request.CheckWords.{CheckWords}
use Rattle.command_words.specs.declared.request.RunWords.{RunWords}
use Rattle.soc_top.specs.declared.fault.TopFault.{TopFault}
use Rattle.soc_top.specs.declared.fault.TopFault.TheVariants.{NoMemory}
use Rattle.soc_top.specs.declared.ending.Ending.{Ending}
use Rattle.soc_top.specs.declared.ending.Ending.TheVariants.{Done, Unwritten, Refused}
use Rattle.soc_top.specs.Exchange.{Exchange, Says}
use Rattle.soc_top.specs.Faults.{fault_line, fault_status, ending_status}
use Rattle.soc_top.specs.Wants.Want.{PlatformWant}
use Rattle.soc_top.specs.Order.{Order, Cause, IsDecided, IsAllowed}
use Rattle.soc_top.specs.Answers.{Texts, IsTextOf, Ends, Answers}
use Rattle.soc_top.specs.Alone.{bundle_order, alone_order, AloneTexts, AloneAnswers}
use Rattle.soc_top.specs.Run.{run_order, IsHistoryBy, RunTexts, RunAnswers}
use Rattle.soc_top.specs.Check.{checked_order, check_order, CheckTexts, CheckAnswers}
use Rattle.soc_top.specs.Generate.{GenerateAnswers}
use Rattle.soc_top.proofs.Stops.{undecided, one_status, as_decided}
use Rattle.soc_top.proofs.Turns.{run_memory}

-- what the files decide isn't so where a text came of them
text_undecided : (told : Option Held) (order : Order) (texts : Texts) (text : List ℕ) → IsTextOf told order texts text
    → (held : Held) (fault : TopFault) → told ≡ Some held → IsDecided held order fault → ⊥
text_undecided told order texts text is held fault same decided =
    let (inputs, read, made) = subst (λ t. IsTextOf t order texts text) same is in
    undecided held order inputs fault read decided

decided_by : (told : Option Held) (before now : ℕ) (order : Order) (refused : TopFault)
    → Cause told before now order refused → (held : Held) (fault : TopFault) → told ≡ Some held
    → (Rose before now → ⊥) → IsDecided held order fault
    → (fault_status refused ≡ fault_status fault) ⊎ (fault_status refused ≡ 7)
decided_by told before now order refused cause held fault same calm decided =
    elim (as_decided held before now order refused calm (subst (λ t. Cause t before now order refused) same cause)) [
      | inl sooner ↦ inl (one_status held order refused fault sooner decided)
      | inr memory ↦ inr (ap fault_status memory)
    ]

allowed_by : (told : Option Held) (before now : ℕ) (order : Order) (refused : TopFault)
    → Cause told before now order refused → (held : Held) → told ≡ Some held → (Rose before now → ⊥)
    → IsAllowed held order → (fault_status refused ≡ 0) ⊎ (fault_status refused ≡ 7)
allowed_by told before now order refused cause held same calm allowed =
    elim (as_decided held before now order refused calm (subst (λ t. Cause t before now order refused) same cause)) [
      | inl sooner ↦ absurd (allowed refused sooner)
      | inr memory ↦ inr (ap fault_status memory)
    ]

pub answers_of : (e : Exchange) (order : Order) (texts : Texts) (ending : Ending) → Ends e order texts ending
    → Answers e order texts (ending_status ending)
answers_of e order texts Done (text, is, written) = record {
  ending = Done;
  is_status = refl;
  ends = (text, is, written);
  decided = λ held fault told _ decided. absurd (text_undecided e.held order texts text is held fault told decided);
  complete = λ _ _ _ _ _. inl refl;
}
answers_of e order texts Unwritten (text, is, front, rose) = record {
  ending = Unwritten;
  is_status = refl;
  ends = (text, is, front, rose);
  decided = λ held fault told _ decided. absurd (text_undecided e.held order texts text is held fault told decided);
  complete = λ _ _ _ steady _. absurd (steady rose);
}
answers_of e order texts (Refused fault) (cause, says) = record {
  ending = Refused fault;
  is_status = refl;
  ends = (cause, says);
  decided = decided_by e.held e.read_faults e.read_faults_now order fault cause;
  complete = λ held told calm _ allowed.
      allowed_by e.held e.read_faults e.read_faults_now order fault cause held told calm allowed;
}

-- want of memory, whatever was asked for
pub alone_short : (e : Exchange) (request : AloneWords) → Says e (fault_line NoMemory) → AloneAnswers e request 7
alone_short e request says =
    answers_of e (alone_order request) (AloneTexts request) (Refused NoMemory)
    ((PlatformWant request.platform, ([], (bundle_order request, refl)), tt), says)

pub run_short : (e : Exchange) (request : RunWords) → Says e (fault_line NoMemory) → RunAnswers e request 7
run_short e request says =
    answers_of e (run_order request) (RunTexts (IsHistoryBy request.workers) request) (Refused NoMemory)
    (run_memory e.held e.read_faults e.read_faults_now request, says)

pub check_short : (e : Exchange) (request : CheckWords) → Says e (fault_line NoMemory) → CheckAnswers e request 7
check_short e request says =
    answers_of e (check_order request) (CheckTexts request) (Refused NoMemory)
    ((PlatformWant request.platform, ([], (checked_order request, refl)), tt), says)

pub generate_short : (old : Option (List ℕ)) (before : ℕ) (new : Option (List ℕ)) (now : ℕ) (number : ℕ)
    → (failed : Bool) × Printed (fault_line NoMemory) old before new now failed
    → GenerateAnswers old before new now number 7
generate_short old before new now number says =
    record { ending = Refused NoMemory; is_status = refl; ends = (refl, says) }
