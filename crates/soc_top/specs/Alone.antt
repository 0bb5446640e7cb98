-- The command `alone`: which files it reads, and what it writes.
use Rattle.std.specs.Prelude.{◌≡◌, ℕ, max, List, [], ◌∷◌, Some, Ok}
use Rattle.soc_base.specs.Time.{slot_up_of}
use Rattle.platform_model.specs.declared.platform.Platform.{Platform}
use Rattle.bundle_model.specs.declared.bundle.Bundle.{Bundle}
use Rattle.alone_model.specs.declared.trace.AppTrace.{AppTrace}
use Rattle.alone_model.specs.App.{alone_at}
use Rattle.alone_model.specs.Trace.{IsTraceOf}
use Rattle.report_text.specs.Alone.{alone_text}
use Rattle.command_words.specs.declared.request.AloneWords.{AloneWords}
use Rattle.command_words.specs.declared.request.Request.TheVariants.{Alone}
use Rattle.command_words.specs.Request.{asked_of}
use Rattle.soc_top.specs.Exchange.{Exchange}
use Rattle.soc_top.specs.Wants.{Input}
use Rattle.soc_top.specs.Wants.Want.{PlatformWant, BundleWant}
use Rattle.soc_top.specs.Wants.Input.{PlatformRead, ScriptRead, BundleRead}
use Rattle.soc_top.specs.Order.{Order}
use Rattle.soc_top.specs.Order.Order.{Next, Whole}
use Rattle.soc_top.specs.Answers.{Answers}

-- after the platform, the bundle
abbrev pub bundle_order : AloneWords → Input → Order
bundle_order request (PlatformRead platform) = Next (BundleWant platform request.bundle) (λ bundle. Whole)
bundle_order request (ScriptRead script) = Whole
bundle_order request (BundleRead named) = Whole

-- the platform is read and judged first, and then the bundle
abbrev pub alone_order : AloneWords → Order
alone_order request = Next (PlatformWant request.platform) (bundle_order request)

-- the slots from and to which the application is followed; a start after the budget ends at once
abbrev pub first_slot : Platform → AloneWords → ℕ
first_slot platform request = slot_up_of request.start platform.slot_cycles

-- the slot to which it is followed
abbrev pub last_slot : Platform → AloneWords → ℕ
last_slot platform request = max (first_slot platform request) (slot_up_of request.budget platform.slot_cycles)

-- the text of the trace of a bundle alone on a platform
pub record IsAloneText (request : AloneWords) (platform : Platform) (bundle : Bundle) (text : List ℕ) : Type 0 where
  pub trace : AppTrace
  pub is_trace : IsTraceOf (alone_at platform bundle (first_slot platform request) (last_slot platform request)) trace
  pub is_text : text ≡ alone_text platform.slot_cycles request.bundle trace (first_slot platform request)
      (last_slot platform request)

-- what the files gave: a platform and a bundle
abbrev pub alone_inputs : AloneWords → Platform → Bundle → List Input
alone_inputs request platform bundle =
    PlatformRead platform ∷ BundleRead (record { name = request.bundle; judged = Ok bundle }) ∷ []

-- the text of the trace, by what the files gave
abbrev pub AloneTexts : AloneWords → List Input → List ℕ → Type 0
AloneTexts request inputs text =
    (platform : Platform) × ((bundle : Bundle) × (inputs ≡ alone_inputs request platform bundle)
    × IsAloneText request platform bundle text)

-- how a request for one application may end with a status
abbrev pub AloneAnswers : Exchange → AloneWords → ℕ → Type 0
AloneAnswers e request status = Answers e (alone_order request) (AloneTexts request) status

-- the same, where the words ask for one
abbrev pub AnswersAlone : Exchange → List (List ℕ) → ℕ → Type 0
AnswersAlone e words status =
    (request : AloneWords) → asked_of words ≡ Some (Alone request) → AloneAnswers e request status
