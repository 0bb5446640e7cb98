-- How a request ends, and with which status.
use Rattle.std.specs.Prelude.{◌≡◌, ℕ, ◌⊎◌, Bool, List, Option, Some}
use Rattle.soc_io.specs.Counts.{Rose}
use Rattle.soc_io.specs.Reading.{Held}
use Rattle.soc_io.specs.Writing.{Appends, AppendsFront, Printed}
use Rattle.soc_top.specs.declared.fault.TopFault.{TopFault}
use Rattle.soc_top.specs.declared.fault.TopFault.TheVariants.{NoMemory}
use Rattle.soc_top.specs.declared.ending.Ending.{Ending}
use Rattle.soc_top.specs.declared.ending.Ending.TheVariants.{Done, Unwritten, Refused}
use Rattle.soc_top.specs.Exchange.{Exchange, Says}
use Rattle.soc_top.specs.Faults.{fault_line, fault_status, ending_status}
use Rattle.soc_top.specs.Wants.{Input}
use Rattle.soc_top.specs.Order.{Order, AreRead, Cause, IsDecided, IsAllowed}

-- what a request writes: the text that may come of what its files gave
abbrev pub Texts : Type 1
Texts = List Input → List ℕ → Type 0

-- all files were read, and this is a text that comes of what they gave
abbrev pub IsTextOf : Option Held → Order → Texts → List ℕ → Type 0
IsTextOf told order texts text = (inputs : List Input) × AreRead told order inputs × texts inputs text

-- how a request ends: its text is written; a write of it fails, and a front of it is written; or it is
-- refused for this cause, and with this line
abbrev pub Ends : Exchange → Order → Texts → Ending → Type 0
Ends e order texts Done = (text : List ℕ) × IsTextOf e.held order texts text × Appends e.written text e.written_now
Ends e order texts Unwritten =
    (text : List ℕ) × IsTextOf e.held order texts text × AppendsFront e.written text e.written_now
    × Rose e.write_faults e.write_faults_now
Ends e order texts (Refused fault) =
    Cause e.held e.read_faults e.read_faults_now order fault × Says e (fault_line fault)

-- how a request may end with a status
pub record Answers (e : Exchange) (order : Order) (texts : Texts) (status : ℕ) : Type 0 where
  -- it ends so, and the status says how
  pub ending : Ending
  pub is_status : status ≡ ending_status ending
  pub ends : Ends e order texts ending
  -- what the files refuse is refused, where no read fails
  pub decided : (held : Held) (fault : TopFault) → e.held ≡ Some held → (Rose e.read_faults e.read_faults_now → ⊥)
      → IsDecided held order fault → (status ≡ fault_status fault) ⊎ (status ≡ 7)
  -- and what they allow is done, where no write fails either
  pub complete : (held : Held) → e.held ≡ Some held → (Rose e.read_faults e.read_faults_now → ⊥)
      → (Rose e.write_faults e.write_faults_now → ⊥) → IsAllowed held order → (status ≡ 0) ⊎ (status ≡ 7)

-- a text is written of which this is true; or a front of it, where a write failed; or memory was wanted
abbrev pub Concludes : (List ℕ → Type 0) → Option (List ℕ) → ℕ → Option (List ℕ) → ℕ → Ending → Type 0
Concludes IsText old before new now Done = (text : List ℕ) × IsText text × Appends old text new
Concludes IsText old before new now Unwritten =
    (text : List ℕ) × IsText text × AppendsFront old text new × Rose before now
Concludes IsText old before new now (Refused fault) =
    (fault ≡ NoMemory) × ((failed : Bool) × Printed (fault_line fault) old before new now failed)
