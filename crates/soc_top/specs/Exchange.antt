-- What files and a sink tell of themselves before and after a call.
use Rattle.std.specs.Prelude.{ℕ, Bool, List, Option}
use Rattle.soc_io.specs.Reading.{Held}
use Rattle.soc_io.specs.Writing.{Printed}

-- the files, where they are told, and the count of their faults before the call and after it; what was
-- written, where it is told, and the count of the sink's faults, likewise
pub record Exchange : Type 0 where
  pub held : Option Held
  pub read_faults : ℕ
  pub read_faults_now : ℕ
  pub written : Option (List ℕ)
  pub written_now : Option (List ℕ)
  pub write_faults : ℕ
  pub write_faults_now : ℕ

-- what files and a sink tell, by what their traits tell of them, before a call and after it
abbrev pub exchanged : {F S : Type 0} → (F → Option Held) → (F → ℕ) → (S → Option (List ℕ)) → (S → ℕ) → F → F → S → S
    → Exchange
exchanged holds read_faults written write_faults files files_now sink sink_now = record {
  held = holds files;
  read_faults = read_faults files;
  read_faults_now = read_faults files_now;
  written = written sink;
  written_now = written sink_now;
  write_faults = write_faults sink;
  write_faults_now = write_faults sink_now;
}

-- a text was written, or, where the sink's faults rose, a front of it
abbrev pub Says : Exchange → List ℕ → Type 0
Says e text = (failed : Bool) × Printed text e.written e.write_faults e.written_now e.write_faults_now failed

-- the same of a sink, by what its trait tells of it before a call and after it
abbrev pub SaysText : {S : Type 0} → (S → Option (List ℕ)) → (S → ℕ) → S → S → List ℕ → Type 0
SaysText written faults old new text =
    (failed : Bool) × Printed text (written old) (faults old) (written new) (faults new) failed
