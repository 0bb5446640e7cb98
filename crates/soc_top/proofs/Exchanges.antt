-- An exchange by its parts.
use Rattle.std.proofs.Common.{ℕ, List, Option}
use Rattle.soc_io.specs.Reading.{Held}
use Rattle.soc_top.specs.Exchange.{Exchange}

abbrev pub exchange_of : Option Held → ℕ → ℕ → Option (List ℕ) → Option (List ℕ) → ℕ → ℕ → Exchange
exchange_of held read_faults read_faults_now written written_now write_faults write_faults_now = record {
  held = held;
  read_faults = read_faults;
  read_faults_now = read_faults_now;
  written = written;
  written_now = written_now;
  write_faults = write_faults;
  write_faults_now = write_faults_now;
}
