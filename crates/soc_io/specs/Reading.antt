-- What is told of files, and what a read of one answers.
use Rattle.std.specs.Prelude.{◌≡◌, ℕ, ◌<◌, List, [], ◌∷◌, ◌++◌, length, find, position, slice_set, bytes_eq, Option, Some, None, option_map, Result, Ok, Err}
use Rattle.soc_base.specs.declared.limits.TheConstants.{MOST_FILE_BYTES}
use Rattle.soc_io.specs.declared.files.FilesFault.{FilesFault}
use Rattle.soc_io.specs.declared.files.FilesFault.TheVariants.{Absent, TooLong, Failed, NoMemory}
use Rattle.soc_io.specs.Counts.{one_more, Rose}

-- files, each as its name and its bytes
abbrev pub Held : Type 0
Held = List (List ℕ × List ℕ)

-- the bytes of the file of a name, where there is one; of a name that stands twice the first counts
abbrev pub held_at : Held → List ℕ → Option (List ℕ)
held_at held name = option_map (λ file. file.1) (find (λ file. bytes_eq file.0 name) held)

-- the files with a file at the place of another, or behind all
abbrev pub with_file_at : Option ℕ → Held → List ℕ × List ℕ → Held
with_file_at (Some place) held file = slice_set held place file
with_file_at None held file = held ++ file ∷ []

-- the files with one more, which takes the place of the file of its name where there is one
abbrev pub with_file : Held → List ℕ → List ℕ → Held
with_file held name bytes = with_file_at (position (λ file. bytes_eq file.0 name) held) held (name, bytes)

-- what a read may answer of a file with these bytes, or of none, where the count of faults goes from
-- `before` to `now` and `into` is what was read
abbrev pub ReadsHeld : Option (List ℕ) → ℕ → ℕ → List ℕ → Result Unit FilesFault → Type 0
ReadsHeld file before now into (Ok done) = file ≡ Some into
ReadsHeld file before now into (Err Absent) = file ≡ None
ReadsHeld file before now into (Err TooLong) = (long : List ℕ) × (file ≡ Some long) × (MOST_FILE_BYTES < length long)
ReadsHeld file before now into (Err Failed) = Rose before now
ReadsHeld file before now into (Err NoMemory) = Unit {0}

-- what a read may answer where nothing is told of the files: every refusal but want of memory is a fault
abbrev pub ReadsUntold : ℕ → ℕ → Result Unit FilesFault → Type 0
ReadsUntold before now (Ok done) = Unit {0}
ReadsUntold before now (Err Absent) = Rose before now
ReadsUntold before now (Err TooLong) = Rose before now
ReadsUntold before now (Err Failed) = Rose before now
ReadsUntold before now (Err NoMemory) = Unit {0}

-- what a read of a name may answer, where the files are told or not
abbrev pub Reads : Option Held → List ℕ → ℕ → ℕ → List ℕ → Result Unit FilesFault → Type 0
Reads (Some held) name before now into result = ReadsHeld (held_at held name) before now into result
Reads None name before now into result = ReadsUntold before now result

-- the count of faults after a read, where nothing is told of the files
abbrev pub faults_after : Result Unit FilesFault → ℕ → ℕ
faults_after (Ok done) count = count
faults_after (Err Absent) count = one_more count
faults_after (Err TooLong) count = one_more count
faults_after (Err Failed) count = one_more count
faults_after (Err NoMemory) count = count
