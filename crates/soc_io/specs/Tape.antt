-- A sink in memory, with a fixed room, of which listed writes fail.
use Rattle.std.specs.Prelude.{ℕ, Bool, ◌+◌, ◌-◌, List, [], ◌++◌, length, take, nat_le, not, ◌&&◌, if◌then◌else◌}
use Rattle.soc_base.specs.Time.{is_among}
use Rattle.soc_io.specs.Counts.{one_more}

-- the bytes that were given, the most of them that are taken, the numbers of the writes that fail,
-- the first write being number 1, the number of writes so far, and the count of faults
pub record Tape : Type 0 where
  pub given : List ℕ
  pub room : ℕ
  pub fails : List ℕ
  pub calls : ℕ
  pub faults : ℕ

-- an empty sink with this room, of which the writes with these numbers fail
abbrev pub new_tape : ℕ → List ℕ → Tape
new_tape room fails = record { given = []; room = room; fails = fails; calls = 0; faults = 0 }

-- whether the next write is one that fails
abbrev pub tape_fails : Tape → Bool
tape_fails t = is_among (one_more t.calls) t.fails

-- whether there is room for all of the bytes
abbrev pub tape_fits : List ℕ → Tape → Bool
tape_fits bytes t = nat_le (length t.given + length bytes) t.room

-- whether the next write takes all of the bytes
abbrev pub tape_takes : List ℕ → Tape → Bool
tape_takes bytes t = not (tape_fails t) && tape_fits bytes t

-- what the next write adds: nothing where it is one that fails, else as many bytes as fit
abbrev pub tape_adds : List ℕ → Tape → List ℕ
tape_adds bytes t = if tape_fails t then [] else take (t.room - length t.given) bytes

-- the sink after a write: a fault is counted where not all of the bytes are taken, and nowhere else
abbrev pub tape_after : List ℕ → Tape → Tape
tape_after bytes t = record t {
  given = t.given ++ tape_adds bytes t;
  calls = one_more t.calls;
  faults = if tape_takes bytes t then t.faults else one_more t.faults;
}
