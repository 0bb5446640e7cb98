-- Jobs, and what was started for them.
use Rattle.std.specs.Prelude.{◌≡◌}
use Rattle.live_run.specs.declared.job.Started.{Started}
use Rattle.live_run.specs.declared.job.Started.TheVariants.{There, Here}

-- what a job's thread will give, or what the caller has done itself, is what the job owes
abbrev pub Keeps : {J D : Type 0} → (J → D → Type 0) → J → Started J D → Type 0
Keeps owes job (There handle) = handle.promise.given.value ≡ job
Keeps owes job (Here done) = owes job done
