use Rattle.std.proofs.Common.{◌≡◌, [], map, vec_len}
use Rattle.std.specs.List.{All}
use Rattle.live_run.specs.inner.Workers.{IsBlank, hand, schedule_of}
use Rattle.live_run.proofs.crew.hire_all.Given as goal

abbrev pub invariant-loop : goal.invariant-loop
invariant-loop l =
    (vec_len l.crew ≡ l.counter) × All (IsBlank l.fn.manager.setup) (map schedule_of l.crew.items)
    × All (λ worker. hand worker ≡ []) l.crew.items
