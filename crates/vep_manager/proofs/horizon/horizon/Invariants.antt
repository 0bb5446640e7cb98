use Rattle.std.proofs.Common.{◌≡◌, ◌-◌, map, fold, min}
use Rattle.std.specs.List.{range_with_len}
use Rattle.vep_manager.specs.History.{promise_of}
use Rattle.vep_manager.specs.inner.Keeping.{counted}
use Rattle.vep_manager.proofs.horizon.horizon.Given as goal

abbrev pub invariant-loop-session : goal.invariant-loop-session
invariant-loop-session l =
    l.least ≡ fold (λ least promise. min least promise) l.setup.budget
    (map (λ session. promise_of l.setup session (counted l.next l.history session))
    (range_with_len 1 (l.session - 1)))
