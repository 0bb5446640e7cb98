-- The numbers that a workload is drawn from.
use Rattle.std.specs.Prelude.{ℕ, ◌+◌, ◌-◌, ◌*◌, ◌/◌, ◌%◌, ◌^◌}
use Rattle.soc_base.specs.Steps.{after_steps}
use Rattle.workload.specs.declared.drawn.Drawn.{Drawn}

-- the state of the generator after one draw more
abbrev pub next_state : ℕ → ℕ
next_state state = (state * 1664525 + 1013904223) % 2 ^ 32

-- the state of the generator after so many draws; before them it is the workload's number
abbrev pub state_after : ℕ → ℕ → ℕ
state_after number draws = after_steps (λ at state. next_state state) 0 draws number

-- a draw, counted from 0: the upper half of the state after it
abbrev pub draw : ℕ → ℕ → ℕ
draw number n = state_after number (n + 1) / 65536

-- the draws of a load command of a session, both counted from 1: seven for each load, six loads for each session
unfoldable pub drawn : ℕ → ℕ → ℕ → Drawn
drawn number session load =
    let first = 7 * (6 * (session - 1) + (load - 1)) in
    record {
      tile = draw number first % 16;
      hops = 1 + draw number (first + 1) % 3;
      slot = draw number (first + 2) % 4;
      there = draw number (first + 3) % 8;
      back = draw number (first + 4) % 8;
      words = 4 + draw number (first + 5) % 60;
      offset = draw number (first + 6) % 4096;
    }
