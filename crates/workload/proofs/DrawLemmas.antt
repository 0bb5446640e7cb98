-- The states of the generator, and what is drawn from them.
use Rattle.std.proofs.Common.{◌≡◌, ℕ, zero, suc, ◌+◌, ◌-◌, ◌*◌, ◌/◌, ◌%◌, refl, ap, sym, ◌∙◌, arith}
use Rattle.soc_base.specs.Steps.{after_steps}
use Rattle.workload.specs.Draws.{next_state, state_after, draw, drawn}

-- no draw
pub state_none : (number : ℕ) → state_after number 0 ≡ number
unfolding after_steps
state_none number = refl

-- n + m draws are m draws after n
pub state_join : (number n m : ℕ) → state_after number (n + m) ≡ state_after (state_after number n) m
unfolding after_steps
state_join number n zero = let e : n + 0 ≡ n = omega arith in ap (state_after number) e
state_join number n (suc m) =
    let e : n + suc m ≡ suc (n + m) = omega arith in
    ap (state_after number) e ∙ ap next_state (state_join number n m)

-- the draws of the first load, by the states
pub drawn_first : (state : ℕ) → drawn state 1 1 ≡ record {
  tile = state_after state 1 / 65536 % 16;
  hops = 1 + state_after state 2 / 65536 % 3;
  slot = state_after state 3 / 65536 % 4;
  there = state_after state 4 / 65536 % 8;
  back = state_after state 5 / 65536 % 8;
  words = 4 + state_after state 6 / 65536 % 60;
  offset = state_after state 7 / 65536 % 4096;
}
unfolding drawn
drawn_first state = refl

-- a draw after n draws is a draw of the state that they left
pub draw_later : (number n m k : ℕ) → k ≡ n + m → draw number k ≡ draw (state_after number n) m
draw_later number n m k e =
    let last : k + 1 ≡ n + (m + 1) = omega arith in
    ap (λ i. state_after number i / 65536) last ∙ ap (λ s. s / 65536) (state_join number n (m + 1))

-- the draws of a load are the first draws of the state that the draws before them left
pub drawn_later : (number session load n : ℕ) → n ≡ 7 * (6 * (session - 1) + (load - 1)) → drawn number session load ≡ drawn (state_after number n) 1 1
unfolding drawn
drawn_later number session load n e =
    let tile : draw number (7 * (6 * (session - 1) + (load - 1))) ≡ draw (state_after number n) 0 = draw_later number n 0 _ (omega arith) in
    let hops : draw number (7 * (6 * (session - 1) + (load - 1)) + 1) ≡ draw (state_after number n) 1 = draw_later number n 1 _ (omega arith) in
    let slot : draw number (7 * (6 * (session - 1) + (load - 1)) + 2) ≡ draw (state_after number n) 2 = draw_later number n 2 _ (omega arith) in
    let there : draw number (7 * (6 * (session - 1) + (load - 1)) + 3) ≡ draw (state_after number n) 3 = draw_later number n 3 _ (omega arith) in
    let back : draw number (7 * (6 * (session - 1) + (load - 1)) + 4) ≡ draw (state_after number n) 4 = draw_later number n 4 _ (omega arith) in
    let words : draw number (7 * (6 * (session - 1) + (load - 1)) + 5) ≡ draw (state_after number n) 5 = draw_later number n 5 _ (omega arith) in
    let offset : draw number (7 * (6 * (session - 1) + (load - 1)) + 6) ≡ draw (state_after number n) 6 = draw_later number n 6 _ (omega arith) in
    rw (tile, hops, slot, there, back, words, offset)

-- draws go on from a state that other draws left
pub state_on : (number n m k state : ℕ) → state ≡ state_after number n → n + m ≡ k → state_after state m ≡ state_after number k
state_on number n m k state left count = ap (λ s. state_after s m) left ∙ sym (state_join number n m) ∙ ap (state_after number) count

-- what is drawn next in a session, where the draws of its loads before left this state
pub drawn_next : (number load state : ℕ) → state ≡ state_after number (7 * (load - 1)) → drawn state 1 1 ≡ drawn number 1 load
drawn_next number load state left = ap (λ s. drawn s 1 1) left ∙ sym (drawn_later number 1 load (7 * (load - 1)) (omega arith))

-- a session's draws are those of a workload whose number is the state before them
pub drawn_session : (number session state load : ℕ) → state ≡ state_after number (42 * (session - 1)) → drawn state 1 load ≡ drawn number session load
drawn_session number session state load left =
    let n : ℕ = 7 * (6 * (session - 1) + (load - 1)) in
    let joined : state_after state (7 * (load - 1)) ≡ state_after number n = state_on number (42 * (session - 1)) (7 * (load - 1)) n state left (omega arith) in
    drawn_later state 1 load (7 * (load - 1)) (omega arith) ∙ ap (λ s. drawn s 1 1) joined ∙ sym (drawn_later number session load n refl)
