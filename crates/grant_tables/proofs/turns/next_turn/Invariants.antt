use Rattle.std.proofs.Common.{◌≡◌, ◌-◌, ◌^◌, ◌<◌, ◌≤◌, false, take}
use Rattle.grant_tables.specs.Turns.{is_quiet, AreQuiet}
use Rattle.grant_tables.proofs.turns.next_turn.Given as goal

abbrev pub invariant-loop-grant : goal.invariant-loop-grant
invariant-loop-grant l =
    let seen = take l.grant-index l.grants in
    (l.slot ≤ l.next) × AreQuiet seen l.slot l.next × (l.next < 2 ^ 64 - 1 → is_quiet seen l.next ≡ false)
