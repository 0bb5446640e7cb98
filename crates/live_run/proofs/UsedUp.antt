-- Scripts that are used up stay so, and a legal history in which all are used up is complete.
use Rattle.std.proofs.Common.{◌≡◌, ℕ, ◌+◌, ◌≤◌, cond, ◌==◌, List, ◌++◌, length, subst, arith}
use Rattle.std.specs.Prelude.{IsTrue}
use Rattle.std.proofs.lemmas.Bool.Decides.{nat_tests}
use Rattle.std.proofs.lemmas.List.Sums.{sum_by-append}
use mathlib.Core.List.{IsPrefix}
use Rattle.vep_manager.specs.declared.setup.Setup.{Setup}
use Rattle.vep_manager.specs.declared.reply.Entry.{Entry}
use Rattle.vep_manager.specs.History.{IsSession, is_used_up, commands_of, count_of}
use Rattle.vep_manager.specs.Legal.{IsLegal, IsComplete}
use Rattle.vep_manager.specs.Manager.{ManagerState}
use Rattle.vep_manager.specs.Setup.{IsSound}
use Rattle.vep_manager.proofs.Laws.{legal_counts}
use Rattle.serial_run.proofs.Laws.{all_range}

count_more : (old rest : List Entry) (session : ℕ) → count_of old session ≤ count_of (old ++ rest) session
count_more old rest session =
    let e : count_of (old ++ rest) session ≡ count_of old session + count_of rest session =
    sum_by-append (λ (entry : Entry). cond (entry.session == session) 1 0) old rest in omega (arith, e)

-- a script that is used up in a history is used up in a longer one
pub used_up_more : (setup : Setup) (old new : List Entry) (session : ℕ) → IsPrefix old new
    → IsTrue (is_used_up setup old session) → IsTrue (is_used_up setup new session)
used_up_more setup old new session begins up =
    let used : length (commands_of setup session) ≤ count_of old session = grind (arith, nat_tests) in
    subst (λ (l : List Entry). IsTrue (is_used_up setup l session)) begins.1
    (let more = count_more old begins.0 session in
    let all : length (commands_of setup session) ≤ count_of (old ++ begins.0) session = omega (arith, more, used) in
    grind (arith, nat_tests))

-- a legal history in which every script is used up is complete
pub complete_of : (state : ManagerState) → IsSound state.setup → IsLegal state.setup state.history
    → ((session : ℕ) → IsSession state.setup session → IsTrue (is_used_up state.setup state.history session))
    → IsComplete state.setup state.history
complete_of state sound legal up =
    all_range (λ session. count_of state.history session ≡ length (commands_of state.setup session)) 1
    (length state.setup.scripts) (λ session low high.
    let is : IsSession state.setup session = (omega arith, omega arith) in
    let most = legal_counts state.setup sound state.history legal session in
    let used = up session is in
    let least : length (commands_of state.setup session) ≤ count_of state.history session = grind (arith, nat_tests) in
    omega (arith, most, least))
