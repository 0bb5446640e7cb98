-- A port that has no word to give, or no place for one, leaves the bus as it was.
use Rattle.std.proofs.Common.{◌≡◌, ℕ, ◌<◌, List, [], length, get_or, slice_get, slice_set, Some, refl, sym, ap, ◌∙◌, arith}
use Rattle.std.proofs.lemmas.List.{set-get_or}
use Rattle.std.proofs.lemmas.Option.{slice_get-get_or}
use Rattle.std.proofs.lemmas.Bool.Decides.{nat_tests}
use Rattle.ni_port.specs.SizedPort.{SizedPort, after_put, after_take}
use Rattle.rv_core.specs.declared.bus.Answer.{Answer}
use Rattle.rv_core.specs.declared.bus.Answer.TheVariants.{Stall}
use Rattle.part_model.specs.declared.device.TheConstants.{RECV, SEND}
use Rattle.part_model.specs.Answers.{BusState, port_load, port_store}
use Rattle.tile_mmio.specs.inner.TilePort.{tile_port}

still : (b : BusState) (n : ℕ) (d new : SizedPort) → new ≡ get_or b.ports n d
    → record b { ports = slice_set b.ports n new } ≡ b
still b n d new same =
    ap (λ (ports : List SizedPort). record b { ports = ports }) (ap (slice_set b.ports n) same ∙ set-get_or b.ports n d)

-- with no word to take
take_still : (port : SizedPort) → port.port.recv ≡ [] → after_take port ≡ port
take_still port none = rw none refl

no_load : (b : BusState) (number : ℕ) (port : SizedPort) → slice_get b.ports number ≡ Some port → port.port.recv ≡ []
    → port_load b RECV (tile_port b number) ≡ (Stall, b)
no_load b number port is none = rw is (rw none refl)

pub none_taken : (b : BusState) (number n : ℕ) (d new : SizedPort) → n ≡ number → number < length b.ports
    → (get_or b.ports n d).port.recv ≡ [] → new ≡ after_take (get_or b.ports n d)
    → record b { ports = slice_set b.ports n new } ≡ (port_load b RECV (tile_port b number)).1
none_taken b number n d new is within none after =
    let port = get_or b.ports n d in
    let there : slice_get b.ports number ≡ Some port = slice_get-get_or b.ports number d within ∙ ap (λ (k : ℕ). Some (get_or b.ports k d)) (sym is) in
    still b n d new (after ∙ take_still port none) ∙ sym (ap (λ (a : Answer × BusState). a.1) (no_load b number port there none))

-- with no place for a word
put_still : (word : ℕ) (port : SizedPort) → length port.port.send ≡ port.queue → after_put word port ≡ port
put_still word port full = grind (arith, nat_tests)

no_store : (b : BusState) (number : ℕ) (port : SizedPort) (word : ℕ) → slice_get b.ports number ≡ Some port
    → length port.port.send ≡ port.queue → port_store b SEND word (tile_port b number) ≡ (Stall, b)
no_store b number port word is full = rw is (grind (arith, nat_tests, full))

pub none_put : (b : BusState) (number n : ℕ) (d new : SizedPort) (word : ℕ) → n ≡ number → number < length b.ports
    → length (get_or b.ports n d).port.send ≡ (get_or b.ports n d).queue → new ≡ after_put word (get_or b.ports n d)
    → record b { ports = slice_set b.ports n new } ≡ (port_store b SEND word (tile_port b number)).1
none_put b number n d new word is within full after =
    let port = get_or b.ports n d in
    let there : slice_get b.ports number ≡ Some port = slice_get-get_or b.ports number d within ∙ ap (λ (k : ℕ). Some (get_or b.ports k d)) (sym is) in
    still b n d new (after ∙ put_still word port full) ∙ sym (ap (λ (a : Answer × BusState). a.1) (no_store b number port word there full))
