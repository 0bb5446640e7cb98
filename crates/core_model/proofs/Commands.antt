-- A command keeps the core in order: what was done stays.
use Rattle.std.proofs.Common.{◌≡◌, ℕ, ◌+◌, ◌-◌, ◌≤◌, List, [], ◌∷◌, slice_get, Option, Some, None, refl, sym, ap, ◌∙◌, arith}
use Rattle.std.specs.Option.{option_map, option_map_or}
use Rattle.std.proofs.lemmas.Option.{none-some, same_Some}
use Rattle.std.proofs.lemmas.List.Elements.{All-weaker}
use mathlib.Core.List.{IsPrefix}
use Rattle.vep_manager.specs.declared.setup.Setup.{Setup}
use Rattle.vep_manager.specs.declared.reply.Reply.{Reply}
use Rattle.vep_manager.specs.declared.reply.Entry.{Entry}
use Rattle.vep_manager.specs.Setup.{IsSound}
use Rattle.vep_manager.specs.History.{horizon_of}
use Rattle.vep_manager.specs.Replies.{next_entry}
use Rattle.vep_manager.proofs.Laws.{legal_more, legal_goes_on}
use Rattle.lockstep.specs.Hardware.{Hardware}
use Rattle.lockstep.specs.Lockstep.{Machine}
use Rattle.lockstep.specs.Stays.{IsPaced}
use Rattle.lockstep.proofs.Laws.{made_same}
use Rattle.core_model.specs.Core.{CoreState, answered}
use Rattle.core_model.specs.Order.{slot_of, in_step, HoldsBetween, IsInOrder}
use Rattle.core_model.proofs.Staying.{histories_stay}

low_by : {Tile : Type 0} (at : Tile → ℕ) (horizon : ℕ) (o : Option Tile) → ((tile : Tile) → o ≡ Some tile → at tile ≤ horizon) → option_map_or at o 0 ≤ horizon
low_by at horizon None low = omega arith
low_by at horizon (Some tile) low = low tile refl

command_keeps : {Tile Flit : Type 0} (hardware : Hardware Tile Flit) (setup : Setup) (core : CoreState Tile Flit) (entry : Entry) → IsSound setup → IsPaced Tile Flit hardware → IsInOrder Tile Flit hardware setup core → next_entry setup core.history entry.session ≡ Some entry → IsInOrder Tile Flit hardware setup (answered core (Some entry))
command_keeps {Tile} {Flit} hardware setup core entry sound paced order next =
    let after : CoreState Tile Flit = answered core (Some entry) in
    let legal = legal_more setup core.history entry order.legal next in
    let longer : IsPrefix core.history after.history = (entry ∷ [], refl) in
    let on = legal_goes_on setup sound core.history after.history longer legal in
    let grows = on.horizon in
    let same : (slot : ℕ) → slot ≤ horizon_of setup core.history → in_step hardware setup core slot ≡ in_step hardware setup after slot = λ slot low.
    sym (histories_stay setup sound hardware setup.world.platform.links core.history after.history slot paced longer legal low) in
    record {
      legal = legal;
      counted = order.counted;
      linked = order.linked;
      below = λ number tile there. let low = order.below number tile there in omega arith;
      stepped = λ number tile there.
          order.stepped number tile there ∙ ap (λ (m : Machine Tile Flit). m.tile number) (same (hardware.at tile) (order.below number tile there));
      between = All-weaker (HoldsBetween Tile Flit hardware setup core) (HoldsBetween Tile Flit hardware setup after)
          (λ line here.
          let a = slot_of hardware core line.link.to in
          let b = slot_of hardware core line.link.from in
          let spaced = here.spaced in
          let high = low_by hardware.at (horizon_of setup core.history) (slice_get core.tiles line.link.from) (order.below line.link.from) in
          record {
            spaced = here.spaced;
            holds = here.holds ∙ made_same (λ slot. (in_step hardware setup core slot).carried line.link) (λ slot. (in_step hardware setup after slot).carried line.link) a (b + 1 - a)
                (λ slot low. ap (λ (m : Machine Tile Flit). m.carried line.link) (same slot (omega arith)));
          })
          core.lines order.between;
    }

session_by : (session index : ℕ) (o : Option Reply) (entry : Entry) → option_map (λ (reply : Reply). let e : Entry = record { session = session; index = index; reply = reply } in e) o ≡ Some entry → entry.session ≡ session
session_by session index None entry is = absurd (none-some entry is)
session_by session index (Some reply) entry is =
    let made : Entry = record { session = session; index = index; reply = reply } in
    sym (ap (λ (e : Entry). e.session) (same_Some made entry is))

-- the next entry of a session is of that session
entry_session : (setup : Setup) (history : List Entry) (session : ℕ) (entry : Entry) → next_entry setup history session ≡ Some entry → entry.session ≡ session
unfolding next_entry
entry_session setup history session entry next = session_by session _ _ entry next

pub entry_keeps : {Tile Flit : Type 0} (hardware : Hardware Tile Flit) (setup : Setup) (core : CoreState Tile Flit) (session : ℕ) (o : Option Entry) → next_entry setup core.history session ≡ o → IsSound setup → IsPaced Tile Flit hardware → IsInOrder Tile Flit hardware setup core → IsInOrder Tile Flit hardware setup (answered core o)
entry_keeps hardware setup core session None next sound paced order = order
entry_keeps hardware setup core session (Some entry) next sound paced order =
    let named = entry_session setup core.history session entry next in
    command_keeps hardware setup core entry sound paced order (ap (next_entry setup core.history) named ∙ next)
