-- An application alone, slot by slot.
use Rattle.std.specs.Prelude.{ℕ, ◌*◌, ◌++◌, List, map, filter, not}
use Rattle.soc_base.specs.Steps.{after_steps}
use Rattle.platform_model.specs.declared.platform.Platform.{Platform}
use Rattle.bundle_model.specs.declared.bundle.Bundle.{Bundle}
use Rattle.bundle_model.specs.Ways.{ways_of}
use Rattle.alone_model.specs.Network.{AppPart, Flying, with_ports, injected, new_flits, is_due, delivered}
use Rattle.alone_model.specs.App.{AppState, part_step}

-- a part after the cycles of a slot, where its application was granted from cycle `start` on
abbrev pub part_cycles : Platform → ℕ → ℕ → AppPart → AppPart
part_cycles platform start slot p =
    after_steps (part_step platform start) (slot * platform.slot_cycles) platform.slot_cycles p

-- a part after a slot: its ports inject, it has the slot's cycles, and what is due of `flying` is delivered
-- to its ports
abbrev pub part_slot : Platform → Bundle → ℕ → ℕ → List Flying → AppPart → AppPart
part_slot platform bundle start slot flying p =
    with_ports (delivered bundle flying slot)
    (part_cycles platform start slot (with_ports (injected platform bundle slot) p))

-- the application after a slot
abbrev pub app_slot : Platform → Bundle → ℕ → ℕ → AppState → AppState
app_slot platform bundle start slot app =
    let flying = new_flits platform app.parts slot 0 (ways_of bundle) ++ app.flying in
    record {
      parts = map (part_slot platform bundle start slot flying) app.parts;
      flying = filter (λ f. not (is_due bundle slot f)) flying;
    }
