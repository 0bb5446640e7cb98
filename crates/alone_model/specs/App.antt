-- One application alone on the empty platform.
use Rattle.std.specs.Prelude.{ℕ, ◌+◌, ◌*◌, ◌-◌, ◌/◌, ◌%◌, ◌==◌, ◌++◌, List, [], map, filter, not, if◌then◌else◌}
use Rattle.soc_base.specs.Time.{runs}
use Rattle.soc_base.specs.Steps.{after_steps}
use Rattle.platform_model.specs.declared.platform.Platform.{Platform}
use Rattle.platform_model.specs.Platform.{frame_of}
use Rattle.soc_base.specs.declared.region.Region.{Region}
use Rattle.bundle_model.specs.declared.bundle.Part.{Part}
use Rattle.bundle_model.specs.declared.bundle.Bundle.{Bundle}
use Rattle.bundle_model.specs.Ways.{ways_of}
use Rattle.soc_base.specs.Slots.{slots_of}
use Rattle.ni_port.specs.SizedPort.{granted_sized}
use Rattle.rv_core.specs.Registers.{fresh_registers}
use Rattle.tile_memory.specs.Bytes.{filled_bytes}
use Rattle.trace_log.specs.Log.{new_log}
use Rattle.part_model.specs.declared.record.Place.{Place}
use Rattle.part_model.specs.Part.{part_cycle}
use Rattle.alone_model.specs.Network.{AppPart, Flying, with_ports, injected, new_flits, is_due, delivered}

-- an application between two cycles: its parts, in the order of the file, and the flits on their way, the
-- latest first. There are no routers, slot tables, frames, shared memory or owners.
pub record AppState : Type 0 where
  pub parts : List AppPart
  pub flying : List Flying

-- what stays of a part while it runs
abbrev pub place_of : Part → Place
place_of part = record { tile = part.tile; kinds = part.kinds }

-- a part's region in a memory of its own
abbrev pub own_region : Part → Region
own_region part = record { base = 0; len = part.region.len }

-- a part when its application is granted: its region holds the image and then zeros, pc is the entry,
-- every other register is 0, no instruction is under way, its ports are empty and have their credit, and
-- nothing is logged
abbrev pub opening_part : Platform → Part → AppPart
opening_part platform part = record {
  part = part;
  state = record {
    regs = fresh_registers part.entry;
    left = 0;
    bytes = filled_bytes part.region.len part.image;
    ports = map (λ port. granted_sized platform.queue) part.ports;
    log = new_log part.trace;
  };
}

-- an application when it is granted: nothing is on its way
abbrev pub opening : Platform → Bundle → AppState
opening platform bundle = record { parts = map (opening_part platform) bundle.parts; flying = [] }

-- a part after a cycle of an application that was granted from cycle `start` on
abbrev pub part_step : Platform → ℕ → ℕ → AppPart → AppPart
part_step platform start cycle p =
    if runs (frame_of platform) (slots_of p.part.slots) start cycle
    then record p { state = part_cycle platform.costs (place_of p.part) cycle p.state }
    else p

-- each channel that injects in a slot does, and its flit joins those on their way
abbrev pub with_new : Platform → Bundle → ℕ → AppState → AppState
with_new platform bundle slot app = record {
  parts = map (with_ports (injected platform bundle slot)) app.parts;
  flying = new_flits platform app.parts slot 0 (ways_of bundle) ++ app.flying;
}

-- each part after a cycle
abbrev pub with_cycle : Platform → ℕ → ℕ → AppState → AppState
with_cycle platform start cycle app = record app { parts = map (part_step platform start cycle) app.parts }

-- each flit that is due in a slot is delivered, and is no more on its way
abbrev pub with_due : Bundle → ℕ → AppState → AppState
with_due bundle slot app = record {
  parts = map (with_ports (delivered bundle app.flying slot)) app.parts;
  flying = filter (λ f. not (is_due bundle slot f)) app.flying;
}

-- the application after a cycle: in the first cycle of a slot its channels inject, then each part has the
-- cycle, and in the last cycle of a slot what is due is delivered
abbrev pub app_cycle : Platform → Bundle → ℕ → ℕ → AppState → AppState
app_cycle platform bundle start cycle app =
    let slot = cycle / platform.slot_cycles in
    let place = cycle % platform.slot_cycles in
    let begun = if place == 0 then with_new platform bundle slot app else app in
    let cycled = with_cycle platform start cycle begun in
    if place + 1 == platform.slot_cycles then with_due bundle slot cycled else cycled

-- the application from its granted slot `start` up to the beginning of slot `end`, which isn't earlier
unfoldable pub alone_at : Platform → Bundle → ℕ → ℕ → AppState
alone_at platform bundle start end =
    let first = start * platform.slot_cycles in
    after_steps (app_cycle platform bundle first) first (end * platform.slot_cycles - first) (opening platform bundle)
