-- What the network does with a tile's ports in a slot, and with those of each part by itself.
use Rattle.std.proofs.Common.{◌≡◌, ℕ, ◌==◌, cond, List, Option, Some, None, refl, sym, ap, ◌∙◌}
use Rattle.std.specs.Option.{option_map_or}
use Rattle.soc_base.specs.Time.{FrameTimes}
use Rattle.bundle_model.specs.declared.bundle.Part.{Part}
use Rattle.ni_port.specs.SizedPort.{SizedPort, after_deliver}
use Rattle.part_model.specs.Part.{PartState}
use Rattle.tdm_network.specs.declared.rows.Row.{Row}
use Rattle.tdm_network.specs.declared.routing.Delivery.{Delivery}
use Rattle.tile_core.specs.Tile.{TileState}
use Rattle.tile_core.specs.Slot.{with_port, with_delivery}
use Rattle.tile_mmio.specs.Ports.{each_port}
use Rattle.tile_core.specs.Cycle.{words_of}
use Rattle.tile_core.specs.Holds.{Holds}
use Rattle.tile_core.proofs.Installed.{installed_same}
use Rattle.tile_core.proofs.Ports.{change_at, own_as, own_changed, length-with_port, with_own_if}

-- a tile of another slot, with other slot tables and counts
pub holds_beside : (times : FrameTimes) (parts : ℕ → Option Part) (granted : ℕ → Option ℕ) (starts : ℕ → ℕ) (view : ℕ → PartState) (cycle at : ℕ) (tables : List Row) (carried : List ℕ) (t : TileState) → Holds times parts granted starts view cycle t → Holds times parts granted starts view cycle (record t { at = at; tables = tables; carried = carried })
holds_beside times parts granted starts view cycle at tables carried t h = record {
  frame = h.frame;
  whole = h.whole;
  step = h.step;
  turn = h.turn;
  installed = installed_same times.slots parts granted t (record t { at = at; tables = tables; carried = carried }) refl refl h.installed;
  inside = h.inside;
  own = h.own;
  here = λ place part start is begins.
      let one = h.here place part start is begins in
      record { words = one.words; bytes = one.bytes; ports = one.ports; start_is = one.start_is };
  logs = λ place part is. let at = h.logs place part is in record { inside = at.inside; is = at.is };
}

-- a port's change leaves a part its words, its bytes and its log
own_rest : {X : Type 0} (f : PartState → X) (change : ℕ → SizedPort → SizedPort) (granted : Option ℕ) (part : Option Part) (view : PartState) → ((view : PartState) (ports : List SizedPort) → f (record view { ports = ports }) ≡ f view) → f (with_own_if change granted part view) ≡ f view
own_rest f change None part view keeps = refl
own_rest f change (Some start) None view keeps = refl
own_rest f change (Some start) (Some part) view keeps = keeps view _

own_here : (change : ℕ → SizedPort → SizedPort) (granted : Option ℕ) (found : Option Part) (start : ℕ) (part : Part) (view : PartState) → granted ≡ Some start → found ≡ Some part → with_own_if change granted found view ≡ with_own_if change (Some start) (Some part) view
own_here change granted found start part view begins is =
    ap (λ (g : Option ℕ). with_own_if change g found view) begins ∙ ap (λ (p : Option Part). with_own_if change (Some start) p view) is

-- where one port of a tile changes, it holds the parts, each with its own ports changed by their numbers
pub holds_changed : (times : FrameTimes) (parts : ℕ → Option Part) (granted : ℕ → Option ℕ) (starts : ℕ → ℕ) (view : ℕ → PartState) (cycle : ℕ) (change : SizedPort → SizedPort) (at : Option ℕ) (t : TileState) → Holds times parts granted starts view cycle t → Holds times parts granted starts (λ place. with_own_if (change_at change at) (granted place) (parts place) (view place)) cycle (record t { ports = with_port change at t.ports })
holds_changed times parts granted starts view cycle change at t h =
    let after = record t { ports = with_port change at t.ports } in
    let views : ℕ → PartState = λ place. with_own_if (change_at change at) (granted place) (parts place) (view place) in
    record {
      frame = h.frame;
      whole = h.whole;
      step = h.step;
      turn = h.turn;
      installed = installed_same times.slots parts granted t after refl refl h.installed;
      inside = h.inside;
      own = λ place part is. own_as t.ports after.ports part.ports (length-with_port change at t.ports) (h.own place part is);
      here = λ place part start is begins.
          let one = h.here place part start is begins in
          record {
            words = one.words ∙ sym (own_rest words_of (change_at change at) (granted place) (parts place) (view place) (λ v ports. refl));
            bytes = one.bytes ∙ sym (own_rest (λ (s : PartState). s.bytes) (change_at change at) (granted place) (parts place) (view place) (λ v ports. refl));
            ports = own_changed change at t.ports part.ports (h.own place part is).within
                ∙ ap (each_port (change_at change at) part.ports) one.ports
                ∙ ap (λ (s : PartState). s.ports) (sym (own_here (change_at change at) (granted place) (parts place) start part (view place) begins is));
            start_is = one.start_is;
          };
      logs = λ place part is.
          let one = h.logs place part is in
          record { inside = one.inside; is = one.is ∙ sym (own_rest (λ (s : PartState). s.log) (change_at change at) (granted place) (parts place) (view place) (λ v ports. refl)) };
    }

-- what the delivery of a slot does to a port by its number
abbrev pub delivered : Option Delivery → ℕ → SizedPort → SizedPort
delivered deliver number port =
    option_map_or (λ (d : Delivery). cond (d.port == number) (after_deliver d.flit port) port) deliver port

-- and so it does where one is delivered, if one is
pub holds_delivered : (times : FrameTimes) (parts : ℕ → Option Part) (granted : ℕ → Option ℕ) (starts : ℕ → ℕ) (view : ℕ → PartState) (cycle : ℕ) (deliver : Option Delivery) (t : TileState) → Holds times parts granted starts view cycle t → Holds times parts granted starts (λ place. with_own_if (delivered deliver) (granted place) (parts place) (view place)) cycle (with_delivery deliver t)
holds_delivered times parts granted starts view cycle (Some delivery) t h =
    holds_changed times parts granted starts view cycle (after_deliver delivery.flit) (Some delivery.port) t h
holds_delivered times parts granted starts view cycle None t h =
    holds_changed times parts granted starts view cycle (λ (port : SizedPort). port) None t h
