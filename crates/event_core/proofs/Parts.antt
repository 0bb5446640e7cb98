-- The part of a grant's application alone, by its place, and a slot later.
use Rattle.std.proofs.Common.{◌≡◌, ℕ, zero, suc, ◌+◌, ◌*◌, ◌≤◌, ◌==◌, Bool, true, false, cond, List, ◌++◌, find, slice_get, Option, Some, None, option_map, refl, sym, ap, ◌∙◌}
use Rattle.std.specs.Option.{option_and_then}
use Rattle.std.proofs.lemmas.Bool.{eq-eqb, eqb-true}
use Rattle.std.proofs.lemmas.Option.{none-some, same_Some, slice_get-map}
use Rattle.soc_base.specs.Steps.{after_steps}
use Rattle.soc_base.specs.Time.{runs}
use Rattle.soc_base.specs.Slots.{slots_of}
use Rattle.platform_model.specs.Platform.{frame_of}
use Rattle.bundle_model.specs.declared.bundle.Part.{Part}
use Rattle.bundle_model.specs.declared.bundle.Bundle.{Bundle}
use Rattle.bundle_model.specs.declared.world.World.{World}
use Rattle.bundle_model.specs.declared.world.Grant.{Grant}
use Rattle.bundle_model.specs.Ways.{ways_of}
use Rattle.bundle_model.specs.Grants.{bundle_at}
use Rattle.bundle_model.specs.World.{IsSoundCatalog, part_on}
use Rattle.bundle_model.proofs.Laws.{mapped_place, find_map, found_at, one_part, sound_bundle, is_part_on}
use Rattle.part_model.specs.Part.{PartState, part_cycle}
use Rattle.alone_model.specs.Network.{AppPart, Flying, new_flits, with_ports, injected}
use Rattle.alone_model.specs.App.{AppState, place_of, part_step, opening_part, alone_at}
use Rattle.alone_model.specs.Slots.{part_cycles, part_slot}
use Rattle.alone_model.proofs.Laws.{alone_begins, alone_next, alone_parts}
use Rattle.tile_core.specs.Views.{granted_cycles}
use Rattle.event_core.specs.Stands.{alone_part}

-- the part of a grant's application alone on a tile, at the beginning of a slot
pub record IsAlonePart (world : World) (grant : Grant) (slot number : ℕ) (part : Part) : Type 0 where
  pub bundle : Bundle
  pub bundled : bundle_at world grant.bundle ≡ Some bundle
  pub place : ℕ
  pub there : slice_get bundle.parts place ≡ Some part
  pub tile : part.tile ≡ number
  pub one : AppPart
  pub one_there : slice_get (alone_at world.platform bundle grant.start slot).parts place ≡ Some one
  pub its : one.part ≡ part

-- its place is the part's among the bundle's
pub at_its_place : (world : World) (bundle : Bundle) (start slot k : ℕ) (part : Part) → slice_get bundle.parts k ≡ Some part
    → (one : AppPart) × (slice_get (alone_at world.platform bundle start slot).parts k ≡ Some one) × (one.part ≡ part)
at_its_place world bundle start slot k part there =
    mapped_place (λ (p : AppPart). p.part) (alone_at world.platform bundle start slot).parts k part
    (ap (λ (parts : List Part). slice_get parts k) (alone_parts world.platform bundle start slot) ∙ there)

pub alone_part_on : (world : World) (grant : Grant) (slot number : ℕ) (part : Part) → IsSoundCatalog world → part_on world number grant.bundle ≡ Some part → IsAlonePart world grant slot number part
alone_part_on world grant slot number part sound on =
    let is = is_part_on world number grant.bundle part sound on in
    let at = at_its_place world is.bundle grant.start slot is.at part is.there in
    record { bundle = is.bundle; bundled = is.bundled; place = is.at; there = is.there; tile = is.tile; one = at.0; one_there = at.1; its = at.2 }

-- its state is what is told of it
pub state_of_place : (world : World) (grant : Grant) (bundle : Bundle) (slot number k : ℕ) (part : Part) (one : AppPart) → IsSoundCatalog world → bundle_at world grant.bundle ≡ Some bundle → slice_get bundle.parts k ≡ Some part → part.tile ≡ number
    → slice_get (alone_at world.platform bundle grant.start slot).parts k ≡ Some one → one.part ≡ part → alone_part world grant slot number ≡ Some one.state
state_of_place world grant bundle slot number k part one sound bundled there tile at its =
    let app = alone_at world.platform bundle grant.start slot in
    let well = sound_bundle world grant.bundle bundle sound bundled in
    let found : find (λ (p : AppPart). p.part.tile == number) app.parts ≡ Some one =
    found_at (λ (p : AppPart). p.part.tile == number) app.parts k one at (eq-eqb one.part.tile number (ap (λ (p : Part). p.tile) its ∙ tile))
    (λ j other other_at passes.
    let other_there : slice_get bundle.parts j ≡ Some other.part = sym (ap (λ (parts : List Part). slice_get parts j) (alone_parts world.platform bundle grant.start slot)) ∙ slice_get-map (λ (p : AppPart). p.part) app.parts j ∙ ap (option_map (λ (p : AppPart). p.part)) other_at in
    one_part world.platform bundle j k other.part part well other_there there (eqb-true other.part.tile number passes ∙ sym tile)) in
    ap (λ (o : Option Bundle). option_and_then (λ (a : AppState). option_map (λ (p : AppPart). p.state) (find (λ (p : AppPart). p.part.tile == number) a.parts)) (option_map (λ (b : Bundle). alone_at world.platform b grant.start slot) o)) bundled
    ∙ ap (option_map (λ (p : AppPart). p.state)) found

pub alone_state : (world : World) (grant : Grant) (slot number : ℕ) (part : Part) → IsSoundCatalog world → (is : IsAlonePart world grant slot number part) → alone_part world grant slot number ≡ Some is.one.state
alone_state world grant slot number part sound is =
    state_of_place world grant is.bundle slot number is.place part is.one sound is.bundled is.there is.tile is.one_there is.its

-- none where its bundle has no part on the tile
none_mapped : {X Y : Type 0} (f : X → Y) (o : Option X) → option_map f o ≡ None → o ≡ None
none_mapped f None none = refl
none_mapped f (Some x) none = absurd (none-some (f x) (sym none))

none_in : (world : World) (start slot number : ℕ) (o : Option Bundle) → option_and_then (λ (b : Bundle). find (λ (p : Part). p.tile == number) b.parts) o ≡ None
    → option_and_then (λ (a : AppState). option_map (λ (p : AppPart). p.state) (find (λ (p : AppPart). p.part.tile == number) a.parts)) (option_map (λ (b : Bundle). alone_at world.platform b start slot) o) ≡ None
none_in world start slot number None none = refl
none_in world start slot number (Some bundle) none =
    let app = alone_at world.platform bundle start slot in
    let parts = find_map (λ (p : AppPart). p.part) (λ (p : Part). p.tile == number) app.parts in
    let nothing : option_map (λ (p : AppPart). p.part) (find (λ (p : AppPart). p.part.tile == number) app.parts) ≡ None =
    sym parts ∙ ap (find (λ (p : Part). p.tile == number)) (alone_parts world.platform bundle start slot) ∙ none in
    ap (option_map (λ (p : AppPart). p.state)) (none_mapped (λ (p : AppPart). p.part) _ nothing)

pub alone_none : (world : World) (grant : Grant) (slot number : ℕ) → part_on world number grant.bundle ≡ None → alone_part world grant slot number ≡ None
alone_none world grant slot number none = none_in world grant.start slot number (bundle_at world grant.bundle) none

-- a slot later it has had the slot
pub alone_after : (world : World) (bundle : Bundle) (start slot k : ℕ) (one : AppPart) → start ≤ slot → slice_get (alone_at world.platform bundle start slot).parts k ≡ Some one →
    let app = alone_at world.platform bundle start slot in
    let flying = new_flits world.platform app.parts slot 0 (ways_of bundle) ++ app.flying in
    slice_get (alone_at world.platform bundle start (slot + 1)).parts k ≡ Some (part_slot world.platform bundle (start * world.platform.slot_cycles) slot flying one)
alone_after world bundle start slot k one begun at =
    let app = alone_at world.platform bundle start slot in
    let flying = new_flits world.platform app.parts slot 0 (ways_of bundle) ++ app.flying in
    let step = part_slot world.platform bundle (start * world.platform.slot_cycles) slot flying in
    ap (λ (a : AppState). slice_get a.parts k) (alone_next world.platform bundle start slot begun)
    ∙ slice_get-map step app.parts k
    ∙ ap (option_map step) at

-- at its start it is as it opens
pub alone_opens : (world : World) (bundle : Bundle) (start k : ℕ) (part : Part) (one : AppPart) → slice_get bundle.parts k ≡ Some part → slice_get (alone_at world.platform bundle start start).parts k ≡ Some one → one ≡ opening_part world.platform part
alone_opens world bundle start k part one there at =
    same_Some one (opening_part world.platform part)
    (sym at
    ∙ ap (λ (a : AppState). slice_get a.parts k) (alone_begins world.platform bundle start)
    ∙ slice_get-map (opening_part world.platform) bundle.parts k
    ∙ ap (option_map (opening_part world.platform)) there)

-- the cycles of a slot alone are those of a part by itself
stepped : (part : Part) (state next : PartState) (b : Bool) → cond {A = AppPart} b (record { part = part; state = next }) (record { part = part; state = state }) ≡ record { part = part; state = cond b next state }
stepped part state next true = refl
stepped part state next false = refl

cycles_by : (world : World) (first from n : ℕ) (p : AppPart) → after_steps (part_step world.platform first) from n p ≡ record { part = p.part; state = granted_cycles world first p.part from n p.state }
unfolding after_steps
cycles_by world first from zero p = refl
cycles_by world first from (suc n) p =
    let state = granted_cycles world first p.part from n p.state in
    ap (part_step world.platform first (from + n)) (cycles_by world first from n p)
    ∙ stepped p.part state (part_cycle world.platform.costs (place_of p.part) (from + n) state) (runs (frame_of world.platform) (slots_of p.part.slots) first (from + n))

pub cycles_alone : (world : World) (first slot : ℕ) (p : AppPart) → part_cycles world.platform first slot p ≡ record { part = p.part; state = granted_cycles world first p.part (slot * world.platform.slot_cycles) world.platform.slot_cycles p.state }
cycles_alone world first slot p = cycles_by world first (slot * world.platform.slot_cycles) world.platform.slot_cycles p

-- a slot leaves of which part it is
pub slot_part : (world : World) (bundle : Bundle) (first slot : ℕ) (flying : List Flying) (p : AppPart) → (part_slot world.platform bundle first slot flying p).part ≡ p.part
slot_part world bundle first slot flying p = ap (λ (q : AppPart). q.part) (cycles_alone world first slot (with_ports (injected world.platform bundle slot) p))
