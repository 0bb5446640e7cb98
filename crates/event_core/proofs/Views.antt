-- The part of a load as its application has it alone, slot by slot.
use Rattle.std.proofs.Common.{◌≡◌, ℕ, ◌+◌, ◌≤◌, ◌==◌, ◌&&◌, min, max, nat_lt, true, false, cond, List, [], slice_get, Option, Some, None, unwrap_or, refl, sym, ap, ◌∙◌, inl, inr, arith}
use Rattle.std.specs.Option.{option_map_or}
use Rattle.std.proofs.lemmas.Bool.{cases_lt, cases_Bool, and_parts, and_from, lt-ltb, le-leb, leb-true, eqb-true, false≢true}
use Rattle.rv_core.specs.Registers.{fresh_registers}
use Rattle.bundle_model.specs.declared.bundle.Part.{Part}
use Rattle.bundle_model.specs.declared.world.World.{World}
use Rattle.bundle_model.specs.declared.world.Grant.{Grant}
use Rattle.bundle_model.specs.Grants.{lasts_to, stands_at}
use Rattle.bundle_model.specs.World.{IsSoundCatalog, part_on}
use Rattle.trace_log.specs.Log.{new_log}
use Rattle.part_model.specs.Part.{PartState}
use Rattle.alone_model.specs.Network.{AppPart}
use Rattle.alone_model.specs.App.{alone_at, opening_part}
use Rattle.tile_core.specs.Tile.{TileState, load_part}
use Rattle.tile_core.specs.Slot.{begins_in}
use Rattle.tile_core.specs.Views.{opening_view, opened_view, place_grant}
use Rattle.event_core.specs.Stands.{alone_part, stop_slot}
use Rattle.event_core.proofs.Parts.{IsAlonePart, alone_part_on, alone_state, alone_opens}

-- a part of a load that isn't granted: its log is empty
abbrev pub closed_part : ℕ → PartState
closed_part trace = record { regs = fresh_registers 0; left = 0; bytes = []; ports = []; log = new_log trace }

-- the part of a load, followed up to a slot
abbrev pub view_by : World → ℕ → ℕ → Option Grant → Option Part → PartState
view_by world slot number grant None = closed_part 0
view_by world slot number None (Some part) = closed_part part.trace
view_by world slot number (Some grant) (Some part) = unwrap_or (alone_part world grant (stop_slot slot grant) number) (closed_part part.trace)

-- the same of the load at a place of a tile
abbrev pub view_at : World → List Grant → ℕ → TileState → ℕ → PartState
view_at world grants slot tile place = view_by world slot tile.number (place_grant grants tile place) (load_part world tile place)

-- while a grant lasts, its application is followed up to the slot
stop_by : (slot start : ℕ) (end : Option ℕ) → start ≤ slot → lasts_to slot end ≡ true → max start (option_map_or (λ e. min e slot) end slot) ≡ slot
stop_by slot start None begun lasts = omega arith
stop_by slot start (Some end) begun lasts = let later = leb-true slot end lasts in omega arith

pub stop_now : (slot : ℕ) (grant : Grant) → grant.start ≤ slot → lasts_to slot grant.end ≡ true → stop_slot slot grant ≡ slot
stop_now slot grant begun lasts = stop_by slot grant.start grant.end begun lasts

-- and up to the same slot as before where it doesn't stand
still_by : (slot start : ℕ) (end : Option ℕ) → (nat_lt start (slot + 1) && lasts_to (slot + 1) end) ≡ false → max start (option_map_or (λ e. min e (slot + 1)) end (slot + 1)) ≡ max start (option_map_or (λ e. min e slot) end slot)
still_by slot start None stays = elim (cases_lt start (slot + 1)) [
  | inl low ↦ absurd (false≢true (sym stays ∙ and_from (nat_lt start (slot + 1)) true (lt-ltb start (slot + 1) low) refl))
  | inr high ↦ omega arith
]
still_by slot start (Some end) stays = elim (cases_lt start (slot + 1)) [
  | inl low ↦ elim (cases_lt end (slot + 1)) [
    | inl over ↦ let e : min end (slot + 1) ≡ min end slot = omega arith in ap (λ m. max start m) e
    | inr on ↦ absurd (false≢true (sym stays ∙ and_from (nat_lt start (slot + 1)) (lasts_to (slot + 1) (Some end)) (lt-ltb start (slot + 1) low) (le-leb (slot + 1) end on)))
  ]
  | inr high ↦ omega arith
]

pub stop_still : (slot : ℕ) (grant : Grant) → stands_at (slot + 1) grant ≡ false → stop_slot (slot + 1) grant ≡ stop_slot slot grant
stop_still slot grant stays = still_by slot grant.start grant.end stays

-- a part is seen as it is alone in the slot up to which it is followed
pub view_stop : (world : World) (grant : Grant) (slot stop number : ℕ) (part : Part) (state : PartState) → stop_slot slot grant ≡ stop → alone_part world grant stop number ≡ Some state → view_by world slot number (Some grant) (Some part) ≡ state
view_stop world grant slot stop number part state at is =
    ap (λ (o : Option PartState). unwrap_or o (closed_part part.trace)) (ap (λ s. alone_part world grant s number) at ∙ is)

-- with an empty log, where that is its start
pub opening_log : (world : World) (grant : Grant) (slot number : ℕ) (part : Part) → IsSoundCatalog world → part_on world number grant.bundle ≡ Some part → stop_slot slot grant ≡ grant.start → (view_by world slot number (Some grant) (Some part)).log ≡ new_log part.trace
opening_log world grant slot number part sound on stop =
    let alone = alone_part_on world grant grant.start number part sound on in
    let opens = alone_opens world alone.bundle grant.start alone.place part alone.one alone.there alone.one_there in
    ap (λ (s : PartState). s.log) (view_stop world grant slot grant.start number part alone.one.state stop (alone_state world grant grant.start number part sound alone))
    ∙ ap (λ (p : AppPart). p.state.log) opens

-- a grant that has begun and lasts is seen as it is alone
pub view_alone : (world : World) (grant : Grant) (slot number : ℕ) (part : Part) (state : PartState) → grant.start ≤ slot → lasts_to slot grant.end ≡ true → alone_part world grant slot number ≡ Some state → view_by world slot number (Some grant) (Some part) ≡ state
view_alone world grant slot number part state begun lasts is = view_stop world grant slot slot number part state (stop_now slot grant begun lasts) is

-- where it begins in the slot, it is as it opens
pub opened_alone : (world : World) (grant : Grant) (slot number : ℕ) (part : Part) (is : IsAlonePart world grant slot number part) → opened_view world slot grant part is.one.state ≡ is.one.state
opened_alone world grant slot number part is = elim (cases_Bool (begins_in slot grant)) [
  | inl begins ↦
      let start : grant.start ≡ slot = eqb-true grant.start slot (and_parts (grant.start == slot) _ begins).0 in
      let at : slice_get (alone_at world.platform is.bundle grant.start grant.start).parts is.place ≡ Some is.one =
      ap (λ s. slice_get (alone_at world.platform is.bundle grant.start s).parts is.place) start ∙ is.one_there in
      let opens : is.one ≡ opening_part world.platform part = alone_opens world is.bundle grant.start is.place part is.one is.there at in
      ap (λ b. cond b (opening_view world part is.one.state.log) is.one.state) begins
      ∙ ap (λ (p : AppPart). opening_view world part p.state.log) opens
      ∙ sym (ap (λ (p : AppPart). p.state) opens)
  | inr goes_on ↦ ap (λ b. cond b (opening_view world part is.one.state.log) is.one.state) goes_on
]
