-- What links carry of an application in a slot is what flies alone.
use Rattle.std.proofs.Common.{◌≡◌, ℕ, suc, ◌+◌, ◌*◌, ◌%◌, ◌<◌, ◌≤◌, true, ◌==◌, List, slice_get, Some, sym, ap, ◌∙◌, inl, inr, arith}
use Rattle.std.proofs.lemmas.Bool.{eq-eqb}
use Rattle.soc_base.specs.Time.{is_among}
use Rattle.soc_base.specs.Port.{WordAndCredits}
use Rattle.bundle_model.specs.declared.resource.Resource.TheVariants.{LinkSlot}
use Rattle.bundle_model.specs.declared.world.World.{World}
use Rattle.bundle_model.specs.declared.world.Grant.{Grant}
use Rattle.bundle_model.specs.Grants.{IsApart}
use Rattle.bundle_model.specs.Resources.{resources_of}
use Rattle.bundle_model.proofs.Laws.{present_now, present_next, one_holder, passage_claim, claim_held, claim_place}
use Rattle.alone_model.specs.Network.{flit_on}
use Rattle.alone_model.specs.App.{AppState, opening, alone_at}
use Rattle.alone_model.specs.Slots.{app_slot}
use Rattle.alone_model.proofs.Laws.{alone_begins, alone_next}
use Rattle.grant_tables.specs.Claims.{Holder, Injection, Passage}
use Rattle.event_core.specs.Links.{LinkFollows}
use Rattle.event_core.proofs.Settled.{stands_parts, begun_by, earlier, back, one_grant, holds_at}
use Rattle.grant_tables.proofs.Laws.{any_at}

-- the application of a holder, alone at the beginning of a slot
abbrev pub alone_of : (world : World) (grants : List Grant) (now : ℕ) → Holder world grants now → ℕ → AppState
alone_of world grants now x slot = alone_at world.platform x.bundle x.grant.start slot

-- it begins as it was granted
pub begun_app : (world : World) (grants : List Grant) (slot : ℕ) (x : Holder world grants (slot + 1)) → x.grant.start ≡ slot → alone_of world grants (slot + 1) x slot ≡ opening world.platform x.bundle
begun_app world grants slot x same = ap (alone_at world.platform x.bundle x.grant.start) (sym same) ∙ alone_begins world.platform x.bundle x.grant.start

-- and has the slot
pub next_app : (world : World) (grants : List Grant) (slot : ℕ) (x : Holder world grants (slot + 1))
    → alone_of world grants (slot + 1) x (slot + 1) ≡ app_slot world.platform x.bundle (x.grant.start * world.platform.slot_cycles) slot (alone_of world grants (slot + 1) x slot)
next_app world grants slot x = alone_next world.platform x.bundle x.grant.start slot (begun_by world grants slot x)

-- an injection slot is one of its channel's
pub among_slots : (world : World) (grants : List Grant) (now : ℕ) (x : Injection world grants now) (row : ℕ) → x.slot ≡ row → is_among row x.way.slots ≡ true
among_slots world grants now x row same = any_at (λ m. m == row) x.way.slots x.place x.slot x.slot_there (eq-eqb x.slot row same)

-- an injection of a holder that is one at an earlier slot too
abbrev pub back_injection : (world : World) (grants : List Grant) (slot now : ℕ) (x : Injection world grants slot) → x.holder.grant.start < now → now ≤ slot → Injection world grants now
back_injection world grants slot now x begun before = record {
  holder = back world grants slot now x.holder begun before;
  number = x.number;
  way = x.way;
  way_there = x.way_there;
  place = x.place;
  slot = x.slot;
  slot_there = x.slot_there;
}

-- the claim of a passage is one of its bundle's resources
abbrev passage_place : (world : World) (grants : List Grant) (now : ℕ) (x : Injection world grants now) → ℕ → ℕ
passage_place world grants now x hop = claim_place world.platform x.holder.bundle x.way x.number x.place (suc hop)

passage_held : (world : World) (grants : List Grant) (now : ℕ) (x : Injection world grants now) (hop link row : ℕ) → slice_get x.way.path hop ≡ Some link → (x.slot + 1 + hop) % world.platform.table_slots ≡ row
    → slice_get (resources_of world.platform x.holder.bundle) (passage_place world grants now x hop) ≡ Some (LinkSlot link row)
passage_held world grants now x hop link row there is =
    let table = world.platform.table_slots in
    claim_held world.platform x.holder.bundle x.way x.number x.place x.slot (suc hop) (LinkSlot link row) x.way_there x.slot_there
    (passage_claim table x.way.from.tile x.way.to.tile x.slot hop link x.way.path there ∙ ap (λ n. Some (LinkSlot link n)) is)

module _ (world : World) (grants : List Grant) (slot : ℕ) where
  abbrev row : ℕ
  row = slot % world.platform.table_slots

  -- where a grant begins, no other has a flit on its links
  none_before : IsApart world grants → (x : Injection world grants (slot + 1)) (hop link : ℕ) → x.holder.grant.start ≡ slot → slice_get x.way.path hop ≡ Some link → (x.slot + 1 + hop) % world.platform.table_slots ≡ row → Passage world grants slot row link → ⊥
  none_before apart x hop link same there is p =
      let y = p.injection in
      let one = one_holder world grants slot (LinkSlot link row) apart
      (holds_at world grants slot (slot + 1) _ (LinkSlot link row) x.holder (present_next grants slot x.holder.index x.holder.grant x.holder.granted x.holder.stands)
      (passage_held world grants (slot + 1) x hop link row there is))
      (holds_at world grants slot slot _ (LinkSlot link row) y.holder (present_now grants slot y.holder.index y.holder.grant y.holder.granted y.holder.stands)
      (passage_held world grants slot y p.hop link row p.link_there p.row_is)) in
      let start : x.holder.grant.start ≡ y.holder.grant.start = ap (λ (g : Grant). g.start) (one_grant world grants (slot + 1) slot x.holder y.holder one) in
      let low = (stands_parts slot y.holder.grant y.holder.stands).0 in
      omega arith

  -- what a link of a channel carries in this slot flies alone
  pub link_now : IsApart world grants → (x : Injection world grants (slot + 1)) (hop number : ℕ) (flit : WordAndCredits) → slice_get x.way.path hop ≡ Some number → (x.slot + 1 + hop) % world.platform.table_slots ≡ row → LinkFollows world grants slot number flit
      → flit ≡ flit_on (alone_of world grants (slot + 1) x.holder slot).flying slot x.number hop
  link_now apart x hop number flit there is follows = elim (earlier world grants slot x.holder) [
    | inl before ↦
        let p : Passage world grants slot row number = record { injection = back_injection world grants (slot + 1) slot x before (omega arith); hop = hop; link_there = there; row_is = is } in
        follows.claimed p
    | inr same ↦
        follows.free (λ p. none_before apart x hop number same there is p)
        ∙ sym (ap (λ (app : AppState). flit_on app.flying slot x.number hop) (begun_app world grants slot x.holder same))
  ]
