-- What an entry of a well-formed bundle is: its numbers are in range, and its place on its tile says which
-- resource claims it.
use Rattle.std.proofs.Common.{◌≡◌, ℕ, zero, suc, ◌+◌, ◌-◌, ◌%◌, ◌<◌, ◌≤◌, ◌⊎◌, List, length, get_or, slice_get, Some, refl, sym, ap, ap₂, ◌∙◌, inl, inr, subst, arith}
use Rattle.std.proofs.Math.Nat.{mod-lt}
use Rattle.std.proofs.lemmas.Option.{slice_get_within, slice_get-get_or}
use Rattle.soc_base.specs.declared.limits.TheConstants.{MOST_PORTS}
use Rattle.platform_model.specs.declared.link.Link.{Link}
use Rattle.platform_model.specs.declared.platform.Platform.{Platform}
use Rattle.bundle_model.specs.declared.bundle.Bundle.{Bundle}
use Rattle.bundle_model.specs.declared.bundle.End.{End}
use Rattle.bundle_model.specs.declared.resource.Resource.{Resource}
use Rattle.bundle_model.specs.declared.resource.Resource.TheVariants.{Inject as InjectSlot, LinkSlot, Deliver as DeliverSlot}
use Rattle.bundle_model.specs.Ways.{Way, ways_of}
use Rattle.bundle_model.specs.WellFormed.{IsHeldEnd, IsPath, IsWellFormedWay, IsWellFormed}
use Rattle.bundle_model.proofs.Laws.{at_place, part_at, way_at}
use Rattle.tdm_network.specs.declared.entries.TableEntry.{TableEntry}
use Rattle.tdm_network.specs.declared.entries.TableEntry.TheVariants.{Inject, Out, Deliver}
use Rattle.tdm_network.specs.Spots.{spot_of, IsSource, IsInRange}
use Rattle.grant_tables.specs.Entries.{Placed, link_of, slot_entries, way_entries, bundle_entries}
use Rattle.grant_tables.specs.Law.{source_of}
use Rattle.grant_tables.proofs.Wired.{one_link, link_ports, link_is}
use Rattle.grant_tables.proofs.Sides.{inject_placed, link_placed, deliver_placed, IsPassing, flat_from, slot_from}

-- the resource that claims the place of an entry in the tables of a tile
abbrev Claims : Platform → ℕ → Resource → TableEntry → Type 0
Claims platform tile claim (Inject slot port) = claim ≡ InjectSlot tile slot
Claims platform tile claim (Out out slot source) =
    (number : ℕ) × (link : Link) × (slice_get platform.links number ≡ Some link) × (link.from ≡ tile) × (link.out ≡ out) × (claim ≡ LinkSlot number slot)
Claims platform tile claim (Deliver slot input port) = claim ≡ DeliverSlot tile slot

-- entries that have one place on a tile are claimed by one resource
same_claim : (platform : Platform) (tile : ℕ) (one other : Resource) (a b : TableEntry) → Claims platform tile one a → Claims platform tile other b → spot_of a ≡ spot_of b → one ≡ other
same_claim platform tile one other (Inject slot port) (Inject at to) x y same = cc
same_claim platform tile one other (Deliver slot input port) (Deliver at from to) x y same = cc
same_claim platform tile one other (Out out slot source) (Out by at origin) (l, first, first_there, first_from, first_out, x) (m, second, second_there, second_from, second_out, y) same =
    let output : first.out ≡ second.out = cc in
    let number : l ≡ m = one_link platform l m first second first_there second_there (first_from ∙ sym second_from) output in
    let row : slot ≡ at = cc in
    x ∙ ap₂ (λ n r. LinkSlot n r) number row ∙ sym y
same_claim platform tile one other (Inject slot port) (Out out at source) x y same = absurd (cc)
same_claim platform tile one other (Inject slot port) (Deliver at input to) x y same = absurd (cc)
same_claim platform tile one other (Out out slot source) (Inject at port) x y same = absurd (cc)
same_claim platform tile one other (Out out slot source) (Deliver at input port) x y same = absurd (cc)
same_claim platform tile one other (Deliver slot input port) (Inject at to) x y same = absurd (cc)
same_claim platform tile one other (Deliver slot input port) (Out out at source) x y same = absurd (cc)

-- an entry of a well-formed bundle
pub record IsGrounded (platform : Platform) (p : Placed) : Type 0 where
  claims : Claims platform p.tile p.claim p.entry
  pub in_range : IsInRange platform.table_slots p.entry

pub one_claim_there : (platform : Platform) (p q : Placed) → IsGrounded platform p → IsGrounded platform q → p.tile ≡ q.tile → spot_of p.entry ≡ spot_of q.entry → p.claim ≡ q.claim
one_claim_there platform p q x y tile same =
    same_claim platform q.tile p.claim q.claim p.entry q.entry (subst (λ t. Claims platform t p.claim p.entry) tile x.claims) y.claims same

-- the port of an end that a part holds is one of the platform's
pub end_port : (platform : Platform) (bundle : Bundle) (end : End) → IsWellFormed platform bundle → IsHeldEnd bundle end → end.port < platform.ports
end_port platform bundle end formed held =
    at_place (λ port. port < platform.ports) held.part.ports held.index end.port (part_at platform bundle held.place held.part formed held.there).ports_exist held.port

port_low : (platform : Platform) (port : ℕ) → port < platform.ports → port < 16
port_low platform port low = let most : platform.ports ≤ MOST_PORTS = platform.ports_in_range in omega (arith, low, most)

row_low : (platform : Platform) (n : ℕ) → n % platform.table_slots < platform.table_slots
row_low platform n = mod-lt n platform.table_slots_in_range.0

input_low : (platform : Platform) (from to : ℕ) (path : List ℕ) (k : ℕ) → IsPath platform from to path → k < length path → (link_of platform (get_or path k 0)).input < 7
input_low platform from to path k is inside =
    let linked = is.linked k (get_or path k 0) (slice_get-get_or path k 0 inside) in
    subst (λ (l : Link). l.input < 7) (sym (link_is platform (get_or path k 0) linked.0 linked.1)) (link_ports platform (get_or path k 0) linked.0 linked.1).1

source_low : (platform : Platform) (from to : ℕ) (path : List ℕ) (hop : ℕ) → IsPath platform from to path → hop < length path → IsSource (source_of platform path hop)
source_low platform from to path zero is inside = tt
source_low platform from to path (suc hop) is inside = input_low platform from to path hop is (omega (arith, inside))

-- an entry of a bundle is one of an injection slot of a channel
pub record IsFrom (platform : Platform) (bundle : Bundle) (p : Placed) : Type 0 where
  pub number : ℕ
  pub way : Way
  pub way_there : slice_get (ways_of bundle) number ≡ Some way
  pub place : ℕ
  pub slot : ℕ
  pub slot_there : slice_get way.slots place ≡ Some slot
  pub kind : (p ≡ inject_placed platform way slot) ⊎ (IsPassing platform way slot p ⊎ (p ≡ deliver_placed platform way slot))

pub from_bundle : (platform : Platform) (bundle : Bundle) (k : ℕ) (p : Placed) → slice_get (bundle_entries platform bundle) k ≡ Some p → IsFrom platform bundle p
from_bundle platform bundle k p there =
    let outer = flat_from (way_entries platform) (ways_of bundle) k p there in
    let inner = flat_from (slot_entries platform outer.1) outer.1.slots outer.2 p outer.4 in
    record {
      number = outer.0;
      way = outer.1;
      way_there = outer.3;
      place = inner.0;
      slot = inner.1;
      slot_there = inner.3;
      kind = slot_from platform outer.1 inner.1 inner.2 p inner.4;
    }

ground_inject : (platform : Platform) (bundle : Bundle) (way : Way) (slot : ℕ) → IsWellFormed platform bundle → IsWellFormedWay platform bundle way → slot < platform.table_slots → IsGrounded platform (inject_placed platform way slot)
ground_inject platform bundle way slot formed kept low = record {
  claims = refl;
  in_range = record { slot = low; numbers = port_low platform way.from.port (end_port platform bundle way.from formed kept.source) };
}

ground_deliver : (platform : Platform) (bundle : Bundle) (way : Way) (slot : ℕ) → IsWellFormed platform bundle → IsWellFormedWay platform bundle way → IsGrounded platform (deliver_placed platform way slot)
ground_deliver platform bundle way slot formed kept = record {
  claims = refl;
  in_range = record {
    slot = row_low platform (slot + length way.path);
    numbers = (
      let some = kept.path.some_link in input_low platform way.from.tile way.to.tile way.path (length way.path - 1) kept.path (omega (arith, some)),
      port_low platform way.to.port (end_port platform bundle way.to formed kept.target),
    );
  };
}

ground_link : (platform : Platform) (bundle : Bundle) (way : Way) (slot hop number : ℕ) → IsWellFormedWay platform bundle way → slice_get way.path hop ≡ Some number → IsGrounded platform (link_placed platform way slot hop number)
ground_link platform bundle way slot hop number kept passed =
    let linked = kept.path.linked hop number passed in
    let is : linked.0 ≡ link_of platform number = sym (link_is platform number linked.0 linked.1) in
    record {
      claims = (number, linked.0, linked.1, ap (λ (l : Link). l.from) is, ap (λ (l : Link). l.out) is, refl);
      in_range = record {
        slot = row_low platform (slot + 1 + hop);
        numbers = (
          subst (λ (l : Link). l.out < 7) is (link_ports platform number linked.0 linked.1).0,
          source_low platform way.from.tile way.to.tile way.path hop kept.path (slice_get_within way.path hop number passed),
        );
      };
    }

pub grounded : (platform : Platform) (bundle : Bundle) (p : Placed) → IsWellFormed platform bundle → IsFrom platform bundle p → IsGrounded platform p
grounded platform bundle p formed x =
    let kept = way_at platform bundle x.number x.way formed x.way_there in
    let low = at_place (λ slot. slot < platform.table_slots) x.way.slots x.place x.slot kept.slots x.slot_there in
    elim x.kind [
      | inl is ↦ subst (IsGrounded platform) (sym is) (ground_inject platform bundle x.way x.slot formed kept low)
      | inr (inl is) ↦ subst (IsGrounded platform) (sym is.placed_is) (ground_link platform bundle x.way x.slot is.hop is.number kept is.passed)
      | inr (inr is) ↦ subst (IsGrounded platform) (sym is) (ground_deliver platform bundle x.way x.slot formed kept)
    ]
