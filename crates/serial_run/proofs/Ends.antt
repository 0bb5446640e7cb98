-- The ends of links among stations, by their places.
use Rattle.std.proofs.Common.{◌≡◌, ℕ, Bool, List, map, slice_get, Option, Some, None, IsTrue, refl, sym, ap, subst, ◌∙◌}
use Rattle.std.specs.Option.{option_and_then}
use Rattle.std.proofs.lemmas.Option.{none-some, same_Some, slice_get_within}
use Rattle.flit_link.specs.declared.ends.LinkOut.{LinkOut}
use Rattle.flit_link.specs.declared.ends.LinkIn.{LinkIn}
use Rattle.flit_link.specs.Link.{AreEnds}
use Rattle.tile_core.specs.declared.wire.Wire.{Wire}
use Rattle.tile_core.specs.declared.station.Station.{Station}
use Rattle.tile_core.specs.Wires.{Seen, out_seen, in_seen, but_flits}
use Rattle.tile_core.specs.Station.{StationState, Ends, station_state, ends_of}
use Rattle.bundle_model.proofs.Laws.{mapped_place}
use Rattle.serial_run.specs.declared.hops.Hop.{Hop}
use Rattle.serial_run.specs.inner.Hops.{out_at, in_at, out_end, in_end, all_ends, AtEnds, StandInLine, HasEnds}
use Rattle.serial_run.specs.inner.Carrying.{CanCarryStations, CanCarryLink}
use Rattle.serial_run.proofs.Carried.{AreHere}

pub then_some : {A B : Type 0} (f : A → Option B) (o : Option A) (y : B) → option_and_then f o ≡ Some y
    → (x : A) × (o ≡ Some x) × (f x ≡ Some y)
then_some f None y is = absurd (none-some y is)
then_some f (Some x) y is = (x, refl, is)

-- the station and the end at a place
pub record IsOutAt (stations : List Station) (tile place : ℕ) (seen : Seen) : Type 0 where
  pub station : Station
  pub wire : Wire LinkOut
  pub at : slice_get stations tile ≡ Some station
  pub there : slice_get station.outs.items place ≡ Some wire
  pub is : but_flits (out_seen wire) ≡ seen

pub record IsInAt (stations : List Station) (tile place : ℕ) (seen : Seen) : Type 0 where
  pub station : Station
  pub wire : Wire LinkIn
  pub at : slice_get stations tile ≡ Some station
  pub there : slice_get station.ins.items place ≡ Some wire
  pub is : but_flits (in_seen wire) ≡ seen

pub out_in : (stations : List Station) (tile place : ℕ) (seen : Seen) (station : Station)
    → slice_get stations tile ≡ Some station
    → slice_get (map but_flits (map out_seen station.outs.items)) place ≡ Some seen → IsOutAt stations tile place seen
out_in stations tile place seen station at is =
    let (far, far_at, far_is) = mapped_place but_flits (map out_seen station.outs.items) place seen is in
    let (wire, wire_at, wire_is) = mapped_place out_seen station.outs.items place far far_at in
    record { station = station; wire = wire; at = at; there = wire_at; is = ap but_flits wire_is ∙ far_is }

pub in_in : (stations : List Station) (tile place : ℕ) (seen : Seen) (station : Station)
    → slice_get stations tile ≡ Some station
    → slice_get (map but_flits (map in_seen station.ins.items)) place ≡ Some seen → IsInAt stations tile place seen
in_in stations tile place seen station at is =
    let (far, far_at, far_is) = mapped_place but_flits (map in_seen station.ins.items) place seen is in
    let (wire, wire_at, wire_is) = mapped_place in_seen station.ins.items place far far_at in
    record { station = station; wire = wire; at = at; there = wire_at; is = ap but_flits wire_is ∙ far_is }

pub out_found : (stations : List Station) (tile place : ℕ) (seen : Seen)
    → out_end (all_ends (map station_state stations)) tile place ≡ Some seen → IsOutAt stations tile place seen
out_found stations tile place seen is =
    let (ends, ends_at, seen_at) = then_some (λ (e : Ends). slice_get e.outs place)
    (slice_get (all_ends (map station_state stations)) tile) seen is in
    let (state, state_at, ends_are) = mapped_place ends_of (map station_state stations) tile ends ends_at in
    let (station, station_at, state_is) = mapped_place station_state stations tile state state_at in
    let outs : map but_flits (map out_seen station.outs.items) ≡ ends.outs =
    ap (λ (s : StationState). map but_flits s.outs) state_is ∙ ap (λ (e : Ends). e.outs) ends_are in
    out_in stations tile place seen station station_at (ap (λ (l : List Seen). slice_get l place) outs ∙ seen_at)

pub in_found : (stations : List Station) (tile place : ℕ) (seen : Seen)
    → in_end (all_ends (map station_state stations)) tile place ≡ Some seen → IsInAt stations tile place seen
in_found stations tile place seen is =
    let (ends, ends_at, seen_at) = then_some (λ (e : Ends). slice_get e.ins place)
    (slice_get (all_ends (map station_state stations)) tile) seen is in
    let (state, state_at, ends_are) = mapped_place ends_of (map station_state stations) tile ends ends_at in
    let (station, station_at, state_is) = mapped_place station_state stations tile state state_at in
    let ins : map but_flits (map in_seen station.ins.items) ≡ ends.ins =
    ap (λ (s : StationState). map but_flits s.ins) state_is ∙ ap (λ (e : Ends). e.ins) ends_are in
    in_in stations tile place seen station station_at (ap (λ (l : List Seen). slice_get l place) ins ∙ seen_at)

-- the end of a station at a place
pub out_there : (stations : List Station) (tile place : ℕ) (station : Station) (wire : Wire LinkOut)
    → slice_get stations tile ≡ Some station
    → slice_get station.outs.items place ≡ Some wire → out_at stations tile place ≡ Some wire
out_there stations tile place station wire at there =
    ap (λ found. option_and_then (λ (s : Station). slice_get s.outs.items place) found) at ∙ there

pub in_there : (stations : List Station) (tile place : ℕ) (station : Station) (wire : Wire LinkIn)
    → slice_get stations tile ≡ Some station
    → slice_get station.ins.items place ≡ Some wire → in_at stations tile place ≡ Some wire
in_there stations tile place station wire at there =
    ap (λ found. option_and_then (λ (s : Station). slice_get s.ins.items place) found) at ∙ there

module _ (stations : List Station) (number : ℕ) (hop : Hop)
    (has : HasEnds (all_ends (map station_state stations)) number hop) where
  abbrev pub out_of : IsOutAt stations hop.from hop.out has.out
  out_of = out_found stations hop.from hop.out has.out has.out_is

  abbrev pub in_of : IsInAt stations hop.to hop.input has.input
  in_of = in_found stations hop.to hop.input has.input has.input_is

  pub ends_here : AreHere hop stations
  ends_here = record {
    sender = out_of.station;
    receiver = in_of.station;
    out = out_of.wire;
    input = in_of.wire;
    from = out_of.at;
    to = in_of.at;
    out_is = out_of.there;
    input_is = in_of.there;
    apart = has.apart;
  }

  one_ring : AreEnds out_of.wire.end in_of.wire.end
  one_ring = ap (λ (seen : Seen). seen.ring) in_of.is ∙ has.ring ∙ sym (ap (λ (seen : Seen). seen.ring) out_of.is)

  pub can_carry : (in_line : Bool) → (IsTrue in_line → AtEnds StandInLine stations hop)
      → CanCarryLink in_line hop stations
  can_carry in_line line = record {
    from = slice_get_within stations hop.from out_of.station out_of.at;
    to = slice_get_within stations hop.to in_of.station in_of.at;
    apart = has.apart;
    can = λ s r at_s at_r.
        let is_s = same_Some out_of.station s (sym out_of.at ∙ at_s) in
        let is_r = same_Some in_of.station r (sym in_of.at ∙ at_r) in
        let here : CanCarryStations in_line hop out_of.station in_of.station = record {
          out_within = slice_get_within out_of.station.outs.items hop.out out_of.wire out_of.there;
          input_within = slice_get_within in_of.station.ins.items hop.input in_of.wire in_of.there;
          can = λ w v at_w at_v.
              let is_w = same_Some out_of.wire w (sym out_of.there ∙ at_w) in
              let is_v = same_Some in_of.wire v (sym in_of.there ∙ at_v) in
              let Ends = λ (x : Wire LinkOut) (y : Wire LinkIn). AreEnds x.end y.end in
              record {
                ends = subst (λ x. Ends x v) is_w (subst (Ends out_of.wire) is_v one_ring);
                line = λ known. line known w v (out_there stations hop.from hop.out out_of.station w out_of.at at_w)
                    (in_there stations hop.to hop.input in_of.station v in_of.at at_v);
              };
        } in
        subst (λ x. CanCarryStations in_line hop x r) is_s
        (subst (CanCarryStations in_line hop out_of.station) is_r here);
  }
