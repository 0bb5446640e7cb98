-- The ends of the links of stations that are linked can be found.
use Rattle.std.proofs.Common.{◌≡◌, ℕ, ◌==◌, not, true, List, map, find, slice_get, Option, Some, None, option_map, IsSome, pos, int_le, int_lt, ◌&&◌, refl, sym, ap, ◌∙◌, true≢false}
use Rattle.std.specs.Option.{option_and_then}
use Rattle.std.specs.Ordering.{int_eq}
use Rattle.std.proofs.lemmas.Bool.{and_parts, false≢true}
use Rattle.std.proofs.lemmas.Option.{none-some, same_Some}
use Rattle.platform_model.specs.declared.link.Link.{Link}
use Rattle.platform_model.specs.declared.platform.Platform.{Platform}
use Rattle.platform_model.specs.Links.{raw_link, joins_tiles}
use Rattle.flit_link.specs.Names.{LinkName}
use Rattle.flit_link.specs.declared.ends.LinkOut.{LinkOut}
use Rattle.flit_link.specs.declared.ends.LinkIn.{LinkIn}
use Rattle.flit_link.specs.Link.{name_of_out, name_of_in}
use Rattle.tile_core.specs.declared.wire.Wire.{Wire}
use Rattle.tile_core.specs.declared.station.Station.{Station}
use Rattle.tile_core.specs.Wires.{Seen, out_seen, in_seen, but_flits, ring_of}
use Rattle.tile_core.specs.Station.{StationState, Ends, station_state, ends_of, AreLinked, written_ring}
use Rattle.bundle_model.proofs.Laws.{find_map, mapped_place}
use Rattle.grant_tables.proofs.Laws.{all_at, numbers_equal, raw_at}
use Rattle.serial_run.specs.inner.Hops.{is_out_of, is_in_of, out_end, in_end, all_ends, CanFindAll}
use Rattle.serial_run.proofs.Ends.{then_some}
use Rattle.serial_run.proofs.Stepped.{mapped_at}

some_is : {X : Type 0} (o : Option X) → IsSome o → (x : X) × (o ≡ Some x)
some_is None some = absurd (true≢false (sym some))
some_is (Some x) some = (x, refl)

image_some : {X Y : Type 0} (f : X → Y) (o : Option X) (y : Y) → option_map f o ≡ Some y
    → (x : X) × (o ≡ Some x) × (f x ≡ y)
image_some f None y is = absurd (none-some y is)
image_some f (Some x) y is = (x, refl, same_Some (f x) y is)

-- no link leads from a tile to itself
pub leads_away : (platform : Platform) (number : ℕ) (link : Link) → slice_get platform.links number ≡ Some link
    → link.from ≡ link.to → ⊥
leads_away platform number link at same =
    let test = joins_tiles (pos platform.tiles) in
    let joins = all_at test (map raw_link platform.links) number (raw_link link) platform.links_join_tiles
    (raw_at platform number link at) in
    let apart : not (int_eq (pos link.from) (pos link.to)) ≡ true =
    (and_parts (int_le (pos 0) (pos link.from) && int_lt (pos link.from) (pos platform.tiles)
    && int_le (pos 0) (pos link.to)
    && int_lt (pos link.to) (pos platform.tiles)) (not (int_eq (pos link.from) (pos link.to))) joins).1 in
    false≢true (sym (ap not (numbers_equal link.from link.to same)) ∙ apart)

-- the end whose ring is that of a link
out_ring : (outs : List (Wire LinkOut)) (number : ℕ) (ring : LinkName) → ring_of (map out_seen outs) number ≡ Some ring
    → (wire : Wire LinkOut) × (find (is_out_of number) outs ≡ Some wire) × (name_of_out wire.end ≡ ring)
out_ring outs number ring is =
    let (seen, found, ring_is) = image_some (λ (s : Seen). s.ring)
    (find (λ (s : Seen). s.link == number) (map out_seen outs)) ring is in
    let (wire, there, seen_is) = image_some out_seen (find (is_out_of number) outs) seen
    (sym (find_map out_seen (λ (s : Seen). s.link == number) outs) ∙ found) in
    (wire, there, ap (λ (s : Seen). s.ring) seen_is ∙ ring_is)

in_ring : (ins : List (Wire LinkIn)) (number : ℕ) (ring : LinkName) → ring_of (map in_seen ins) number ≡ Some ring
    → (wire : Wire LinkIn) × (find (is_in_of number) ins ≡ Some wire) × (name_of_in wire.end ≡ ring)
in_ring ins number ring is =
    let (seen, found, ring_is) = image_some (λ (s : Seen). s.ring)
    (find (λ (s : Seen). s.link == number) (map in_seen ins)) ring is in
    let (wire, there, seen_is) = image_some in_seen (find (is_in_of number) ins) seen
    (sym (find_map in_seen (λ (s : Seen). s.link == number) ins) ∙ found) in
    (wire, there, ap (λ (s : Seen). s.ring) seen_is ∙ ring_is)

pub can_find_all : (platform : Platform) (stations : List Station)
    → AreLinked platform.links (map station_state stations)
    → CanFindAll platform.links stations
can_find_all platform stations linked number link at =
    let states = map station_state stations in
    let (some, one) = linked number link at in
    let (ring, written) = some_is (written_ring states link.from number) some in
    let (to_s, to_s_at, s_ring) = then_some (λ (s : StationState). ring_of s.outs number) (slice_get states link.from)
    ring written in
    let (to_r, to_r_at, r_ring) = then_some (λ (s : StationState). ring_of s.ins number) (slice_get states link.to)
    ring (one ∙ written) in
    let (sender, sender_at, sender_is) = mapped_place station_state stations link.from to_s to_s_at in
    let (receiver, receiver_at, receiver_is) = mapped_place station_state stations link.to to_r to_r_at in
    let (out, out_is, out_ring_is) = out_ring sender.outs.items number ring
    (ap (λ (s : StationState). ring_of s.outs number) sender_is ∙ s_ring) in
    let (input, input_is, in_ring_is) = in_ring receiver.ins.items number ring
    (ap (λ (s : StationState). ring_of s.ins number) receiver_is ∙ r_ring) in
    record {
      sender = sender;
      receiver = receiver;
      out = out;
      input = input;
      apart = leads_away platform number link at;
      from = sender_at;
      to = receiver_at;
      out_is = out_is;
      input_is = input_is;
      ends = in_ring_is ∙ sym out_ring_is;
    }

-- an end of a station at a place, without its flits
pub out_end_at : (stations : List Station) (tile place : ℕ) (station : Station) (wire : Wire LinkOut)
    → slice_get stations tile ≡ Some station
    → slice_get station.outs.items place ≡ Some wire
    → out_end (all_ends (map station_state stations)) tile place ≡ Some (but_flits (out_seen wire))
out_end_at stations tile place station wire at there =
    ap (λ found. option_and_then (λ (e : Ends). slice_get e.outs place) found)
    (mapped_at ends_of (map station_state stations) tile (station_state station)
    (mapped_at station_state stations tile station at))
    ∙ mapped_at but_flits (map out_seen station.outs.items) place (out_seen wire)
    (mapped_at out_seen station.outs.items place wire there)

pub in_end_at : (stations : List Station) (tile place : ℕ) (station : Station) (wire : Wire LinkIn)
    → slice_get stations tile ≡ Some station
    → slice_get station.ins.items place ≡ Some wire
    → in_end (all_ends (map station_state stations)) tile place ≡ Some (but_flits (in_seen wire))
in_end_at stations tile place station wire at there =
    ap (λ found. option_and_then (λ (e : Ends). slice_get e.ins place) found)
    (mapped_at ends_of (map station_state stations) tile (station_state station)
    (mapped_at station_state stations tile station at))
    ∙ mapped_at but_flits (map in_seen station.ins.items) place (in_seen wire)
    (mapped_at in_seen station.ins.items place wire there)
