-- The two ends of a link among stations that have run by themselves.
use Rattle.std.proofs.Common.{◌≡◌, ℕ, ◌+◌, ◌==◌, true, List, map, get_or, slice_get, length, Contains, Some, inl, inr, sym, ap, subst, ◌∙◌, pos, arith}
use Rattle.std.specs.List.{range_with_len}
use Rattle.std.specs.Ordering.{int_eq}
use Rattle.std.proofs.lemmas.Bool.{cases_order, and_from, eqb-true}
use Rattle.std.proofs.lemmas.List.{get_or-map, length-map}
use Rattle.std.proofs.lemmas.List.FromFn.{get_or-range_with_len, length-range_with_len, length-map-range_with_len}
use Rattle.std.proofs.lemmas.Option.{same_Some, cond_some, slice_get_within, get_or_from_slice_get}
use Rattle.platform_model.specs.declared.link.Link.{Link}
use Rattle.platform_model.specs.declared.platform.Platform.{Platform}
use Rattle.platform_model.specs.Links.{raw_link, enters_alike}
use Rattle.bundle_model.specs.declared.world.World.{World}
use Rattle.bundle_model.specs.declared.world.LoadName.{LoadName}
use Rattle.bundle_model.specs.declared.world.Grant.{Grant}
use Rattle.lockstep.specs.Lockstep.{run_puts}
use Rattle.flit_link.specs.declared.ends.LinkOut.{LinkOut}
use Rattle.flit_link.specs.declared.ends.LinkIn.{LinkIn}
use Rattle.flit_link.specs.Link.{flits_set, flits_taken}
use Rattle.tile_core.specs.declared.wire.Wire.{Wire}
use Rattle.tile_core.specs.declared.station.Station.{Station}
use Rattle.tile_core.specs.Lockstep.{tile_hardware}
use Rattle.tile_core.specs.Wires.{Seen, out_seen, in_seen, output_on, input_on, flits_at}
use Rattle.tile_core.specs.Station.{StationState, station_state, HasRun, HaveRun, came}
use Rattle.grant_tables.proofs.Laws.{no_twin, numbers_equal, raw_at, one_link}
use Rattle.serial_run.specs.declared.hops.Hop.{Hop}
use Rattle.serial_run.specs.inner.Hops.{out_at, in_at, all_ends, AreHops}
use Rattle.serial_run.proofs.Ends.{out_found, in_found, out_there, in_there}
use Rattle.serial_run.proofs.Spots.{AreApartAt, end_link, flits_there}
use Rattle.serial_run.proofs.Stepped.{mapped_at}

enter_alike : (one other : Link) → one.to ≡ other.to → one.input ≡ other.input
    → enters_alike (raw_link one) (raw_link other) ≡ true
enter_alike one other to input =
    and_from (int_eq (pos one.to) (pos other.to)) (int_eq (pos one.input) (pos other.input))
    (numbers_equal one.to other.to to) (numbers_equal one.input other.input input)

-- no two links enter one input of a tile
pub one_entry : (platform : Platform) (l m : ℕ) (one other : Link) → slice_get platform.links l ≡ Some one
    → slice_get platform.links m ≡ Some other → one.to ≡ other.to → one.input ≡ other.input → l ≡ m
one_entry platform l m one other at_l at_m to input = elim (cases_order l m) [
  | inl same ↦ same
  | inr (inl before) ↦ absurd
      (no_twin enters_alike (map raw_link platform.links) l m (raw_link one) (raw_link other) platform.links_enter_apart
      before (raw_at platform l one at_l) (raw_at platform m other at_m) (enter_alike one other to input))
  | inr (inr behind) ↦ absurd
      (no_twin enters_alike (map raw_link platform.links) m l (raw_link other) (raw_link one) platform.links_enter_apart
      behind (raw_at platform m other at_m) (raw_at platform l one at_l) (enter_alike other one (sym to) (sym input)))
]

pub on_output : (tile : ℕ) (link : Link) (place : ℕ) → output_on tile link ≡ Some place
    → (link.from ≡ tile) × (link.out ≡ place)
on_output tile link place is =
    let both = cond_some (link.from == tile) link.out place is in (eqb-true link.from tile both.0, both.1)

pub on_input : (tile : ℕ) (link : Link) (place : ℕ) → input_on tile link ≡ Some place
    → (link.to ≡ tile) × (link.input ≡ place)
on_input tile link place is =
    let both = cond_some (link.to == tile) link.input place is in (eqb-true link.to tile both.0, both.1)

pub outputs_apart : (platform : Platform) (tile : ℕ) → AreApartAt (output_on tile) platform.links
outputs_apart platform tile l m one other at at_l at_m is_one is_other =
    let a = on_output tile one at is_one in
    let b = on_output tile other at is_other in
    one_link platform l m one other at_l at_m (a.0 ∙ sym b.0) (a.1 ∙ sym b.1)

pub inputs_apart : (platform : Platform) (tile : ℕ) → AreApartAt (input_on tile) platform.links
inputs_apart platform tile l m one other at at_l at_m is_one is_other =
    let a = on_input tile one at is_one in
    let b = on_input tile other at is_other in
    one_entry platform l m one other at_l at_m (a.0 ∙ sym b.0) (a.1 ∙ sym b.1)

pub contained : {X : Type 0} (xs : List X) (k : ℕ) (x : X) → slice_get xs k ≡ Some x → Contains xs x
contained xs k x at = (k, slice_get_within xs k x at, get_or_from_slice_get xs k x x at)

-- the station of a tile has run by itself, and has its number
pub record IsRunAt (world : World) (loads : List LoadName) (grants : List Grant) (tile : ℕ) (station : Station)
    : Type 0 where
  pub run : HasRun world loads grants (station_state station)
  pub number : station.tile.number ≡ tile

number_at : (states : List StationState) (tiles k : ℕ) (state : StationState)
    → map (λ state. state.tile.number) states ≡ range_with_len 0 tiles
    → slice_get states k ≡ Some state → state.tile.number ≡ k
number_at states tiles k state order at =
    let number = λ (s : StationState). s.tile.number in
    let inside = slice_get_within states k state at in
    let long : length states ≡ tiles = sym (length-map states number) ∙ ap length order
    ∙ length-range_with_len 0 tiles in
    let read : get_or (map number states) k 0 ≡ number state =
    get_or-map number states k state 0 inside ∙ ap number (get_or_from_slice_get states k state state at) in
    let counted : get_or (range_with_len 0 tiles) k 0 ≡ 0 + k =
    get_or-range_with_len 0 tiles k 0 (omega (arith, inside, long)) in
    omega (arith, read, counted, ap (λ (l : List ℕ). get_or l k 0) order)

pub run_at : (world : World) (loads : List LoadName) (grants : List Grant) (stations : List Station) (tile : ℕ)
    (station : Station)
    → HaveRun world loads grants (map station_state stations) → slice_get stations tile ≡ Some station
    → IsRunAt world loads grants tile station
run_at world loads grants stations tile station run at =
    let Run = HasRun world loads grants in
    let state_at = mapped_at station_state stations tile station at in
    let inside = slice_get_within (map station_state stations) tile (station_state station) state_at in
    record {
      run = subst Run (get_or_from_slice_get (map station_state stations) tile (station_state station)
          (station_state station) state_at)
          (run.each tile (station_state station) inside);
      number = number_at (map station_state stations) world.platform.tiles tile (station_state station) run.in_order
          state_at;
    }

-- both ends of a link, and what is seen of them
pub record IsJoined (stations : List Station) (number : ℕ) (link : Link) (hop : Hop) : Type 0 where
  pub sender : Station
  pub receiver : Station
  pub out : Wire LinkOut
  pub input : Wire LinkIn
  pub from : slice_get stations link.from ≡ Some sender
  pub to : slice_get stations link.to ≡ Some receiver
  pub out_is : slice_get sender.outs.items hop.out ≡ Some out
  pub input_is : slice_get receiver.ins.items hop.input ≡ Some input
  pub out_here : out_at stations hop.from hop.out ≡ Some out
  pub input_here : in_at stations hop.to hop.input ≡ Some input
  pub out_link : out.link ≡ number
  pub input_link : input.link ≡ number
  pub set : flits_at (map out_seen sender.outs.items) link.out ≡ flits_set out.end
  pub taken : flits_at (map in_seen receiver.ins.items) link.input ≡ flits_taken input.end
  pub set_count : length (flits_set out.end) ≡ sender.tile.at
  pub taken_count : length (flits_taken input.end) ≡ receiver.tile.at

module _ (world : World) (loads : List LoadName) (grants : List Grant) where
  -- the flits set into a link are those of the end at its output
  out_flits : (tile : ℕ) (station : Station) → IsRunAt world loads grants tile station → (number : ℕ) (link : Link)
      → slice_get world.platform.links number ≡ Some link → link.from ≡ tile → (k : ℕ) (wire : Wire LinkOut)
      → slice_get station.outs.items k ≡ Some wire → wire.link ≡ number
      → flits_at (map out_seen station.outs.items) link.out ≡ flits_set wire.end
  out_flits tile station run number link at from k wire there is =
      let platform = world.platform in
      let place = output_on station.tile.number in
      let seens = map out_seen station.outs.items in
      let seen_at = mapped_at out_seen station.outs.items k wire there in
      let spot = end_link place platform.links seens run.run.wired.outs k (out_seen wire) seen_at in
      let same : spot.number ≡ number = omega (arith, spot.numbered, is) in
      let link_same : spot.link ≡ link = same_Some spot.link link
      (sym spot.at ∙ ap (slice_get platform.links) same ∙ at) in
      let out : link.out ≡ wire.place = sym (ap (λ (l : Link). l.out) link_same)
      ∙ (on_output station.tile.number spot.link wire.place spot.is).1 in
      ap (flits_at seens) out ∙ flits_there place platform.links seens run.run.wired.outs
      (outputs_apart platform station.tile.number) k (out_seen wire) seen_at

  in_flits : (tile : ℕ) (station : Station) → IsRunAt world loads grants tile station → (number : ℕ) (link : Link)
      → slice_get world.platform.links number ≡ Some link → link.to ≡ tile → (k : ℕ) (wire : Wire LinkIn)
      → slice_get station.ins.items k ≡ Some wire → wire.link ≡ number
      → flits_at (map in_seen station.ins.items) link.input ≡ flits_taken wire.end
  in_flits tile station run number link at to k wire there is =
      let platform = world.platform in
      let place = input_on station.tile.number in
      let seens = map in_seen station.ins.items in
      let seen_at = mapped_at in_seen station.ins.items k wire there in
      let spot = end_link place platform.links seens run.run.wired.ins k (in_seen wire) seen_at in
      let same : spot.number ≡ number = omega (arith, spot.numbered, is) in
      let link_same : spot.link ≡ link = same_Some spot.link link
      (sym spot.at ∙ ap (slice_get platform.links) same ∙ at) in
      let input : link.input ≡ wire.place = sym (ap (λ (l : Link). l.input) link_same)
      ∙ (on_input station.tile.number spot.link wire.place spot.is).1 in
      ap (flits_at seens) input ∙ flits_there place platform.links seens run.run.wired.ins
      (inputs_apart platform station.tile.number) k (in_seen wire) seen_at

  pub joined : (stations : List Station) (hops : List Hop) → HaveRun world loads grants (map station_state stations)
      → AreHops (all_ends (map station_state stations)) world.platform.links hops → (number : ℕ) (link : Link)
      → slice_get world.platform.links number ≡ Some link
      → (hop : Hop) × (slice_get hops number ≡ Some hop) × IsJoined stations number link hop
  joined stations hops run places number link at =
      let (hop, hop_at, is) = places number link at in
      let sender = out_found stations hop.from hop.out is.ends.out is.ends.out_is in
      let receiver = in_found stations hop.to hop.input is.ends.input is.ends.input_is in
      let out_number : sender.wire.link ≡ number = ap (λ (s : Seen). s.link) sender.is ∙ is.ends.out_link in
      let in_number : receiver.wire.link ≡ number = ap (λ (s : Seen). s.link) receiver.is ∙ is.ends.input_link in
      let from_at = run_at world loads grants stations hop.from sender.station run sender.at in
      let to_at = run_at world loads grants stations hop.to receiver.station run receiver.at in
      let set = out_flits hop.from sender.station from_at number link at (sym is.from) hop.out sender.wire
      sender.there out_number in
      let taken = in_flits hop.to receiver.station to_at number link at (sym is.to) hop.input receiver.wire
      receiver.there in_number in
      let inside = contained world.platform.links number link at in
      let puts = run_puts (tile_hardware world loads) world.platform.links grants
      (came (map in_seen sender.station.ins.items)) link in (
        hop,
        hop_at,
        record {
          sender = sender.station;
          receiver = receiver.station;
          out = sender.wire;
          input = receiver.wire;
          from = ap (slice_get stations) (sym is.from) ∙ sender.at;
          to = ap (slice_get stations) (sym is.to) ∙ receiver.at;
          out_is = sender.there;
          input_is = receiver.there;
          out_here = out_there stations hop.from hop.out sender.station sender.wire sender.at sender.there;
          input_here = in_there stations hop.to hop.input receiver.station receiver.wire receiver.at receiver.there;
          out_link = out_number;
          input_link = in_number;
          set = set;
          taken = taken;
          set_count = ap length (sym set) ∙ ap length (from_at.run.set link inside (sym is.from ∙ sym from_at.number))
              ∙ length-map-range_with_len puts 0 sender.station.tile.at;
          taken_count = ap length (sym taken) ∙ to_at.run.taken link inside (sym is.to ∙ sym to_at.number);
        },
      )
