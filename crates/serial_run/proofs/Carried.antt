-- What a flit that is carried on a link leaves as it was.
use Rattle.std.proofs.Common.{◌≡◌, ◌≢◌, ℕ, zero, suc, ◌<◌, List, [], ◌∷◌, map, set, get_or, slice_get, length, Option, Some, inl, inr, refl, sym, ap, subst, ◌∙◌, arith}
use Rattle.std.specs.Option.{option_and_then}
use Rattle.std.proofs.Math.Seq.{map-set_same}
use Rattle.std.proofs.lemmas.Bool.{cases_order}
use Rattle.std.proofs.lemmas.List.{get_or-set_other}
use Rattle.std.proofs.lemmas.Option.{same_Some, slice_get_within, get_or_from_slice_get}
use Rattle.flit_link.specs.declared.ends.LinkOut.{LinkOut}
use Rattle.flit_link.specs.declared.ends.LinkIn.{LinkIn}
use Rattle.tile_core.specs.declared.wire.Wire.{Wire}
use Rattle.tile_core.specs.declared.station.Station.{Station}
use Rattle.tile_core.specs.Wires.{Seen, out_seen, in_seen}
use Rattle.tile_core.specs.Station.{Ends, station_state}
use Rattle.serial_run.specs.declared.hops.Hop.{Hop}
use Rattle.serial_run.specs.inner.Hops.{out_at, in_at, AtEnds, HasEnds}
use Rattle.serial_run.specs.inner.Carrying.{IsCarried, CarriesStations, CarriesLink}

module _ {X : Type 0} where
  pub set_here : (xs : List X) (i : ℕ) (x : X) → i < length xs → slice_get (set xs i x) i ≡ Some x
  set_here [] i x inside = absurd (omega arith)
  set_here (y ∷ xs) zero x inside = refl
  set_here (y ∷ xs) (suc i) x inside = set_here xs i x (omega arith)

  pub set_elsewhere : (xs : List X) (i j : ℕ) (x : X) → j ≢ i → slice_get (set xs i x) j ≡ slice_get xs j
  set_elsewhere [] i j x apart = refl
  set_elsewhere (y ∷ xs) zero zero x apart = absurd (apart refl)
  set_elsewhere (y ∷ xs) zero (suc j) x apart = refl
  set_elsewhere (y ∷ xs) (suc i) zero x apart = refl
  set_elsewhere (y ∷ xs) (suc i) (suc j) x apart = set_elsewhere xs i j x (λ same. apart (ap suc same))

-- two stations of which the same is seen
state_same : (one other : Station) → one.tile ≡ other.tile
    → map out_seen one.outs.items ≡ map out_seen other.outs.items
    → map in_seen one.ins.items ≡ map in_seen other.ins.items → station_state one ≡ station_state other
state_same one other tile outs ins = cc

module _ (hop : Hop) (s s_new r r_new : Station) (carries : CarriesStations hop s s_new r r_new) (w : Wire LinkOut)
    (v : Wire LinkIn) (at_w : slice_get s.outs.items hop.out ≡ Some w)
    (at_v : slice_get r.ins.items hop.input ≡ Some v) where
  sender_state : station_state s_new ≡ station_state s
  sender_state =
      let both = carries.carries.carries w v at_w at_v in
      let outs = carries.carries.outs_are in
      let there : out_seen carries.carries.sender ≡ out_seen (get_or s.outs.items hop.out w) =
      both.sender_seen ∙ ap out_seen (sym (get_or_from_slice_get s.outs.items hop.out w w at_w)) in
      state_same s_new s carries.sender_tile
      (ap (map out_seen) outs ∙ map-set_same out_seen s.outs.items hop.out carries.carries.sender w there)
      (ap (λ ins. map in_seen ins.items) carries.sender_ins)

  receiver_state : station_state r_new ≡ station_state r
  receiver_state =
      let both = carries.carries.carries w v at_w at_v in
      let ins = carries.carries.ins_are in
      let there : in_seen carries.carries.receiver ≡ in_seen (get_or r.ins.items hop.input v) =
      both.receiver_seen ∙ ap in_seen (sym (get_or_from_slice_get r.ins.items hop.input v v at_v)) in
      state_same r_new r carries.receiver_tile (ap (λ outs. map out_seen outs.items) carries.receiver_outs)
      (ap (map in_seen) ins ∙ map-set_same in_seen r.ins.items hop.input carries.carries.receiver v there)

-- two stations of a list, with the ends of a link
pub record AreHere (hop : Hop) (stations : List Station) : Type 0 where
  pub sender : Station
  pub receiver : Station
  pub out : Wire LinkOut
  pub input : Wire LinkIn
  pub from : slice_get stations hop.from ≡ Some sender
  pub to : slice_get stations hop.to ≡ Some receiver
  pub out_is : slice_get sender.outs.items hop.out ≡ Some out
  pub input_is : slice_get receiver.ins.items hop.input ≡ Some input
  pub apart : hop.from ≢ hop.to

module _ (hop : Hop) (old new : List Station) (here : AreHere hop old) (carries : CarriesLink hop old new) where
  abbrev both : CarriesStations hop here.sender carries.sender here.receiver carries.receiver
  both = carries.carries here.sender here.receiver here.from here.to

  from_inside : hop.from < length old
  from_inside = slice_get_within old hop.from here.sender here.from

  to_inside : hop.to < length (set old hop.from carries.sender)
  to_inside = slice_get_within (set old hop.from carries.sender) hop.to here.receiver
      (set_elsewhere old hop.from hop.to carries.sender (λ same. here.apart (sym same)) ∙ here.to)

  -- nothing changes that is seen
  pub carries_seen : map station_state new ≡ map station_state old
  carries_seen =
      let sent = sender_state hop here.sender carries.sender here.receiver carries.receiver both here.out here.input
      here.out_is here.input_is in
      let received = receiver_state hop here.sender carries.sender here.receiver carries.receiver both here.out
      here.input here.out_is here.input_is in
      let d = here.sender in
      let at_from : station_state carries.sender ≡ station_state (get_or old hop.from d) =
      sent ∙ ap station_state (sym (get_or_from_slice_get old hop.from here.sender d here.from)) in
      let at_to : station_state carries.receiver ≡ station_state (get_or (set old hop.from carries.sender) hop.to d) =
      received ∙ ap station_state (sym (get_or-set_other old hop.from hop.to carries.sender d
      (λ same. here.apart (sym same)) ∙ get_or_from_slice_get old hop.to here.receiver d here.to)) in
      ap (map station_state) carries.stations_are
      ∙ map-set_same station_state (set old hop.from carries.sender) hop.to carries.receiver d at_to
      ∙ map-set_same station_state old hop.from carries.sender d at_from

  new_to : slice_get new hop.to ≡ Some carries.receiver
  new_to = ap (λ stations. slice_get stations hop.to) carries.stations_are
      ∙ set_here (set old hop.from carries.sender) hop.to carries.receiver to_inside

  new_from : slice_get new hop.from ≡ Some carries.sender
  new_from = ap (λ stations. slice_get stations hop.from) carries.stations_are
      ∙ set_elsewhere (set old hop.from carries.sender) hop.to hop.from carries.receiver here.apart
      ∙ set_here old hop.from carries.sender from_inside

  new_else : (tile : ℕ) → tile ≢ hop.from → tile ≢ hop.to → slice_get new tile ≡ slice_get old tile
  new_else tile from to = ap (λ stations. slice_get stations tile) carries.stations_are
      ∙ set_elsewhere (set old hop.from carries.sender) hop.to tile carries.receiver to
      ∙ set_elsewhere old hop.from tile carries.sender from

  -- the ends of the link are carried
  pub carries_here : AtEnds IsCarried new hop
  carries_here s r at_s at_r =
      let pair = both.carries.carries here.out here.input here.out_is here.input_is in
      let outs : out_at new hop.from hop.out ≡ slice_get carries.sender.outs.items hop.out =
      ap (λ found. option_and_then (λ (station : Station). slice_get station.outs.items hop.out) found) new_from in
      let ins : in_at new hop.to hop.input ≡ slice_get carries.receiver.ins.items hop.input =
      ap (λ found. option_and_then (λ (station : Station). slice_get station.ins.items hop.input) found) new_to in
      let sender : slice_get carries.sender.outs.items hop.out ≡ Some both.carries.sender =
      ap (λ wires. slice_get wires hop.out) both.carries.outs_are
      ∙ set_here here.sender.outs.items hop.out both.carries.sender
      (slice_get_within here.sender.outs.items hop.out here.out here.out_is) in
      let receiver : slice_get carries.receiver.ins.items hop.input ≡ Some both.carries.receiver =
      ap (λ wires. slice_get wires hop.input) both.carries.ins_are
      ∙ set_here here.receiver.ins.items hop.input both.carries.receiver
      (slice_get_within here.receiver.ins.items hop.input here.input here.input_is) in
      let is_s = same_Some both.carries.sender s (sym sender ∙ sym outs ∙ at_s) in
      let is_r = same_Some both.carries.receiver r (sym receiver ∙ sym ins ∙ at_r) in
      subst (λ x. IsCarried x r) is_s (subst (IsCarried both.carries.sender) is_r pair.carried)

  out_of : (tile place : ℕ) (station : Option Station) → slice_get new tile ≡ station
      → out_at new tile place ≡ option_and_then (λ (station : Station). slice_get station.outs.items place) station
  out_of tile place station is = ap (λ found. option_and_then
      (λ (station : Station). slice_get station.outs.items place) found) is

  in_of : (tile place : ℕ) (station : Option Station) → slice_get new tile ≡ station
      → in_at new tile place ≡ option_and_then (λ (station : Station). slice_get station.ins.items place) station
  in_of tile place station is = ap (λ found. option_and_then
      (λ (station : Station). slice_get station.ins.items place) found) is

  old_out : (tile place : ℕ) (station : Option Station) → slice_get old tile ≡ station
      → out_at old tile place ≡ option_and_then (λ (station : Station). slice_get station.outs.items place) station
  old_out tile place station is = ap (λ found. option_and_then
      (λ (station : Station). slice_get station.outs.items place) found) is

  old_in : (tile place : ℕ) (station : Option Station) → slice_get old tile ≡ station
      → in_at old tile place ≡ option_and_then (λ (station : Station). slice_get station.ins.items place) station
  old_in tile place station is = ap (λ found. option_and_then
      (λ (station : Station). slice_get station.ins.items place) found) is

  out_from : (place : ℕ) → place ≢ hop.out → out_at new hop.from place ≡ out_at old hop.from place
  out_from place other =
      out_of hop.from place (Some carries.sender) new_from
      ∙ ap (λ wires. slice_get wires place) both.carries.outs_are
      ∙ set_elsewhere here.sender.outs.items hop.out place both.carries.sender other
      ∙ sym (old_out hop.from place (Some here.sender) here.from)

  out_to : (place : ℕ) → out_at new hop.to place ≡ out_at old hop.to place
  out_to place =
      out_of hop.to place (Some carries.receiver) new_to
      ∙ ap (λ outs. slice_get outs.items place) both.receiver_outs
      ∙ sym (old_out hop.to place (Some here.receiver) here.to)

  in_to : (place : ℕ) → place ≢ hop.input → in_at new hop.to place ≡ in_at old hop.to place
  in_to place other =
      in_of hop.to place (Some carries.receiver) new_to
      ∙ ap (λ wires. slice_get wires place) both.carries.ins_are
      ∙ set_elsewhere here.receiver.ins.items hop.input place both.carries.receiver other
      ∙ sym (old_in hop.to place (Some here.receiver) here.to)

  in_from : (place : ℕ) → in_at new hop.from place ≡ in_at old hop.from place
  in_from place =
      in_of hop.from place (Some carries.sender) new_from
      ∙ ap (λ ins. slice_get ins.items place) both.sender_ins
      ∙ sym (old_in hop.from place (Some here.sender) here.from)

  -- another end stays
  out_stays : (tile place : ℕ) → (tile ≡ hop.from → place ≡ hop.out → ⊥) → out_at new tile place ≡ out_at old tile place
  out_stays tile place other = elim (cases_order tile hop.from)
      as (λ _. out_at new tile place ≡ out_at old tile place) [
        | inl same ↦ subst (λ t. out_at new t place ≡ out_at old t place) (sym same) (out_from place (other same))
        | inr not_from ↦ elim (cases_order tile hop.to) as (λ _. out_at new tile place ≡ out_at old tile place) [
          | inl same ↦ subst (λ t. out_at new t place ≡ out_at old t place) (sym same) (out_to place)
          | inr not_to ↦ ap (λ found. option_and_then (λ (station : Station). slice_get station.outs.items place) found)
              (new_else tile
              (λ e. elim not_from as (λ _. ⊥) [ inl less ↦ omega (arith, e) | inr more ↦ omega (arith, e) ])
              (λ e. elim not_to as (λ _. ⊥) [ inl less ↦ omega (arith, e) | inr more ↦ omega (arith, e) ]))
        ]
      ]

  in_stays : (tile place : ℕ) → (tile ≡ hop.to → place ≡ hop.input → ⊥) → in_at new tile place ≡ in_at old tile place
  in_stays tile place other = elim (cases_order tile hop.to) as (λ _. in_at new tile place ≡ in_at old tile place) [
    | inl same ↦ subst (λ t. in_at new t place ≡ in_at old t place) (sym same) (in_to place (other same))
    | inr not_to ↦ elim (cases_order tile hop.from) as (λ _. in_at new tile place ≡ in_at old tile place) [
      | inl same ↦ subst (λ t. in_at new t place ≡ in_at old t place) (sym same) (in_from place)
      | inr not_from ↦ ap (λ found. option_and_then (λ (station : Station). slice_get station.ins.items place) found)
          (new_else tile (λ e. elim not_from as (λ _. ⊥) [ inl less ↦ omega (arith, e) | inr more ↦ omega (arith, e) ])
          (λ e. elim not_to as (λ _. ⊥) [ inl less ↦ omega (arith, e) | inr more ↦ omega (arith, e) ]))
    ]
  ]

  -- the ends of another link stay
  pub carries_else : (Holds : Wire LinkOut → Wire LinkIn → Type 0) (stations : List Ends) (number other : ℕ)
      (hop_else : Hop)
      → HasEnds stations number hop → HasEnds stations other hop_else → other ≢ number → AtEnds Holds old hop_else
      → AtEnds Holds new hop_else
  carries_else Holds stations number other hop_else has has_else apart holds s r at_s at_r =
      let out = out_stays hop_else.from hop_else.out (λ tile place. apart
      (sym has_else.out_link ∙ ap (λ (seen : Seen). seen.link)
      (same_Some has_else.out has.out (sym has_else.out_is ∙ rw (tile, place) (has.out_is))) ∙ has.out_link)) in
      let input = in_stays hop_else.to hop_else.input (λ tile place. apart
      (sym has_else.input_link ∙ ap (λ (seen : Seen). seen.link)
      (same_Some has_else.input has.input (sym has_else.input_is ∙ rw (tile, place) (has.input_is)))
      ∙ has.input_link)) in
      holds s r (sym out ∙ at_s) (sym input ∙ at_r)
