-- A tile of least slot, once the next flit of each link was carried, can do its slot.
use Rattle.std.proofs.Common.{◌≡◌, ℕ, ◌≤◌, false, List, map, get_or, slice_get, All, Option, Some, None, option_map, is_some, is_none, IsSome, refl, sym, ap, subst, ◌∙◌, true≢false, arith}
use Rattle.std.proofs.lemmas.Option.{same_Some, slice_get-get_or, slice_get_within, get_or_from_slice_get}
use Rattle.bundle_model.specs.declared.world.World.{World}
use Rattle.bundle_model.specs.declared.world.Schedule.{Schedule}
use Rattle.bundle_model.proofs.Laws.{none_found}
use Rattle.flit_link.specs.declared.ends.LinkOut.{LinkOut}
use Rattle.flit_link.specs.declared.ends.LinkIn.{LinkIn}
use Rattle.flit_link.specs.Link.{sending, receiving}
use Rattle.tile_core.specs.declared.wire.Wire.{Wire}
use Rattle.tile_core.specs.declared.station.Station.{Station}
use Rattle.tile_core.specs.Wires.{out_seen, in_seen, output_on, input_on}
use Rattle.tile_core.specs.Turns.{CanAdvance}
use Rattle.serial_run.specs.declared.hops.Hop.{Hop}
use Rattle.serial_run.specs.inner.Going.{AreGoing}
use Rattle.serial_run.proofs.Spots.{end_link, end_once}
use Rattle.serial_run.proofs.Stepped.{mapped_at}
use Rattle.serial_run.proofs.Joined.{run_at, joined, on_output, on_input}

not_none : {X : Type 0} (o : Option X) → IsSome o → is_none o ≡ false
not_none None some = absurd (true≢false (sym some))
not_none (Some x) some = refl

not_some : {X : Type 0} (o : Option X) → o ≡ None → is_some o ≡ false
not_some o none = rw none refl

module _ (world : World) (schedule : Schedule) (hops : List Hop) (slot : ℕ) (stations : List Station)
    (going : AreGoing world schedule hops slot stations) where
  least_at : (tile : ℕ) (station : Station) → slice_get stations tile ≡ Some station → slot ≤ station.tile.at
  least_at tile station at =
      let Least = λ (s : Station). slot ≤ s.tile.at in
      subst Least (get_or_from_slice_get stations tile station station at)
      (going.least tile station (slice_get_within stations tile station at))

  -- a flit waits at each link that enters a tile of the slot
  waits_at : (tile : ℕ) (station : Station) → slice_get stations tile ≡ Some station → station.tile.at ≡ slot
      → (k : ℕ) (wire : Wire LinkIn)
      → slice_get station.ins.items k ≡ Some wire → IsSome (receiving wire.end)
  waits_at tile station at now k wire there =
      let links = world.platform.links in
      let grants = schedule.grants.items in
      let run = run_at world going.loads grants stations tile station going.run at in
      let seens = map in_seen station.ins.items in
      let place = input_on station.tile.number in
      let seen_at = mapped_at in_seen station.ins.items k wire there in
      let spot = end_link place links seens run.run.wired.ins k (in_seen wire) seen_at in
      let (hop, hop_at, both) = joined world going.loads grants stations hops going.run going.places spot.number
      spot.link spot.at in
      let to : spot.link.to ≡ tile = (on_input station.tile.number spot.link wire.place spot.is).0 ∙ run.number in
      let same : both.receiver ≡ station = same_Some both.receiver station
      (sym both.to ∙ ap (slice_get stations) to ∙ at) in
      let input_is : slice_get station.ins.items hop.input ≡ Some both.input =
      ap (λ (s : Station). slice_get s.ins.items hop.input) (sym same) ∙ both.input_is in
      let one : hop.input ≡ k = end_once place links seens run.run.wired.ins hop.input k (in_seen both.input)
      (in_seen wire)
      (mapped_at in_seen station.ins.items hop.input both.input input_is) seen_at
      (omega (arith, both.input_link, spot.numbered)) in
      let wire_is : both.input ≡ wire = same_Some both.input wire
      (sym input_is ∙ ap (slice_get station.ins.items) one ∙ there) in
      let carried = going.carried spot.number hop hop_at both.out both.input both.out_here both.input_here in
      let behind = least_at spot.link.from both.sender both.from in
      let here : both.receiver.tile.at ≡ slot = ap (λ (s : Station). s.tile.at) same ∙ now in
      subst (λ (w : Wire LinkIn). IsSome (receiving w.end)) wire_is
      (carried.waits (omega (arith, both.taken_count, both.set_count, behind, here)))

  -- and none waits to be pushed at each link that leaves it
  free_at : (tile : ℕ) (station : Station) → slice_get stations tile ≡ Some station → station.tile.at ≡ slot
      → (k : ℕ) (wire : Wire LinkOut)
      → slice_get station.outs.items k ≡ Some wire → sending wire.end ≡ None
  free_at tile station at now k wire there =
      let links = world.platform.links in
      let grants = schedule.grants.items in
      let run = run_at world going.loads grants stations tile station going.run at in
      let seens = map out_seen station.outs.items in
      let place = output_on station.tile.number in
      let seen_at = mapped_at out_seen station.outs.items k wire there in
      let spot = end_link place links seens run.run.wired.outs k (out_seen wire) seen_at in
      let (hop, hop_at, both) = joined world going.loads grants stations hops going.run going.places spot.number
      spot.link spot.at in
      let from : spot.link.from ≡ tile = (on_output station.tile.number spot.link wire.place spot.is).0 ∙ run.number in
      let same : both.sender ≡ station = same_Some both.sender station
      (sym both.from ∙ ap (slice_get stations) from ∙ at) in
      let out_is : slice_get station.outs.items hop.out ≡ Some both.out =
      ap (λ (s : Station). slice_get s.outs.items hop.out) (sym same) ∙ both.out_is in
      let one : hop.out ≡ k = end_once place links seens run.run.wired.outs hop.out k (out_seen both.out)
      (out_seen wire)
      (mapped_at out_seen station.outs.items hop.out both.out out_is) seen_at
      (omega (arith, both.out_link, spot.numbered)) in
      let wire_is : both.out ≡ wire = same_Some both.out wire
      (sym out_is ∙ ap (slice_get station.outs.items) one ∙ there) in
      let carried = going.carried spot.number hop hop_at both.out both.input both.out_here both.input_here in
      let ahead = least_at spot.link.to both.receiver both.to in
      let here : both.sender.tile.at ≡ slot = ap (λ (s : Station). s.tile.at) same ∙ now in
      subst (λ (w : Wire LinkOut). sending w.end ≡ None) wire_is
      (carried.free (omega (arith, both.taken_count, both.set_count, ahead, here)))

  pub all_can : All (λ station. station.tile.at ≡ slot → CanAdvance station) stations
  all_can k d inside now =
      let station = get_or stations k d in
      let at = slice_get-get_or stations k d inside in
      record {
        waits = ap (option_map (λ (wire : Wire LinkIn). wire.link))
            (none_found (λ (wire : Wire LinkIn). is_none (receiving wire.end)) station.ins.items
            (λ j wire there. not_none (receiving wire.end) (waits_at k station at now j wire there)));
        free = ap (option_map (λ (wire : Wire LinkOut). wire.link))
            (none_found (λ (wire : Wire LinkOut). is_some (sending wire.end)) station.outs.items
            (λ j wire there. not_some (sending wire.end) (free_at k station at now j wire there)));
      }
