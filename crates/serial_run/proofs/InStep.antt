-- Stations at one slot, whose links are in line, are those of the machine in step.
use Rattle.std.proofs.Common.{◌≡◌, ℕ, zero, suc, ◌+◌, ◌<◌, ◌≤◌, List, [], ◌∷◌, ◌++◌, map, take, get_or, slice_get, length, Contains, Some, refl, sym, ap, ap₂, subst, ◌∙◌, arith}
use Rattle.std.specs.List.{range_with_len}
use Rattle.std.specs.Option.{option_map_or}
use Rattle.std.proofs.lemmas.List.{take_at, same_lists, get_or-map, length-map}
use Rattle.std.proofs.lemmas.List.FromFn.{get_or-map-range_with_len, length-map-range_with_len, length-range_with_len, map-range_with_len_more}
use Rattle.std.proofs.lemmas.Option.{slice_get_within, get_or_from_slice_get}
use Rattle.soc_base.specs.Port.{WordAndCredits, idle}
use Rattle.platform_model.specs.declared.link.Link.{Link}
use Rattle.bundle_model.specs.declared.world.World.{World}
use Rattle.bundle_model.specs.declared.world.LoadName.{LoadName}
use Rattle.bundle_model.specs.declared.world.Grant.{Grant}
use Rattle.bundle_model.specs.declared.world.Schedule.{Schedule}
use Rattle.bundle_model.proofs.Laws.{contained_place}
use Rattle.lockstep.specs.Hardware.{Hardware}
use Rattle.lockstep.specs.Lockstep.{tile_run, run_puts}
use Rattle.lockstep.specs.Solution.{AreRings, flits_in}
use Rattle.lockstep.proofs.Laws.{run_none, run_more, inputs_same, made_same, ring_tiles_agree, ring_flits_agree}
use Rattle.flit_link.specs.Link.{TakenComeFirst}
use Rattle.tile_core.specs.Tile.{TileState}
use Rattle.tile_core.specs.Lockstep.{tile_hardware, machine_at, tiles_at}
use Rattle.tile_core.specs.Wires.{out_seen, in_seen, flits_at}
use Rattle.tile_core.specs.declared.station.Station.{Station}
use Rattle.tile_core.specs.Station.{StationState, station_state, HaveRun, came}
use Rattle.serial_run.specs.Run.{tiles_of, set_into, taken_from, AreInStep}
use Rattle.serial_run.specs.declared.hops.Hop.{Hop}
use Rattle.serial_run.specs.inner.Going.{AreGoing, AreWithin}
use Rattle.serial_run.proofs.Joined.{IsJoined, joined, run_at}

module _ {Tile Flit : Type 0} (hardware : Hardware Tile Flit) (links : List Link) (grants : List Grant)
    (one other : Link → ℕ → Flit)
    (number : ℕ) (same : (link : Link) → Contains links link → link.to ≡ number → (slot : ℕ)
    → one link slot ≡ other link slot) where
  -- a tile by itself looks at no flit but those of the links that enter it
  pub run_same : (slot : ℕ) → tile_run hardware links grants one number slot
      ≡ tile_run hardware links grants other number slot
  run_same zero = run_none hardware links grants one number ∙ sym (run_none hardware links grants other number)
  run_same (suc slot) =
      let next : suc slot ≡ slot + 1 = omega arith in
      ap (tile_run hardware links grants one number) next ∙ run_more hardware links grants one number slot
      ∙ ap₂ (hardware.after grants)
      (inputs_same hardware.idle links (λ link. one link slot) (λ link. other link slot) number
      (λ link inside to. same link inside to slot))
      (run_same slot)
      ∙ sym (ap (tile_run hardware links grants other number) next ∙ run_more hardware links grants other number slot)

  -- nor does what it puts on a link
  pub puts_same : (link : Link) → link.from ≡ number → (slot : ℕ)
      → run_puts hardware links grants one link slot ≡ run_puts hardware links grants other link slot
  puts_same link from slot =
      let inputs = inputs_same hardware.idle links (λ l. one l slot) (λ l. other l slot) link.from
      (λ l inside to. same l inside (to ∙ from) slot) in
      let tile : tile_run hardware links grants one link.from slot
      ≡ tile_run hardware links grants other link.from slot =
      ap (λ n. tile_run hardware links grants one n slot) from ∙ run_same slot
      ∙ sym (ap (λ n. tile_run hardware links grants other n slot) from) in
      ap (λ (flits : List Flit). get_or flits link.out hardware.idle) (ap₂ (hardware.puts grants) inputs tile)

item_at : {X : Type 0} (xs : List X) (k : ℕ) → k < length xs → (x : X) × (slice_get xs k ≡ Some x)
item_at [] k inside = absurd (omega arith)
item_at (x ∷ xs) zero inside = (x, refl)
item_at (x ∷ xs) (suc k) inside = item_at xs k (omega arith)

-- the first of a list that a function makes
first_made : {X : Type 0} (f : ℕ → X) (n : ℕ) (front rest : List X) → length front ≡ n
    → map f (range_with_len 0 (n + 1)) ≡ front ++ rest
    → front ≡ map f (range_with_len 0 n)
first_made f n front rest long is =
    sym (take_at front rest n long) ∙ ap (take n) (sym is ∙ map-range_with_len_more f 0 n n (omega arith))
    ∙ take_at (map f (range_with_len 0 n)) (f n ∷ []) n (length-map-range_with_len f 0 n)

module _ (world : World) (loads : List LoadName) (schedule : Schedule) (hops : List Hop) (until : ℕ)
    (stations : List Station)
    (run : HaveRun world loads schedule.grants.items (map station_state stations))
    (going : AreGoing world schedule hops until stations)
    (within : AreWithin until stations) (first : TakenComeFirst) where
  abbrev links : List Link
  links = world.platform.links

  abbrev grants : List Grant
  grants = schedule.grants.items

  abbrev hardware : Hardware TileState WordAndCredits
  hardware = tile_hardware world loads

  abbrev put : Link → List WordAndCredits
  put = set_into stations

  abbrev taken : Link → List WordAndCredits
  taken = taken_from stations

  at_end : (tile : ℕ) (station : Station) → slice_get stations tile ≡ Some station → station.tile.at ≡ until
  at_end tile station at =
      let inside = slice_get_within stations tile station at in
      let read = get_or_from_slice_get stations tile station station at in
      let Least = λ (s : Station). until ≤ s.tile.at in
      let Most = λ (s : Station). s.tile.at ≤ until in
      let least = subst Least read (going.least tile station inside) in
      let most = subst Most read (within tile station inside) in
      omega (arith, least, most)

  -- a link, by its place
  both_ends : (link : Link) → Contains links link
      → (number : ℕ) × (hop : Hop) × (slice_get links number ≡ Some link) × (slice_get hops number ≡ Some hop)
      × IsJoined stations number link hop
  both_ends link inside =
      let (number, at) = contained_place links link inside in
      let (hop, hop_at, both) = joined world loads grants stations hops run going.places number link at in
      (number, hop, at, hop_at, both)

  put_is : (link : Link) (station : Station) → slice_get stations link.from ≡ Some station
      → put link ≡ flits_at (map out_seen station.outs.items) link.out
  put_is link station at = ap (λ found. option_map_or (λ (s : Station). flits_at (map out_seen s.outs.items) link.out)
      found []) at

  taken_is : (link : Link) (station : Station) → slice_get stations link.to ≡ Some station
      → taken link ≡ flits_at (map in_seen station.ins.items) link.input
  taken_is link station at = ap (λ found. option_map_or
      (λ (s : Station). flits_at (map in_seen s.ins.items) link.input) found []) at

  -- what a tile took is what was taken from the links that enter it
  same_flits : (tile : ℕ) (station : Station) → slice_get stations tile ≡ Some station → (link : Link)
      → Contains links link → link.to ≡ station.tile.number → (slot : ℕ)
      → came (map in_seen station.ins.items) link slot ≡ flits_in idle taken link slot
  same_flits tile station at link inside to slot =
      let number = (run_at world loads grants stations tile station run at).number in
      let there : slice_get stations link.to ≡ Some station = ap (slice_get stations) (to ∙ number) ∙ at in
      ap (λ (flits : List WordAndCredits). get_or flits slot idle) (sym (taken_is link station there))

  written : (link : Link) → Contains links link
      → put link ≡ map (run_puts hardware links grants (flits_in idle taken) link) (range_with_len 0 until)
  written link inside =
      let (number, hop, at, hop_at, both) = both_ends link inside in
      let sender = both.sender in
      let of = run_at world loads grants stations link.from sender run both.from in
      put_is link sender both.from ∙ of.run.set link inside (sym of.number)
      ∙ ap (λ n. map (run_puts hardware links grants (came (map in_seen sender.ins.items)) link) (range_with_len 0 n))
      (at_end link.from sender both.from)
      ∙ made_same (run_puts hardware links grants (came (map in_seen sender.ins.items)) link)
      (run_puts hardware links grants (flits_in idle taken) link) 0 until
      (λ k low. puts_same hardware links grants (came (map in_seen sender.ins.items)) (flits_in idle taken)
      sender.tile.number (same_flits link.from sender both.from) link (sym of.number) k)

  took : (link : Link) → Contains links link → length (taken link) ≡ until
  took link inside =
      let (number, hop, at, hop_at, both) = both_ends link inside in
      ap length (taken_is link both.receiver both.to ∙ both.taken) ∙ both.taken_count
      ∙ at_end link.to both.receiver both.to

  front : (link : Link) → Contains links link → (rest : List WordAndCredits) × (idle ∷ put link ≡ taken link ++ rest)
  front link inside =
      let (number, hop, at, hop_at, both) = both_ends link inside in
      let carried = going.carried number hop hop_at both.out both.input both.out_here both.input_here in
      let (rest, is) = first both.out.end both.input.end carried.line in (
        rest,
        ap (λ flits. idle ∷ flits) (put_is link both.sender both.from ∙ both.set) ∙ sym is
            ∙ ap (λ flits. flits ++ rest) (sym (taken_is link both.receiver both.to ∙ both.taken)),
      )

  rings : AreRings TileState WordAndCredits hardware links grants (λ tile. until) put taken
  rings = record { took = took; front = front; written = written }

  tile_is : (tile : ℕ) (station : Station) → slice_get stations tile ≡ Some station
      → station.tile ≡ (machine_at world loads grants until).tile tile
  tile_is tile station at =
      let of = run_at world loads grants stations tile station run at in
      of.run.tile
      ∙ run_same hardware links grants (came (map in_seen station.ins.items)) (flits_in idle taken)
      station.tile.number (same_flits tile station at) station.tile.at
      ∙ ap₂ (tile_run hardware links grants (flits_in idle taken)) of.number (at_end tile station at)
      ∙ ring_tiles_agree hardware links grants (λ tile. until) put taken rings tile

  all_tiles : tiles_of stations ≡ tiles_at world loads grants until
  all_tiles =
      let tile = λ (s : Station). s.tile in
      let machine = (machine_at world loads grants until).tile in
      let states = map station_state stations in
      let long : length stations ≡ world.platform.tiles =
      sym (length-map stations station_state) ∙ sym (length-map states (λ (s : StationState). s.tile.number))
      ∙ ap length run.in_order ∙ length-range_with_len 0 world.platform.tiles in
      let count = length-map stations tile in
      same_lists (tiles_of stations) (tiles_at world loads grants until)
      (count ∙ long ∙ sym (length-map-range_with_len machine 0 world.platform.tiles))
      (λ k d inside.
      let here : k < length stations = omega (arith, inside, count) in
      let (station, at) = item_at stations k here in
      get_or-map tile stations k station d here ∙ ap tile (get_or_from_slice_get stations k station station at)
      ∙ tile_is k station at ∙ sym (get_or-map-range_with_len machine 0 world.platform.tiles k k d
      (omega (arith, here, long)) (omega arith)))

  pub in_step : AreInStep world loads grants until stations
  in_step = (
    all_tiles,
    record {
      set = λ link inside. ring_flits_agree hardware links grants (λ tile. until) put taken rings link inside;
      taken = λ link inside.
          let (rest, is) = front link inside in
          first_made (λ at. (machine_at world loads grants at).carried link) until (taken link) rest (took link inside)
          (sym (ring_flits_agree hardware links grants (λ tile. until) put taken rings link inside) ∙ is);
    },
  )
