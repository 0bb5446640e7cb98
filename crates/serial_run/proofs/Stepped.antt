-- Stations that each had a turn.
use Rattle.std.proofs.Common.{◌≡◌, ℕ, zero, suc, ◌==◌, ◌+◌, ◌<◌, ◌≤◌, List, [], ◌∷◌, map, find, slice_get, All, Option, Some, None, option_map, refl, sym, ap, ap₂, subst, ◌∙◌, eq-eqb, arith}
use Rattle.std.specs.List.{AllZip}
use Rattle.std.specs.Option.{option_and_then}
use Rattle.std.proofs.lemmas.List.Elements.{All-nil, All-cons, All-head, All-tail, All-map}
use Rattle.std.proofs.lemmas.Option.{none-some, same_Some, slice_get-map}
use Rattle.bundle_model.specs.declared.world.World.{World}
use Rattle.bundle_model.specs.declared.world.Schedule.{Schedule}
use Rattle.platform_model.specs.declared.link.Link.{Link}
use Rattle.tile_core.specs.Fit.{IsUnderway}
use Rattle.tile_core.specs.Tile.{TileState}
use Rattle.tile_core.specs.declared.station.Station.{Station}
use Rattle.tile_core.specs.Wires.{Seen, out_seen, in_seen, but_flits, ring_of}
use Rattle.tile_core.specs.Station.{StationState, Ends, station_state, ends_of, HasRun, HaveRun, AreLinked, written_ring, read_ring}
use Rattle.bundle_model.proofs.Laws.{find_map, mapped_place}
use Rattle.serial_run.specs.declared.hops.Hop.{Hop}
use Rattle.serial_run.specs.inner.Hops.{all_ends, AllAtEnds, AreHops, StandInLine}
use Rattle.serial_run.specs.inner.Carrying.{IsCarried}
use Rattle.serial_run.specs.inner.Going.{raised, Steps, AreGoing, KeepRuns, StayWithin}
use Rattle.serial_run.proofs.Ends.{then_some, out_there, in_there}

-- an image stands where its item does
pub mapped_at : {X Y : Type 0} (f : X → Y) (xs : List X) (k : ℕ) (x : X) → slice_get xs k ≡ Some x
    → slice_get (map f xs) k ≡ Some (f x)
mapped_at f xs k x at = slice_get-map f xs k ∙ ap (option_map f) at

-- what holds of each image holds of what it is the image of
pub all_unmap : {X Y : Type 0} (P : X → Type 0) (f : Y → X) (ys : List Y) → All P (map f ys) → All (λ y. P (f y)) ys
all_unmap P f [] all = All-nil (λ y. P (f y))
all_unmap P f (y ∷ ys) all =
    All-cons (λ y. P (f y)) y ys (All-head P (f y) (map f ys) all)
    (all_unmap P f ys (All-tail P (f y) (map f ys) all))

-- where the same is seen of two lists, one has an item where the other has
pub item_before : {X S Z : Type 0} (f : X → S) (g : S → Z) (xs ys : List X) → map g (map f ys) ≡ map g (map f xs)
    → (k : ℕ) (y : X)
    → slice_get ys k ≡ Some y → (x : X) × (slice_get xs k ≡ Some x)
item_before f g xs ys same k y at =
    let there = ap (λ zs. slice_get zs k) (sym same) ∙ mapped_at g (map f ys) k (f y) (mapped_at f ys k y at) in
    let (seen, seen_at, seen_is) = mapped_place g (map f xs) k (g (f y)) there in
    let (x, x_at, x_is) = mapped_place f xs k seen seen_at in
    (x, x_at)

ring_but_flits : (seens : List Seen) (number : ℕ) → ring_of (map but_flits seens) number ≡ ring_of seens number
ring_but_flits seens number = by (find (λ seen. seen.link == number) seens)
    (find_map but_flits (λ seen. seen.link == number) seens)
  where
    by : (o : Option Seen) → find (λ seen. seen.link == number) (map but_flits seens) ≡ option_map but_flits o
        → option_map (λ (seen : Seen). seen.ring) (find (λ seen. seen.link == number) (map but_flits seens))
        ≡ option_map (λ (seen : Seen). seen.ring) o
    by None is = ap (option_map (λ (seen : Seen). seen.ring)) is
    by (Some seen) is = ap (option_map (λ (seen : Seen). seen.ring)) is

written_by_ends : (states : List StationState) (tile number : ℕ) → written_ring states tile number
    ≡ option_and_then (λ (e : Ends). ring_of e.outs number) (slice_get (all_ends states) tile)
written_by_ends states tile number = by (slice_get states tile) (slice_get-map ends_of states tile)
  where
    by : (o : Option StationState) → slice_get (map ends_of states) tile ≡ option_map ends_of o
        → option_and_then (λ (s : StationState). ring_of s.outs number) o
        ≡ option_and_then (λ (e : Ends). ring_of e.outs number) (slice_get (map ends_of states) tile)
    by None is = sym (ap (option_and_then (λ (e : Ends). ring_of e.outs number)) is)
    by (Some state) is = sym (ring_but_flits state.outs number)
        ∙ sym (ap (option_and_then (λ (e : Ends). ring_of e.outs number)) is)

read_by_ends : (states : List StationState) (tile number : ℕ) → read_ring states tile number
    ≡ option_and_then (λ (e : Ends). ring_of e.ins number) (slice_get (all_ends states) tile)
read_by_ends states tile number = by (slice_get states tile) (slice_get-map ends_of states tile)
  where
    by : (o : Option StationState) → slice_get (map ends_of states) tile ≡ option_map ends_of o
        → option_and_then (λ (s : StationState). ring_of s.ins number) o
        ≡ option_and_then (λ (e : Ends). ring_of e.ins number) (slice_get (map ends_of states) tile)
    by None is = sym (ap (option_and_then (λ (e : Ends). ring_of e.ins number)) is)
    by (Some state) is = sym (ring_but_flits state.ins number)
        ∙ sym (ap (option_and_then (λ (e : Ends). ring_of e.ins number)) is)

-- links are rings as long as the ends are the same
pub linked_same : (links : List Link) (old new : List StationState) → all_ends new ≡ all_ends old
    → AreLinked links old → AreLinked links new
linked_same links old new same linked number link at =
    let (some, one) = linked number link at in
    let written : written_ring new link.from number ≡ written_ring old link.from number =
    written_by_ends new link.from number ∙ ap
    (λ ends. option_and_then (λ (e : Ends). ring_of e.outs number) (slice_get ends link.from)) same
    ∙ sym (written_by_ends old link.from number) in
    let read : read_ring new link.to number ≡ read_ring old link.to number =
    read_by_ends new link.to number ∙ ap (λ ends. option_and_then (λ (e : Ends). ring_of e.ins number)
    (slice_get ends link.to)) same ∙ sym (read_by_ends old link.to number) in
    (rw (written) some, rw (read, written) one)

pub numbers_by_ends : (states : List StationState)
    → map (λ state. state.tile.number) states ≡ map (λ (e : Ends). e.number) (all_ends states)
numbers_by_ends [] = refl
numbers_by_ends (state ∷ states) = ap (λ numbers. state.tile.number ∷ numbers) (numbers_by_ends states)

module _ (world : World) (schedule : Schedule) (slot : ℕ) where
  pub zip_ends : (old new : List Station) → AllZip (Steps world schedule slot) old new
      → all_ends (map station_state new) ≡ all_ends (map station_state old)
  zip_ends [] [] steps = refl
  zip_ends [] (y ∷ ys) steps = absurd steps
  zip_ends (x ∷ xs) [] steps = absurd steps
  zip_ends (x ∷ xs) (y ∷ ys) steps = ap₂ (λ (e : Ends) es. e ∷ es) steps.0.ends (zip_ends xs ys steps.1)

  -- what each station keeps in its turn all keep
  pub zip_all : (P Q : Station → Type 0) → ((x y : Station) → Steps world schedule slot x y → P x → Q y)
      → (old new : List Station) → AllZip (Steps world schedule slot) old new → All P old → All Q new
  zip_all P Q keeps [] [] steps all = All-nil Q
  zip_all P Q keeps [] (y ∷ ys) steps all = absurd steps
  zip_all P Q keeps (x ∷ xs) [] steps all = absurd steps
  zip_all P Q keeps (x ∷ xs) (y ∷ ys) steps all =
      All-cons Q y ys (keeps x y steps.0 (All-head P x xs all)) (zip_all P Q keeps xs ys steps.1 (All-tail P x xs all))

  -- the station before its turn
  pub zip_at : (old new : List Station) → AllZip (Steps world schedule slot) old new → (k : ℕ) (y : Station)
      → slice_get new k ≡ Some y → (x : Station) × (slice_get old k ≡ Some x) × Steps world schedule slot x y
  zip_at [] [] steps k y at = absurd (none-some y at)
  zip_at [] (z ∷ zs) steps k y at = absurd steps
  zip_at (x ∷ xs) [] steps k y at = absurd steps
  zip_at (x ∷ xs) (z ∷ zs) steps zero y at = (x, refl, subst (Steps world schedule slot x) (same_Some z y at) steps.0)
  zip_at (x ∷ xs) (z ∷ zs) steps (suc k) y at = zip_at xs zs steps.1 k y at

  -- links on which a flit was carried are in line still
  pub zip_lines : (hops : List Hop) (old new : List Station) → AllZip (Steps world schedule slot) old new
      → AllAtEnds IsCarried old hops → AllAtEnds StandInLine new hops
  zip_lines hops old new steps carried number hop at s r at_s at_r =
      let (to_s, to_s_at, s_is) = then_some (λ (station : Station). slice_get station.outs.items hop.out)
      (slice_get new hop.from) s at_s in
      let (to_r, to_r_at, r_is) = then_some (λ (station : Station). slice_get station.ins.items hop.input)
      (slice_get new hop.to) r at_r in
      let (of_s, of_s_at, s_steps) = zip_at old new steps hop.from to_s to_s_at in
      let (of_r, of_r_at, r_steps) = zip_at old new steps hop.to to_r to_r_at in
      let (s_old, s_old_is) = item_before out_seen but_flits of_s.outs.items to_s.outs.items
      (ap (λ (e : Ends). e.outs) s_steps.ends) hop.out s s_is in
      let (r_old, r_old_is) = item_before in_seen but_flits of_r.ins.items to_r.ins.items
      (ap (λ (e : Ends). e.ins) r_steps.ends) hop.input r r_is in
      let line = (carried number hop at s_old r_old (out_there old hop.from hop.out of_s s_old of_s_at s_old_is)
      (in_there old hop.to hop.input of_r r_old of_r_at r_old_is)).line in
      r_steps.lines.ins hop.input r_old r r_old_is r_is s.end
      (s_steps.lines.outs hop.out s_old s s_old_is s_is r_old.end line)

  -- stations that had run by themselves have still
  pub zip_runs : (old new : List Station) → AllZip (Steps world schedule slot) old new
      → KeepRuns world schedule.grants.items old new
  zip_runs old new steps loads run =
      let ends = zip_ends old new steps in
      let Run = HasRun world loads schedule.grants.items in record {
        in_order = numbers_by_ends (map station_state new) ∙ ap (map (λ (e : Ends). e.number)) ends
            ∙ sym (numbers_by_ends (map station_state old)) ∙ run.in_order;
        each = All-map Run station_state new
            (zip_all (λ s. Run (station_state s)) (λ s. Run (station_state s)) (λ x y step was. step.run loads was)
            old new steps
            (all_unmap Run station_state old run.each));
        linked = linked_same world.platform.links (map station_state old) (map station_state new) ends run.linked;
      }

raised_least : (slot at : ℕ) → slot ≤ at → slot + 1 ≤ raised slot at
raised_least slot at low = grind arith

pub raised_once : (slot at : ℕ) → at ≡ slot → raised slot at ≡ at + 1
raised_once slot at now = rw (eq-eqb at slot now) refl

raised_within : (slot at until : ℕ) → slot < until → at ≤ until → raised slot at ≤ until
raised_within slot at until low most = grind arith

-- stations of which the same is seen have the same tiles
pub seen_all : (P : TileState → Type 0) (old new : List Station) → map station_state new ≡ map station_state old
    → All (λ station. P station.tile) old → All (λ station. P station.tile) new
seen_all P old new same all =
    let Holds = λ (states : List StationState). All (λ state. P state.tile) states in
    all_unmap (λ (state : StationState). P state.tile) station_state new
    (subst Holds (sym same) (All-map (λ (state : StationState). P state.tile) station_state old all))

-- a round: a turn of each station, and then the flits of all links
module _ (world : World) (schedule : Schedule) (hops : List Hop) (slot : ℕ) (old mid new : List Station)
    (steps : AllZip (Steps world schedule slot) old mid) (seen : map station_state new ≡ map station_state mid) where
  pub round_runs : KeepRuns world schedule.grants.items old new
  round_runs loads run =
      let Have = HaveRun world loads schedule.grants.items in
      subst Have (sym seen) (zip_runs world schedule slot old mid steps loads run)

  pub round_within : StayWithin slot old new
  round_within until low most =
      seen_all (λ tile. tile.at ≤ until) mid new seen
      (zip_all world schedule slot (λ s. s.tile.at ≤ until) (λ s. s.tile.at ≤ until)
      (λ x y step was. let at : raised slot x.tile.at ≤ until = raised_within slot x.tile.at until low was in
      omega (arith, step.at, at)) old mid steps most)

  pub round_going : AreGoing world schedule hops slot old → AllAtEnds IsCarried new hops
      → AreGoing world schedule hops (slot + 1) new
  round_going going carried =
      let Hops = λ (states : List StationState). AreHops (all_ends states) world.platform.links hops in
      let Under = IsUnderway world schedule in record {
        loads = going.loads;
        run = round_runs going.loads going.run;
        underway = seen_all Under mid new seen
            (zip_all world schedule slot (λ s. Under s.tile) (λ s. Under s.tile) (λ x y step was. step.underway) old
            mid steps going.underway);
        least = seen_all (λ tile. slot + 1 ≤ tile.at) mid new seen
            (zip_all world schedule slot (λ s. slot ≤ s.tile.at) (λ s. slot + 1 ≤ s.tile.at)
            (λ x y step was. let at : slot + 1 ≤ raised slot x.tile.at = raised_least slot x.tile.at was in
            omega (arith, step.at, at)) old mid steps going.least);
        places = subst (λ ends. AreHops ends world.platform.links hops)
            (sym (ap all_ends seen ∙ zip_ends world schedule slot old mid steps)) going.places;
        as_many = going.as_many;
        carried = carried;
      }
