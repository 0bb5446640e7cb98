-- The stations of a platform before the first slot have run by themselves, by any grants.
use Rattle.std.proofs.Common.{◌≡◌, ℕ, zero, suc, ◌+◌, ◌<◌, ◌==◌, Bool, true, false, cond, pos, List, [], ◌∷◌, ◌++◌, map, find, take, drop, length, get_or, All, Option, Some, None, option_map, IsSome, refl, sym, ap, ap₂, subst, ◌∙◌, arith}
use Rattle.std.specs.List.{range_with_len, slice_get}
use Rattle.std.specs.Option.{option_map_or, option_and_then}
use Rattle.std.proofs.lemmas.Bool.{eq-eqb, ne_eqb, and_parts, ltb-true}
use Rattle.std.proofs.lemmas.Option.{none-some, slice_get-map, slice_get-get_or, slice_get_within, get_or_from_slice_get}
use Rattle.std.proofs.lemmas.List.{length-map, get_or-map, take_at}
use Rattle.std.proofs.lemmas.List.Folds.{list_all-map}
use Rattle.std.proofs.lemmas.List.Sums.{AllPass-from_list_all}
use Rattle.std.proofs.lemmas.List.Elements.{All-map}
use Rattle.std.proofs.lemmas.List.FromFn.{get_or-map-range_with_len, length-map-range_with_len}
use Rattle.platform_model.specs.Links.{raw_link, joins_tiles, is_router_port, has_router_ports}
use Rattle.platform_model.specs.declared.link.Link.{Link}
use Rattle.platform_model.specs.declared.platform.Platform.{Platform}
use Rattle.bundle_model.specs.declared.world.World.{World}
use Rattle.bundle_model.specs.declared.world.LoadName.{LoadName}
use Rattle.bundle_model.specs.declared.world.Grant.{Grant}
use Rattle.lockstep.specs.Lockstep.{tile_run, run_puts}
use Rattle.lockstep.proofs.Laws.{run_none}
use Rattle.tile_core.specs.declared.station.Station.{Station}
use Rattle.tile_core.specs.Tile.{TileState, fresh_tile}
use Rattle.tile_core.specs.Lockstep.{tile_hardware}
use Rattle.tile_core.specs.Wires.{Seen, Spot, spot_of, spots, spots_from, flits_at, ring_of, output_on, input_on}
use Rattle.tile_core.specs.Station.{StationState, station_state, IsWired, came, HasRun, written_ring, read_ring, AreLinked, HaveRun, AreFreshStations}
use Rattle.tile_core.specs.inner.Joined.{MadeLink, fresh_end, ends_from, fresh_ends, joined, AreJoined, AreNumbered, IsBetween}
use Rattle.tile_core.proofs.Fresh.{fresh_at}
use Rattle.tile_core.proofs.Stepping.{map_map}

-- ---- links of a platform stand between its tiles

between : (tiles : ℕ) (link : Link) → joins_tiles (pos tiles) (raw_link link) ≡ true → has_router_ports (raw_link link) ≡ true → IsBetween tiles link
between tiles link joins ports =
    let ends = and_parts _ _ joins in
    let enters = and_parts _ _ ends.0 in
    let above = and_parts _ _ enters.0 in
    let leaves = and_parts _ _ above.0 in
    let both = and_parts (is_router_port (pos link.out)) (is_router_port (pos link.input)) ports in
    record {
      from = ltb-true link.from tiles leaves.1;
      out = ltb-true link.out 7 (and_parts _ _ both.0).1;
      to = ltb-true link.to tiles enters.1;
      input = ltb-true link.input 7 (and_parts _ _ both.1).1;
    }

pub links_between : (platform : Platform) → All (IsBetween platform.tiles) platform.links
links_between platform = λ k d low.
    let joins = AllPass-from_list_all (λ link. joins_tiles (pos platform.tiles) (raw_link link)) platform.links
    (sym (list_all-map (joins_tiles (pos platform.tiles)) raw_link platform.links) ∙ platform.links_join_tiles) in
    let ports = AllPass-from_list_all (λ link. has_router_ports (raw_link link)) platform.links
    (sym (list_all-map has_router_ports raw_link platform.links) ∙ platform.links_have_ports) in
    between platform.tiles (get_or platform.links k d) (joins k d low) (ports k d low)

-- ---- what stands at the ends of made links

spots_made : (place : Link → Option ℕ) (number : ℕ) (made : List MadeLink) → map spot_of (fresh_ends place number made) ≡ spots place number (map (λ (one : MadeLink). one.link) made)
spots_made place number [] = refl
spots_made place number (one ∷ made) = by (place one.link) (spots_made place (number + 1) made)
  where
    by : (o : Option ℕ) → map spot_of (fresh_ends place (number + 1) made) ≡ spots place (number + 1) (map (λ (other : MadeLink). other.link) made) → map spot_of (ends_from number one.ring o (fresh_ends place (number + 1) made)) ≡ spots_from number o (spots place (number + 1) (map (λ (other : MadeLink). other.link) made))
    by None rest = rest
    by (Some p) rest = ap (λ (all : List Spot). record { link = number; place = p } ∷ all) rest

no_flits : (place : Link → Option ℕ) (number p : ℕ) (made : List MadeLink) → flits_at (fresh_ends place number made) p ≡ []
no_flits place number p [] = refl
no_flits place number p (one ∷ made) = by (place one.link) (no_flits place (number + 1) p made)
  where
    chosen : (b : Bool) (seen : Seen) (rest : Option Seen) → seen.flits ≡ [] → option_map_or (λ (s : Seen). s.flits) rest [] ≡ [] → option_map_or (λ (s : Seen). s.flits) (cond b (Some seen) rest) [] ≡ []
    chosen true seen rest first other = first
    chosen false seen rest first other = other

    by : (o : Option ℕ) → flits_at (fresh_ends place (number + 1) made) p ≡ [] → flits_at (ends_from number one.ring o (fresh_ends place (number + 1) made)) p ≡ []
    by None rest = rest
    by (Some q) rest = chosen (q == p) (fresh_end number q one.ring) (find (λ seen. seen.place == p) (fresh_ends place (number + 1) made)) refl rest

-- the ring of a link is that of its end
ring_found : (place : Link → Option ℕ) (number k at p : ℕ) (made : List MadeLink) (one : MadeLink) → slice_get made k ≡ Some one → place one.link ≡ Some p → number + k ≡ at → ring_of (fresh_ends place number made) at ≡ Some one.ring
ring_found place number k at p [] one there is where_is = absurd (none-some one there)
ring_found place number zero at p (first ∷ made) one there is where_is =
    let same : first ≡ one = ap (λ o. option_map_or (λ (m : MadeLink). m) o first) there in
    let here : number ≡ at = omega arith in
    let ends = fresh_ends place (number + 1) made in
    ap (λ o. ring_of (ends_from number first.ring o ends) at) (ap (λ (m : MadeLink). place m.link) same ∙ is)
    ∙ ap (λ b. option_map (λ (seen : Seen). seen.ring) (cond b (Some (fresh_end number p first.ring)) (find (λ seen. seen.link == at) ends))) (eq-eqb number at here)
    ∙ ap (λ (m : MadeLink). Some m.ring) same
ring_found place number (suc k) at p (first ∷ made) one there is where_is = by (place first.link) (ring_found place (number + 1) k at p made one there is (omega arith))
  where
    by : (o : Option ℕ) → ring_of (fresh_ends place (number + 1) made) at ≡ Some one.ring → ring_of (ends_from number first.ring o (fresh_ends place (number + 1) made)) at ≡ Some one.ring
    by None rest = rest
    by (Some q) rest =
        ap (λ b. option_map (λ (seen : Seen). seen.ring) (cond b (Some (fresh_end number q first.ring)) (find (λ seen. seen.link == at) (fresh_ends place (number + 1) made))))
        (ne_eqb number at (λ same. absurd (omega arith))) ∙ rest

-- what is mapped from a list's item
unmapped : {X Y : Type 0} (f : X → Y) (o : Option X) (y : Y) → option_map f o ≡ Some y → (x : X) × (o ≡ Some x) × (f x ≡ y)
unmapped f None y is = absurd (none-some y is)
unmapped {X} {Y} f (Some x) y is = (x, refl, ap (λ (p : Option Y). option_map_or (λ z. z) p y) is)

-- ---- stations of fresh tiles

fresh_number : (world : World) (loads : List LoadName) (number : ℕ) → (fresh_tile world loads number).number ≡ number
unfolding fresh_tile
fresh_number world loads number = refl

numbers_fresh : (world : World) (loads : List LoadName) (numbers : List ℕ) → map (λ (tile : TileState). tile.number) (map (fresh_tile world loads) numbers) ≡ numbers
numbers_fresh world loads [] = refl
numbers_fresh world loads (number ∷ numbers) = ap₂ (λ n ns. n ∷ ns) (fresh_number world loads number) (numbers_fresh world loads numbers)

-- fresh tiles are in order of their numbers
pub fresh_numbered : (world : World) (loads : List LoadName) (n : ℕ) → AreNumbered (map (fresh_tile world loads) (range_with_len 0 n))
fresh_numbered world loads n =
    numbers_fresh world loads (range_with_len 0 n) ∙ sym (ap (range_with_len 0) (length-map-range_with_len (fresh_tile world loads) 0 n))

-- the tiles of joined stations are those that they were made of
same_tiles : (made : List MadeLink) (tiles : List TileState) → map (λ (station : StationState). station.tile) (map (joined made) tiles) ≡ tiles
same_tiles made [] = refl
same_tiles made (tile ∷ tiles) = ap (λ all. tile ∷ all) (same_tiles made tiles)

pub tiles_are : (tiles : List TileState) (made : List MadeLink) (stations : List Station) → AreJoined tiles made stations → map (λ (station : Station). station.tile) stations ≡ tiles
tiles_are tiles made stations are =
    map_map (λ (station : StationState). station.tile) station_state stations
    ∙ ap (map (λ (station : StationState). station.tile)) are.states ∙ same_tiles made tiles

module _ (world : World) (loads : List LoadName) (made : List MadeLink) (stations : List Station)
    (all_links : map (λ (one : MadeLink). one.link) made ≡ world.platform.links)
    (are : AreJoined (map (fresh_tile world loads) (range_with_len 0 world.platform.tiles)) made stations) where
  abbrev links : List Link
  links = world.platform.links

  abbrev tiles : List TileState
  tiles = map (fresh_tile world loads) (range_with_len 0 world.platform.tiles)

  many : length stations ≡ world.platform.tiles
  many = sym (length-map stations station_state) ∙ ap length are.states ∙ length-map tiles (joined made) ∙ length-map-range_with_len (fresh_tile world loads) 0 world.platform.tiles

  state_at : (k : ℕ) (d : Station) → k < length stations → station_state (get_or stations k d) ≡ joined made (fresh_tile world loads k)
  state_at k d low =
      let below : k < world.platform.tiles = omega (arith, low, many) in
      sym (get_or-map station_state stations k d (station_state d) low)
      ∙ ap (λ (states : List StationState). get_or states k (station_state d)) are.states
      ∙ get_or-map (joined made) tiles k d.tile (station_state d) (omega (arith, below, length-map-range_with_len (fresh_tile world loads) 0 world.platform.tiles))
      ∙ ap (joined made) (get_or-map-range_with_len (fresh_tile world loads) 0 world.platform.tiles k k d.tile below (omega arith))

  wired_one : (tile : TileState) → IsWired links (joined made tile)
  wired_one tile = record {
    outs = spots_made (output_on tile.number) 0 made ∙ ap (spots (output_on tile.number) 0) all_links;
    ins = spots_made (input_on tile.number) 0 made ∙ ap (spots (input_on tile.number) 0) all_links;
  }

  state_there : (k : ℕ) → k < world.platform.tiles → slice_get (map station_state stations) k ≡ Some (joined made (fresh_tile world loads k))
  state_there k low =
      ap (λ (states : List StationState). slice_get states k) are.states
      ∙ slice_get-get_or (map (joined made) tiles) k (joined made (fresh_tile world loads k)) (omega (arith, low, length-map tiles (joined made), length-map-range_with_len (fresh_tile world loads) 0 world.platform.tiles))
      ∙ ap Some (get_or-map (joined made) tiles k (fresh_tile world loads k) (joined made (fresh_tile world loads k)) (omega (arith, low, length-map-range_with_len (fresh_tile world loads) 0 world.platform.tiles))
      ∙ ap (joined made) (get_or-map-range_with_len (fresh_tile world loads) 0 world.platform.tiles k k (fresh_tile world loads k) low (omega arith)))

  linked_by : (number : ℕ) (link : Link) (one : MadeLink) → slice_get made number ≡ Some one → one.link ≡ link → IsBetween world.platform.tiles link
      → (written_ring (map station_state stations) link.from number ≡ Some one.ring) × (read_ring (map station_state stations) link.to number ≡ Some one.ring)
  linked_by number link one there same inside =
      let out_is : output_on (fresh_tile world loads link.from).number one.link ≡ Some link.out =
      ap (output_on (fresh_tile world loads link.from).number) same ∙ ap (λ b. cond b (Some link.out) None) (eq-eqb link.from (fresh_tile world loads link.from).number (sym (fresh_number world loads link.from))) in
      let in_is : input_on (fresh_tile world loads link.to).number one.link ≡ Some link.input =
      ap (input_on (fresh_tile world loads link.to).number) same ∙ ap (λ b. cond b (Some link.input) None) (eq-eqb link.to (fresh_tile world loads link.to).number (sym (fresh_number world loads link.to))) in (
        ap (λ (o : Option StationState). option_and_then (λ station. ring_of station.outs number) o) (state_there link.from inside.from)
            ∙ ring_found (output_on (fresh_tile world loads link.from).number) 0 number number link.out made one there out_is (omega arith),
        ap (λ (o : Option StationState). option_and_then (λ station. ring_of station.ins number) o) (state_there link.to inside.to)
            ∙ ring_found (input_on (fresh_tile world loads link.to).number) 0 number number link.input made one there in_is (omega arith),
      )

  linked : AreLinked links (map station_state stations)
  linked number link there =
      let (one, made_there, same) = unmapped (λ (m : MadeLink). m.link) (slice_get made number) link
      (sym (slice_get-map (λ (m : MadeLink). m.link) made number) ∙ ap (λ (all : List Link). slice_get all number) all_links ∙ there) in
      let inside : IsBetween world.platform.tiles link =
      subst (IsBetween world.platform.tiles) (get_or_from_slice_get links number link link there) (links_between world.platform number link (slice_get_within links number link there)) in
      let both = linked_by number link one made_there same inside in
      (subst IsSome (sym both.0) refl, both.1 ∙ sym both.0)

  pub are_fresh : AreFreshStations world loads stations
  are_fresh = record {
    tiles = tiles_are tiles made stations are;
    wired = λ k d low. subst (IsWired links) (sym (state_at k d low)) (wired_one (fresh_tile world loads k));
    linked = linked;
    fresh = are.fresh;
  }

  run_one : (grants : List Grant) (k : ℕ) → k < world.platform.tiles → HasRun world loads grants (joined made (fresh_tile world loads k))
  run_one grants k low =
      let tile = fresh_tile world loads k in
      let station = joined made tile in
      let flits = came station.ins in
      record {
        exists = subst (λ n. n < world.platform.tiles) (sym (fresh_number world loads k)) low;
        wired = wired_one tile;
        tile = sym (ap₂ (tile_run (tile_hardware world loads) links grants flits) (fresh_number world loads k) (fresh_at world loads k)
            ∙ run_none (tile_hardware world loads) links grants flits k);
        taken = λ link inside is. ap length (no_flits (input_on tile.number) 0 link.input made) ∙ sym (fresh_at world loads k);
        set = λ link inside is. no_flits (output_on tile.number) 0 link.out made
            ∙ sym (ap (λ n. map (run_puts (tile_hardware world loads) links grants flits link) (range_with_len 0 n)) (fresh_at world loads k));
      }

  pub have_run : (grants : List Grant) → HaveRun world loads grants (map station_state stations)
  have_run grants = record {
    in_order = ap (map (λ (station : StationState). station.tile.number)) are.states
        ∙ sym (map_map (λ (station : StationState). station.tile.number) (joined made) tiles)
        ∙ numbers_fresh world loads (range_with_len 0 world.platform.tiles);
    each = All-map (HasRun world loads grants) station_state stations
        (λ k d low. subst (HasRun world loads grants) (sym (state_at k d low)) (run_one grants k (omega (arith, low, many))));
    linked = linked;
  }

-- a list that was written over in a vector's place
pub refilled : {X : Type 0} (n : ℕ) (xs items : List X) → length xs ≡ n → take n (xs ++ drop (length xs) items) ≡ xs
refilled n xs items long = take_at xs (drop (length xs) items) n long
