-- Stations to which the ends of links are given, link by link.
use Rattle.std.proofs.Common.{◌≡◌, ℕ, zero, suc, ◌+◌, ◌<◌, ◌==◌, cond, List, [], ◌∷◌, ◌++◌, map, set, length, get_or, All, Option, Some, None, refl, sym, ap, ap₂, ◌∙◌, arith}
use Rattle.std.specs.List.{range_with_len}
use Rattle.std.proofs.lemmas.Bool.{eq-eqb, ne_eqb}
use Rattle.std.proofs.lemmas.List.{length-map, map-append, append-nil, get_or-map}
use Rattle.std.proofs.lemmas.List.FromFn.{get_or-range_with_len}
use Rattle.std.proofs.lemmas.List.Elements.{All-append, All-cons, All-nil}
use Rattle.platform_model.specs.declared.link.Link.{Link}
use Rattle.flit_link.specs.Names.{LinkName}
use Rattle.tile_core.specs.declared.station.Station.{Station}
use Rattle.tile_core.specs.Tile.{TileState}
use Rattle.tile_core.specs.Wires.{Seen, output_on, input_on}
use Rattle.tile_core.specs.Station.{StationState, station_state, IsFreshStation}
use Rattle.tile_core.specs.inner.Joined.{MadeLink, fresh_end, ends_from, fresh_ends, joined, AreJoined, AreNumbered, with_out, with_in}
use Rattle.tile_core.proofs.Stepping.{map_map}

-- ---- one item of a list is changed, and the change leaves all others

same_all : {X : Type 0} (f : X → X) (xs : List X) → ((k : ℕ) (d : X) → k < length xs → f (get_or xs k d) ≡ get_or xs k d) → xs ≡ map f xs
same_all f [] same = refl
same_all f (x ∷ xs) same = ap₂ (λ y ys. y ∷ ys) (sym (same 0 x (omega arith))) (same_all f xs (λ k d low. same (suc k) d (omega arith)))

set_is_map : {X : Type 0} (f : X → X) (xs : List X) (i : ℕ) (y d : X) → i < length xs → y ≡ f (get_or xs i d) → ((k : ℕ) (e : X) → k < length xs → (k ≡ i → ⊥) → f (get_or xs k e) ≡ get_or xs k e) → set xs i y ≡ map f xs
set_is_map f [] i y d low is same = absurd (omega arith)
set_is_map f (x ∷ xs) zero y d low is same = ap₂ (λ z zs. z ∷ zs) is (same_all f xs (λ k e below. same (suc k) e (omega arith) (λ at. absurd (omega arith))))
set_is_map f (x ∷ xs) (suc i) y d low is same =
    ap₂ (λ z zs. z ∷ zs) (sym (same 0 x (omega arith) (λ at. absurd (omega arith))))
    (set_is_map f xs i y d (omega arith) is (λ k e below other. same (suc k) e (omega arith) (λ at. other (omega arith))))

-- ---- a station is given an end

numbered_at : (stations : List StationState) (k : ℕ) (d : StationState) → map (λ (station : StationState). station.tile.number) stations ≡ range_with_len 0 (length stations) → k < length stations → (get_or stations k d).tile.number ≡ k
numbered_at stations k d numbered low =
    sym (get_or-map (λ (station : StationState). station.tile.number) stations k d 0 low)
    ∙ ap (λ (ns : List ℕ). get_or ns k 0) numbered
    ∙ get_or-range_with_len 0 (length stations) k 0 low
    ∙ (let same : 0 + k ≡ k = omega arith in same)

none_given : (a b n place : ℕ) (ring : LinkName) (ends : List Seen) → (b ≡ a → ⊥) → ends ++ ends_from n ring (cond (a == b) (Some place) None) [] ≡ ends
none_given a b n place ring ends other =
    ap (λ c. ends ++ ends_from n ring (cond c (Some place) None) []) (ne_eqb a b (λ same. other (sym same))) ∙ append-nil ends

one_given : (a b n place : ℕ) (ring : LinkName) (ends : List Seen) → b ≡ a → ends ++ ends_from n ring (cond (a == b) (Some place) None) [] ≡ ends ++ fresh_end n place ring ∷ []
one_given a b n place ring ends same = ap (λ c. ends ++ ends_from n ring (cond c (Some place) None) []) (eq-eqb a b (sym same))

pub out_given : (number : ℕ) (ring : LinkName) (link : Link) (stations : List StationState) (y d : StationState) → map (λ (station : StationState). station.tile.number) stations ≡ range_with_len 0 (length stations) → link.from < length stations
    → y ≡ record (get_or stations link.from d) { outs = (get_or stations link.from d).outs ++ fresh_end number link.out ring ∷ [] } → set stations link.from y ≡ map (with_out number ring link) stations
out_given number ring link stations y d numbered low is =
    let give = λ (station : StationState) (ends : List Seen). record station { outs = ends } in
    set_is_map (with_out number ring link) stations link.from y d low
    (is ∙ sym (ap (give (get_or stations link.from d)) (one_given link.from (get_or stations link.from d).tile.number number link.out ring (get_or stations link.from d).outs (numbered_at stations link.from d numbered low))))
    (λ k e below other. ap (give (get_or stations k e)) (none_given link.from (get_or stations k e).tile.number number link.out ring (get_or stations k e).outs
    (λ same. other (sym (numbered_at stations k e numbered below) ∙ same))))

pub in_given : (number : ℕ) (ring : LinkName) (link : Link) (stations : List StationState) (y d : StationState) → map (λ (station : StationState). station.tile.number) stations ≡ range_with_len 0 (length stations) → link.to < length stations
    → y ≡ record (get_or stations link.to d) { ins = (get_or stations link.to d).ins ++ fresh_end number link.input ring ∷ [] } → set stations link.to y ≡ map (with_in number ring link) stations
in_given number ring link stations y d numbered low is =
    let give = λ (station : StationState) (ends : List Seen). record station { ins = ends } in
    set_is_map (with_in number ring link) stations link.to y d low
    (is ∙ sym (ap (give (get_or stations link.to d)) (one_given link.to (get_or stations link.to d).tile.number number link.input ring (get_or stations link.to d).ins (numbered_at stations link.to d numbered low))))
    (λ k e below other. ap (give (get_or stations k e)) (none_given link.to (get_or stations k e).tile.number number link.input ring (get_or stations k e).ins
    (λ same. other (sym (numbered_at stations k e numbered below) ∙ same))))

-- ---- all stations, one link more

pub ends_more : (place : Link → Option ℕ) (number at : ℕ) (made : List MadeLink) (one : MadeLink) → number + length made ≡ at → fresh_ends place number made ++ ends_from at one.ring (place one.link) [] ≡ fresh_ends place number (made ++ one ∷ [])
ends_more place number at [] one is = let same : at ≡ number = omega arith in ap (λ n. ends_from n one.ring (place one.link) []) same
ends_more place number at (first ∷ made) one is = by (place first.link) (ends_more place (number + 1) at made one (omega arith))
  where
    by : (o : Option ℕ) → fresh_ends place (number + 1) made ++ ends_from at one.ring (place one.link) [] ≡ fresh_ends place (number + 1) (made ++ one ∷ [])
        → ends_from number first.ring o (fresh_ends place (number + 1) made) ++ ends_from at one.ring (place one.link) [] ≡ ends_from number first.ring o (fresh_ends place (number + 1) (made ++ one ∷ []))
    by None rest = rest
    by (Some p) rest = ap (λ ends. fresh_end number p first.ring ∷ ends) rest

abbrev state : TileState → List Seen → List Seen → StationState
state tile outs ins = record { tile = tile; outs = outs; ins = ins }

joined_one : (made : List MadeLink) (one : MadeLink) (at : ℕ) (tile : TileState) → length made ≡ at → with_in at one.ring one.link (with_out at one.ring one.link (joined made tile)) ≡ joined (made ++ one ∷ []) tile
joined_one made one at tile long =
    ap₂ (state tile)
    (ends_more (output_on tile.number) 0 at made one (omega (arith, long))) (ends_more (input_on tile.number) 0 at made one (omega (arith, long)))

each_joined : (made : List MadeLink) (one : MadeLink) (at : ℕ) (tiles : List TileState) → length made ≡ at → map (with_in at one.ring one.link) (map (with_out at one.ring one.link) (map (joined made) tiles)) ≡ map (joined (made ++ one ∷ [])) tiles
each_joined made one at [] long = refl
each_joined made one at (tile ∷ tiles) long = ap₂ (λ x xs. x ∷ xs) (joined_one made one at tile long) (each_joined made one at tiles long)

-- there are as many as tiles
pub many_joined : (tiles : List TileState) (made : List MadeLink) (stations : List Station) → AreJoined tiles made stations → length stations ≡ length tiles
many_joined tiles made stations are = sym (length-map stations station_state) ∙ ap length are.states ∙ length-map tiles (joined made)

-- stations that were joined by links are numbered as their tiles
pub numbered_still : (tiles : List TileState) (made : List MadeLink) (stations : List Station) → AreNumbered tiles → AreJoined tiles made stations → map (λ (station : Station). station.tile.number) stations ≡ range_with_len 0 (length stations)
numbered_still tiles made stations numbered are =
    map_map (λ (station : StationState). station.tile.number) station_state stations
    ∙ ap (map (λ (station : StationState). station.tile.number)) are.states
    ∙ sym (map_map (λ (station : StationState). station.tile.number) (joined made) tiles)
    ∙ numbered ∙ sym (ap (range_with_len 0) (many_joined tiles made stations are))

-- stations to which the writing end was given are numbered as before
pub numbered_out : (number : ℕ) (ring : LinkName) (link : Link) (old new : List Station) → map station_state new ≡ map (with_out number ring link) (map station_state old) → map (λ (station : Station). station.tile.number) old ≡ range_with_len 0 (length old) → (map (λ (station : Station). station.tile.number) new ≡ range_with_len 0 (length new)) × (length new ≡ length old)
numbered_out number ring link old new given numbered =
    let long : length new ≡ length old = sym (length-map new station_state) ∙ ap length given ∙ length-map (map station_state old) (with_out number ring link) ∙ length-map old station_state in (
      map_map (λ (station : StationState). station.tile.number) station_state new
          ∙ ap (map (λ (station : StationState). station.tile.number)) given
          ∙ sym (map_map (λ (station : StationState). station.tile.number) (with_out number ring link) (map station_state old))
          ∙ sym (map_map (λ (station : StationState). station.tile.number) station_state old)
          ∙ numbered ∙ sym (ap (range_with_len 0) long),
      long,
    )

-- what a read past the end of a list of links would be
abbrev pub no_link : Link
no_link = record { from = 0; out = 0; to = 0; input = 0 }

abbrev pub made_link : Link → LinkName → MadeLink
made_link link ring = record { link = link; ring = ring }

-- stations that are joined by one link more
pub joined_more : (tiles : List TileState) (made : List MadeLink) (link : Link) (ring : LinkName) (at : ℕ) (old left new : List Station) → AreJoined tiles made old → length made ≡ at → map station_state left ≡ map (with_out at ring link) (map station_state old) → map station_state new ≡ map (with_in at ring link) (map station_state left) → All IsFreshStation new
    → AreJoined tiles (made ++ made_link link ring ∷ []) new
joined_more tiles made link ring at old left new are long given taken fresh = record {
  states = taken ∙ ap (map (with_in at ring link)) given ∙ ap (λ (states : List StationState). map (with_in at ring link) (map (with_out at ring link) states)) are.states
      ∙ each_joined made (made_link link ring) at tiles long;
  fresh = fresh;
}

-- a station more, without links
pub bare_more : (tiles : List TileState) (tile : TileState) (stations : List Station) (station : Station) → AreJoined tiles [] stations → station_state station ≡ joined [] tile → IsFreshStation station → AreJoined (tiles ++ tile ∷ []) [] (stations ++ station ∷ [])
bare_more tiles tile stations station are is fresh = record {
  states = map-append station_state stations (station ∷ []) ∙ ap₂ (λ xs x. xs ++ x ∷ []) are.states is ∙ sym (map-append (joined []) tiles (tile ∷ []));
  fresh = All-append IsFreshStation stations (station ∷ []) are.fresh (All-cons IsFreshStation station [] fresh (All-nil IsFreshStation));
}
