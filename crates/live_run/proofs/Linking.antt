-- What joins stations to each other is told by what never changes of them.
use Rattle.std.proofs.Common.{◌≡◌, ℕ, ◌==◌, Bool, true, false, List, [], ◌∷◌, map, Option, Some, None, refl, sym, subst, ap, ◌∙◌}
use Rattle.std.specs.Prelude.{if◌then◌else◌, option_map, slice_get, IsSome}
use Rattle.std.specs.Option.{option_and_then}
use Rattle.std.proofs.lemmas.Option.{slice_get-map}
use Rattle.platform_model.specs.declared.link.Link.{Link}
use Rattle.flit_link.specs.Names.{LinkName}
use Rattle.tile_core.specs.Wires.{Seen, but_flits, ring_of}
use Rattle.tile_core.specs.Station.{StationState, Ends, ends_of, written_ring, read_ring, AreLinked}

first_alike : (is : Bool) (seen : Seen) (one other : Option Seen)
    → option_map (λ (s : Seen). s.ring) one ≡ option_map (λ (s : Seen). s.ring) other
    → option_map (λ (s : Seen). s.ring) (if is then Some (but_flits seen) else one)
    ≡ option_map (λ (s : Seen). s.ring) (if is then Some seen else other)
first_alike true seen one other same = refl
first_alike false seen one other same = same

-- the ring of a link doesn't hang on flits
ring_alike : (ends : List Seen) (number : ℕ) → ring_of (map but_flits ends) number ≡ ring_of ends number
ring_alike [] number = refl
ring_alike (seen ∷ ends) number = first_alike (seen.link == number) seen _ _ (ring_alike ends number)

written_alike : (number : ℕ) (station : Option StationState)
    → option_and_then (λ (e : Ends). ring_of e.outs number) (option_map ends_of station)
    ≡ option_and_then (λ (s : StationState). ring_of s.outs number) station
written_alike number None = refl
written_alike number (Some station) = ring_alike station.outs number

read_alike : (number : ℕ) (station : Option StationState)
    → option_and_then (λ (e : Ends). ring_of e.ins number) (option_map ends_of station)
    ≡ option_and_then (λ (s : StationState). ring_of s.ins number) station
read_alike number None = refl
read_alike number (Some station) = ring_alike station.ins number

-- the ring that a station writes, by the ends of all stations
written_by : (stations : List StationState) (tile number : ℕ)
    → option_and_then (λ (e : Ends). ring_of e.outs number) (slice_get (map ends_of stations) tile)
    ≡ written_ring stations tile number
written_by stations tile number =
    ap (λ (o : Option Ends). option_and_then (λ (e : Ends). ring_of e.outs number) o) (slice_get-map ends_of stations tile)
    ∙ written_alike number (slice_get stations tile)

read_by : (stations : List StationState) (tile number : ℕ)
    → option_and_then (λ (e : Ends). ring_of e.ins number) (slice_get (map ends_of stations) tile)
    ≡ read_ring stations tile number
read_by stations tile number =
    ap (λ (o : Option Ends). option_and_then (λ (e : Ends). ring_of e.ins number) o) (slice_get-map ends_of stations tile)
    ∙ read_alike number (slice_get stations tile)

-- stations with the same ends are linked alike
pub linked_alike : (links : List Link) (old new : List StationState) → map ends_of new ≡ map ends_of old
    → AreLinked links old → AreLinked links new
linked_alike links old new same linked number link there =
    let before = linked number link there in
    let written : written_ring new link.from number ≡ written_ring old link.from number =
    sym (written_by new link.from number)
    ∙ ap (λ (l : List Ends). option_and_then (λ (e : Ends). ring_of e.outs number) (slice_get l link.from)) same
    ∙ written_by old link.from number in
    let read : read_ring new link.to number ≡ read_ring old link.to number =
    sym (read_by new link.to number)
    ∙ ap (λ (l : List Ends). option_and_then (λ (e : Ends). ring_of e.ins number) (slice_get l link.to)) same
    ∙ read_by old link.to number in
    (subst (λ (o : Option LinkName). IsSome o) (sym written) before.0, read ∙ before.1 ∙ sym written)
