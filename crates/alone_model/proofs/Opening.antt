-- What a part has when its application is granted.
use Rattle.std.proofs.Common.{◌≡◌, ℕ, ◌*◌, ◌≤◌, List, length, replicate, arith}
use Rattle.std.proofs.lemmas.List.{length-replicate}
use Rattle.bundle_model.specs.declared.bundle.Part.{Part}
use Rattle.platform_model.specs.declared.platform.Platform.{Platform}
use Rattle.bundle_model.specs.WellFormed.{IsWellFormedPart}
use Rattle.ni_port.specs.SizedPort.{SizedPort}
use Rattle.std.specs.List.{IsDistinct, range_with_len}
use Rattle.std.proofs.Common.{eqb, zero, suc, ◌<◌, true, [], ◌∷◌, map, get_or, sym, ap, ◌∙◌, subst, inl, inr}
use Rattle.std.specs.List.{list_any}
use Rattle.std.proofs.lemmas.Bool.{false≢true, or_cases, eqb-true}
use Rattle.std.proofs.lemmas.List.{length-map}
use Rattle.alone_model.specs.inner.Stretch.{HasItsOwn}
use Rattle.std.proofs.lemmas.Bool.Decides.{Decides-eqb}
use Rattle.std.proofs.lemmas.Map.Made.{IsDistinct-from_AllPairs}
use Rattle.std.proofs.lemmas.Map.Steps.{length-le_from_distinct_below}
use Rattle.tile_memory.specs.Bytes.{IsInside, region_bytes, with_region, filled_bytes}
use Rattle.tile_memory.proofs.Laws.{length-with_region, region-with_region, length-filled_bytes}
use Rattle.alone_model.specs.App.{own_region}

inside_zeros : (part : Part) → IsInside (replicate part.region.len 0) (own_region part)
inside_zeros part = omega (arith, length-replicate {A = ℕ})

pub filled_inside : (part : Part) (memory : List ℕ) → 4 * length part.image ≤ part.region.len
    → memory ≡ with_region (replicate part.region.len 0) (own_region part) (filled_bytes part.region.len part.image)
    → IsInside memory (own_region part)
filled_inside part memory fits is =
    let size = length-with_region (replicate part.region.len 0) (own_region part) (filled_bytes part.region.len part.image) (inside_zeros part) (length-filled_bytes part.region.len part.image fits) in
    rw is (omega (arith, size, length-replicate {A = ℕ}))

pub filled_region : (part : Part) (memory : List ℕ) → 4 * length part.image ≤ part.region.len
    → memory ≡ with_region (replicate part.region.len 0) (own_region part) (filled_bytes part.region.len part.image)
    → region_bytes memory (own_region part) ≡ filled_bytes part.region.len part.image
filled_region part memory fits is =
    rw is (region-with_region (replicate part.region.len 0) (own_region part) (filled_bytes part.region.len part.image) (inside_zeros part) (length-filled_bytes part.region.len part.image fits))

-- a number that is in a list
found_in : (numbers : List ℕ) (number : ℕ) → list_any (eqb number) numbers ≡ true
    → (k : ℕ) × (k < length numbers) × (get_or numbers k 0 ≡ number)
found_in [] number found = absurd (false≢true found)
found_in (first ∷ numbers) number found = elim (or_cases (eqb number first) (list_any (eqb number) numbers) found) [
  | inl here ↦ (zero, omega arith, sym (eqb-true number first here))
  | inr later ↦ let rest = found_in numbers number later in (suc rest.0, omega (arith, rest.1), rest.2)
]

-- a part that breaks no rule has at most 16 ports
pub few_ports : (platform : Platform) (part : Part) → IsWellFormedPart platform part → length part.ports ≤ 16
few_ports platform part well =
    let apart : IsDistinct eqb part.ports = IsDistinct-from_AllPairs Decides-eqb part.ports well.ports_differ in
    let below : length part.ports ≤ platform.ports = length-le_from_distinct_below part.ports platform.ports apart (λ number among.
    let at = found_in part.ports number among in
    subst (λ (port : ℕ). port < platform.ports) at.2 (well.ports_exist at.0 0 at.1)) in
    omega (arith, below, platform.ports_in_range)

-- what a part has of its own
pub owns : (part : Part) (memory : List ℕ) (port : SizedPort) (ports : List SizedPort) (numbers : List ℕ) → IsInside memory (own_region part)
    → ports ≡ map (λ (n : ℕ). port) part.ports → numbers ≡ range_with_len 0 (length part.ports) → HasItsOwn part memory ports numbers
owns part memory port ports numbers region made numbered_so =
    let size : length ports ≡ length part.ports = ap (λ (ps : List SizedPort). length ps) made ∙ length-map part.ports (λ (n : ℕ). port) in
    record { inside = region; count = size; numbered = numbered_so ∙ ap (range_with_len 0) (sym size) }
