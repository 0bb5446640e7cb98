-- A region keeps its bytes when another region gets bytes that shares none with it.
use Rattle.std.proofs.Common.{◌≡◌, ℕ, ◌+◌, ◌-◌, ◌≤◌, ◌⊎◌, List, length, take, drop, sym, ap, ◌∙◌, inl, inr, arith}
use Rattle.std.proofs.lemmas.List.{drop-take, drop-drop, take-take}
use Rattle.soc_base.specs.declared.region.Region.{Region}
use Rattle.tile_memory.specs.Bytes.{IsInside, region_bytes, with_region}
use Rattle.tile_memory.proofs.Laws.{take-with_region, drop-with_region}

-- a region is read from the bytes up to its end
region_of_front : (xs : List ℕ) (region : Region) (n : ℕ) → region.base + region.len ≤ n → region_bytes xs region ≡ region_bytes (take n xs) region
region_of_front xs region n low =
    sym (drop-take region.base region.len xs)
    ∙ ap (drop region.base) (sym (take-take (region.base + region.len) n xs low))
    ∙ drop-take region.base region.len (take n xs)

-- and from the bytes from its base on
region_of_back : (xs : List ℕ) (region : Region) (n : ℕ) → n ≤ region.base → region_bytes xs region ≡ take region.len (drop (region.base - n) (drop n xs))
region_of_back xs region n high =
    let whole : n + (region.base - n) ≡ region.base = omega arith in
    ap (take region.len) (sym (drop-drop (region.base - n) n xs ∙ ap (λ k. drop k xs) whole))

pub region_stays : (memory : List ℕ) (one other : Region) (bytes : List ℕ) → IsInside memory one → length bytes ≡ one.len → (one.base + one.len ≤ other.base) ⊎ (other.base + other.len ≤ one.base) → region_bytes (with_region memory one bytes) other ≡ region_bytes memory other
region_stays memory one other bytes inside fits (inl before) =
    region_of_back (with_region memory one bytes) other (one.base + one.len) before
    ∙ ap (λ xs. take other.len (drop (other.base - (one.base + one.len)) xs)) (drop-with_region memory one bytes inside fits)
    ∙ sym (region_of_back memory other (one.base + one.len) before)
region_stays memory one other bytes inside fits (inr behind) =
    region_of_front (with_region memory one bytes) other one.base behind
    ∙ ap (λ xs. region_bytes xs other) (take-with_region memory one bytes inside)
    ∙ sym (region_of_front memory other one.base behind)
