-- A memory that is filled keeps its size.
use Rattle.std.proofs.Common.{◌≡◌, ℕ, ◌*◌, ◌≤◌, List, length}
use Rattle.soc_base.specs.declared.region.Region.{Region}
use Rattle.tile_memory.specs.Bytes.{IsInside, with_region, filled_bytes}
use Rattle.tile_memory.proofs.Laws.{length-with_region, length-filled_bytes}

pub filled_size : (memory new image : List ℕ) (region : Region) → IsInside memory region
    → 4 * length image ≤ region.len → new ≡ with_region memory region (filled_bytes region.len image)
    → length new ≡ length memory
filled_size memory new image region inside fits is =
    rw is (length-with_region memory region (filled_bytes region.len image) inside (length-filled_bytes region.len image fits))
