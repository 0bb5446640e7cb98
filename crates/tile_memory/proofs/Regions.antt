-- What other bytes in a region leave of a memory.
use Rattle.std.proofs.Common.{◌≡◌, ℕ, ◌+◌, ◌-◌, ◌*◌, ◌≤◌, List, [], ◌∷◌, ◌++◌, length, take, drop, replicate, Ok, arith, refl, sym, ap, ◌∙◌}
use Rattle.std.proofs.lemmas.List.{length-take-le, drop-drop, drop_at, length-append, length-drop, length-replicate, take_at}
use Rattle.std.proofs.lemmas.Bool.Decides.{nat_tests}
use Rattle.std.specs.List.{flat_map}
use Rattle.byteorder.specs.Endian.{little_bytes}
use Rattle.byteorder.specs.Numbers.{length-bytes_low_first}
use Rattle.soc_base.specs.declared.region.Region.{Region}
use Rattle.soc_base.specs.declared.region.Width.{Width}
use Rattle.soc_base.specs.Widths.{width_bytes}
use Rattle.tile_memory.specs.Bytes.{IsInside, region_bytes, with_region, filled_bytes, stored_bytes, store_answer_of}

-- the bytes before the region stay
pub take-with_region : (memory : List ℕ) (region : Region) (bytes : List ℕ) → IsInside memory region → take region.base (with_region memory region bytes) ≡ take region.base memory
take-with_region memory region bytes inside = take_at (take region.base memory) _ region.base (length-take-le region.base memory (omega arith))

-- the bytes after the region stay
pub drop-with_region : (memory : List ℕ) (region : Region) (bytes : List ℕ) → IsInside memory region → length bytes ≡ region.len → drop (region.base + region.len) (with_region memory region bytes) ≡ drop (region.base + region.len) memory
drop-with_region memory region bytes inside fits =
    let front : length (take region.base memory) ≡ region.base = length-take-le region.base memory (omega arith) in
    sym (drop-drop region.len region.base (with_region memory region bytes))
    ∙ ap (drop region.len) (drop_at (take region.base memory) _ region.base front)
    ∙ drop_at bytes _ region.len fits

-- the region holds the bytes
pub region-with_region : (memory : List ℕ) (region : Region) (bytes : List ℕ) → IsInside memory region → length bytes ≡ region.len → region_bytes (with_region memory region bytes) region ≡ bytes
region-with_region memory region bytes inside fits =
    let front : length (take region.base memory) ≡ region.base = length-take-le region.base memory (omega arith) in
    ap (take region.len) (drop_at (take region.base memory) _ region.base front)
    ∙ take_at bytes _ region.len fits

-- the memory keeps its size
pub length-with_region : (memory : List ℕ) (region : Region) (bytes : List ℕ) → IsInside memory region → length bytes ≡ region.len → length (with_region memory region bytes) ≡ length memory
length-with_region memory region bytes inside fits =
    let front : length (take region.base memory) ≡ region.base = length-take-le region.base memory (omega arith) in
    omega (arith, length-append (take region.base memory) (bytes ++ drop (region.base + region.len) memory), length-append bytes (drop (region.base + region.len) memory), length-drop (region.base + region.len) memory, front, fits)

-- a region has its length in bytes
pub length-region_bytes : (memory : List ℕ) (region : Region) → IsInside memory region → length (region_bytes memory region) ≡ region.len
length-region_bytes memory region inside = length-take-le region.len (drop region.base memory) (omega (arith, length-drop region.base memory))

-- a store keeps the number of bytes
pub length-stored_bytes : (bytes : List ℕ) (addr : ℕ) (width : Width) (value : ℕ) → addr + width_bytes width ≤ length bytes → length (stored_bytes bytes addr width value) ≡ length bytes
length-stored_bytes bytes addr width value inside =
    let front : length (take addr bytes) ≡ addr = length-take-le addr bytes (omega arith) in
    let number = length-bytes_low_first 0 (width_bytes width) value in
    omega (arith, length-append (take addr bytes) (little_bytes (width_bytes width) value ++ drop (addr + width_bytes width) bytes), length-append (little_bytes (width_bytes width) value) (drop (addr + width_bytes width) bytes), length-drop (addr + width_bytes width) bytes, front, number)

-- the words of an image are four bytes each
length-image : (image : List ℕ) → length (flat_map (little_bytes 4) image) ≡ 4 * length image
length-image [] = refl
length-image (word ∷ image) = omega (arith, length-append (little_bytes 4 word) (flat_map (little_bytes 4) image), length-bytes_low_first 0 4 word, length-image image)

-- a filled region has its length
pub length-filled_bytes : (len : ℕ) (image : List ℕ) → 4 * length image ≤ len → length (filled_bytes len image) ≡ len
length-filled_bytes len image fits =
    omega (arith, length-append (flat_map (little_bytes 4) image) (replicate (len - 4 * length image) 0), length-image image, length-replicate {A = ℕ})

-- a store that was done had its bytes in the region
pub stored_inside : (bytes : List ℕ) (addr : ℕ) (width : Width) → Ok tt ≡ store_answer_of bytes addr width → addr + width_bytes width ≤ length bytes
stored_inside bytes addr width e = grind (arith, nat_tests)
