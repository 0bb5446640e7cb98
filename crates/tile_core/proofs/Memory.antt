-- What a tile's memory and its ports are after a part changed its own.
use Rattle.std.proofs.Common.{◌≡◌, ℕ, ◌+◌, List, ◌++◌, take, drop, sym, ap, ◌∙◌}
use Rattle.std.proofs.lemmas.List.{take-append-drop, drop-drop}
use Rattle.soc_base.specs.declared.region.Region.{Region}
use Rattle.tile_memory.specs.Bytes.{region_bytes, with_region}
use Rattle.ni_port.specs.SizedPort.{SizedPort}
use Rattle.tile_mmio.specs.Ports.{own_ports, put_ports, other_ports}
use Rattle.tile_mmio.proofs.Laws.{ports_after}

-- a memory that is the same before and after a region differs in the region's bytes alone
pub joined_region : (memory new bytes : List ℕ) (region : Region) → region_bytes new region ≡ bytes → take region.base new ≡ take region.base memory → drop (region.base + region.len) new ≡ drop (region.base + region.len) memory → new ≡ with_region memory region bytes
joined_region memory new bytes region inner before after =
    let behind : drop region.base new ≡ region_bytes new region ++ drop (region.base + region.len) new =
    sym (take-append-drop region.len (drop region.base new)) ∙ ap (λ xs. region_bytes new region ++ xs) (drop-drop region.len region.base new) in
    let whole : new ≡ take region.base new ++ (region_bytes new region ++ drop (region.base + region.len) new) =
    sym (take-append-drop region.base new) ∙ ap (λ xs. take region.base new ++ xs) behind in
    cc

-- a tile's ports, of which those of no part changed but the own ones
pub joined_ports : (before after own : List SizedPort) (numbers : List ℕ) → own_ports after numbers ≡ own → other_ports after numbers ≡ other_ports before numbers → after ≡ put_ports before numbers own
joined_ports before after own numbers inner others =
    ports_after before after numbers others ∙ ap (put_ports before numbers) inner
