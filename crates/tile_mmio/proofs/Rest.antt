-- What follows where the rest of a tile is as it was.
use Rattle.std.proofs.Common.{◌≡◌, ap, sym, ◌∙◌}
use Rattle.tile_mmio.specs.Ports.{put_ports, other_ports, AreOwn}
use Rattle.tile_mmio.specs.Part.{view_of, rest_of}
use Rattle.tile_mmio.specs.declared.run.PartOnTile.{PartOnTile}
use Rattle.tile_mmio.proofs.Own.{own_kept, ports_after}

-- the numbers of the part's ports are still numbers of ports, none of them twice
pub rest_own : (old new : PartOnTile) → rest_of new ≡ rest_of old → AreOwn old.ports.now old.map.now → AreOwn new.ports.now new.map.now
rest_own old new same own =
    let map = ap (λ rest. rest.5) same in
    let others = ap (λ rest. rest.6) same in
    rw map (own_kept old.ports.now new.ports.now old.map.now (ap (other_ports new.ports.now) (sym map) ∙ others) own)

-- the tile's ports are those before, with the part's own put in their places
pub rest_ports : (old new : PartOnTile) → rest_of new ≡ rest_of old → new.ports.now ≡ put_ports old.ports.now old.map.now (view_of new).ports
rest_ports old new same =
    let map = ap (λ rest. rest.5) same in
    let others = ap (λ rest. rest.6) same in
    rw map (ports_after old.ports.now new.ports.now old.map.now (ap (other_ports new.ports.now) (sym map) ∙ others))
