-- A part to which all ports are its own.
use Rattle.std.proofs.Common.{◌≡◌, ℕ, List, [], ◌∷◌, length, slice_set, ap, sym, refl, ◌∙◌, arith}
use Rattle.std.specs.List.{range_with_len}
use Rattle.std.proofs.lemmas.Bool.Decides.{Decides-eqb}
use Rattle.std.proofs.lemmas.List.{length-set}
use Rattle.std.proofs.lemmas.List.FromFn.{length-range_with_len, get_or-range_with_len}
use Rattle.std.proofs.lemmas.Map.Made.{IsDistinct-from_AllPairs}
use Rattle.ni_port.specs.SizedPort.{SizedPort}
use Rattle.part_model.specs.Part.{PartState}
use Rattle.tile_mmio.specs.Ports.{own_ports, put_ports, AreOwn}
use Rattle.tile_mmio.specs.Part.{view_of, rest_of}
use Rattle.tile_mmio.specs.declared.run.PartOnTile.{PartOnTile}
use Rattle.tile_mmio.proofs.Laws.{own_all, rest_ports}
use Rattle.alone_model.specs.inner.OnTile.{own_state}

-- ports that are numbered from 0 on are a part's own
pub are_own : (ports : List SizedPort) (numbers : List ℕ) → numbers ≡ range_with_len 0 (length ports) → AreOwn ports numbers
are_own ports numbers is =
    let n : ℕ = length ports in
    let size = length-range_with_len 0 n in
    rw is (record {
      within = λ k d inside. let at = get_or-range_with_len 0 n k d (omega (arith, size, inside)) in omega (arith, at, size, inside);
      apart = IsDistinct-from_AllPairs Decides-eqb (range_with_len 0 n) (λ i j d before inside same.
          let one = get_or-range_with_len 0 n i d (omega (arith, size, inside, before)) in
          let other = get_or-range_with_len 0 n j d (omega (arith, size, inside)) in
          omega (arith, one, other, same, before));
    })

length-put : (ports : List SizedPort) (numbers : List ℕ) (own : List SizedPort) → length (put_ports ports numbers own) ≡ length ports
unfolding put_ports
length-put ports [] own = refl
length-put ports (n ∷ numbers) [] = refl
length-put ports (n ∷ numbers) (port ∷ own) = length-put (slice_set ports n port) numbers own ∙ length-set ports n port

-- its cycles keep the number of the ports
pub own_count : (old new : PartOnTile) → rest_of new ≡ rest_of old → length new.ports.now ≡ length old.ports.now
own_count old new same = ap length (rest_ports old new same) ∙ length-put old.ports.now old.map.now (view_of new).ports

-- so it has in the tile's ports what an application has alone
own_view : (p : PartOnTile) → p.map.now ≡ range_with_len 0 (length p.ports.now) → view_of p ≡ own_state p
own_view p numbered =
    ap (λ (ports : List SizedPort). record (view_of p) { ports = ports }) (ap (own_ports p.ports.now) numbered ∙ own_all p.ports.now)

pub own_runs : (old new : PartOnTile) (steps : PartState → PartState) → rest_of new ≡ rest_of old
    → old.map.now ≡ range_with_len 0 (length old.ports.now) → view_of new ≡ steps (view_of old)
    → own_state new ≡ steps (own_state old)
own_runs old new steps same numbered runs =
    let still : new.map.now ≡ range_with_len 0 (length new.ports.now) = ap (λ rest. rest.5) same ∙ numbered ∙ ap (range_with_len 0) (sym (own_count old new same)) in
    sym (own_view new still) ∙ runs ∙ ap steps (own_view old numbered)
