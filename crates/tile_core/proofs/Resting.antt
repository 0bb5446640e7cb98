-- A slot of a tile whose slot tables are free.
use Rattle.std.proofs.Common.{◌≡◌, ℕ, zero, suc, ◌+◌, ◌<◌, ◌^◌, List, [], ◌∷◌, length, replicate, Option, All, refl, sym, subst, ap, ◌∙◌}
use Rattle.soc_base.specs.Port.{WordAndCredits, idle}
use Rattle.bundle_model.specs.declared.world.World.{World}
use Rattle.tdm_network.specs.declared.routing.Outputs.{Outputs}
use Rattle.tdm_network.specs.Rows.{free_rows}
use Rattle.tdm_network.specs.Routing.{no_outputs}
use Rattle.tdm_network.proofs.Laws.{nobody_injects, nothing_routed}
use Rattle.ni_port.specs.SizedPort.{after_inject}
use Rattle.tile_core.specs.Tile.{TileState}
use Rattle.tile_core.specs.Slot.{counted, with_port, with_injection, injected_flit, with_cycles, traffic, with_traffic}
use Rattle.tile_core.specs.inner.Ready.{IsSoundTile}
use Rattle.tile_core.proofs.SlotMade.{active_kept}

-- idle flits count nothing
counted_idle : (n : ℕ) (counts : List ℕ) → counted (replicate n idle) counts ≡ counts
counted_idle zero counts = refl
counted_idle (suc n) [] = refl
counted_idle (suc n) (count ∷ counts) = ap (λ (cs : List ℕ). count ∷ cs) (counted_idle n counts)

-- no port injects
still : (t : TileState) → t.tables ≡ free_rows (length t.tables) → with_injection t ≡ t
still t free =
    ap (λ (port : Option ℕ). let s : TileState = record t { ports = with_port after_inject port t.ports } in s)
    (nobody_injects t.tables t.at free)

-- nothing happens but its cycles
pub rests : (world : World) (inputs : List WordAndCredits) (t s : TileState) → t.tables ≡ free_rows (length t.tables)
    → s ≡ with_cycles world t → s ≡ with_traffic (traffic inputs t) (with_cycles world (with_injection t))
rests world inputs t s free is =
    let done = with_cycles world t in
    let nothing : traffic inputs t ≡ no_outputs = nothing_routed t.tables t.at inputs (injected_flit t) free in
    is ∙ sym (ap (λ (outputs : Outputs). with_traffic outputs (with_cycles world (with_injection t))) nothing
    ∙ ap (λ (u : TileState). with_traffic no_outputs (with_cycles world u)) (still t free)
    ∙ ap (λ (counts : List ℕ). let u : TileState = record done { carried = counts } in u) (counted_idle 7 done.carried))

-- and its outputs carry nothing
pub rests_idle : (inputs : List WordAndCredits) (t : TileState) → t.tables ≡ free_rows (length t.tables)
    → replicate 7 idle ≡ (traffic inputs t).links
rests_idle inputs t free =
    sym (ap (λ (outputs : Outputs). outputs.links) (nothing_routed t.tables t.at inputs (injected_flit t) free))

-- cycles and an injection leave the counts
pub counts_stay : (world : World) (t s : TileState) → IsSoundTile world t → s ≡ with_cycles world (with_injection t)
    → All (λ count. count + 1 < 2 ^ 64) t.carried → All (λ count. count + 1 < 2 ^ 64) s.carried
counts_stay world t s sound is low =
    let same : s.carried ≡ t.carried = ap (λ (u : TileState). u.carried) is
    ∙ (active_kept world sound.loads t sound.sound.catalog sound.made).alike.carried in
    let Low : List ℕ → Type 0 = λ counts. All (λ count. count + 1 < 2 ^ 64) counts in
    subst Low (sym same) low
