-- A tile over the cycles of a slot.
use Rattle.std.proofs.Common.{◌≡◌, ℕ, zero, suc, ◌+◌, Option, refl, sym, subst, ap, arith}
use Rattle.soc_base.specs.Steps.{after_steps}
use Rattle.soc_base.specs.Time.{FrameTimes}
use Rattle.soc_base.specs.Frame.{IsFrame}
use Rattle.platform_model.specs.declared.costs.Costs.{Costs}
use Rattle.bundle_model.specs.declared.bundle.Part.{Part}
use Rattle.part_model.specs.Part.{PartState}
use Rattle.tile_core.specs.Tile.{TileState}
use Rattle.tile_core.specs.Cycle.{tile_cycle}
use Rattle.tile_core.specs.Views.{view_step, view_cycles}
use Rattle.tile_core.specs.Holds.{Holds}
use Rattle.tile_core.proofs.Holding.{views_after, AreParted, holds_cycle}
use Rattle.tile_core.proofs.Coming.{holds_by}

-- so many cycles, each part by itself
views_cycles : (times : FrameTimes) (costs : Costs) (parts : ℕ → Option Part) (granted : ℕ → Option ℕ) (c n : ℕ) (view : ℕ → PartState) (place : ℕ) → after_steps (λ (cycle : ℕ) (v : ℕ → PartState). views_after times costs cycle parts granted v) c n view place ≡ view_cycles times costs (granted place) (parts place) c n (view place)
unfolding after_steps
views_cycles times costs parts granted c zero view place = refl
views_cycles times costs parts granted c (suc n) view place = ap (view_step times costs (c + n) (granted place) (parts place)) (views_cycles times costs parts granted c n view place)

holds_cycles : (times : FrameTimes) (parts : ℕ → Option Part) (granted : ℕ → Option ℕ) (starts : ℕ → ℕ) (view : ℕ → PartState) (costs : Costs) (c n : ℕ) (t : TileState) → IsFrame times → AreParted parts granted → Holds times parts granted starts view c t → Holds times parts granted starts (after_steps (λ (cycle : ℕ) (v : ℕ → PartState). views_after times costs cycle parts granted v) c n view) (c + n) (after_steps (tile_cycle parts costs) c n t)
unfolding after_steps
holds_cycles times parts granted starts view costs c zero t frame parted h =
    let none : c ≡ c + 0 = omega arith in
    subst (λ (at : ℕ). Holds times parts granted starts view at t) none h
holds_cycles times parts granted starts view costs c (suc n) t frame parted h =
    let before = holds_cycles times parts granted starts view costs c n t frame parted h in
    let more : c + n + 1 ≡ c + suc n = omega arith in
    let views = after_steps (λ (cycle : ℕ) (v : ℕ → PartState). views_after times costs cycle parts granted v) c n view in
    let done = holds_cycle times parts granted starts views costs (c + n) (after_steps (tile_cycle parts costs) c n t) frame parted before in
    subst (λ (at : ℕ). Holds times parts granted starts (views_after times costs (c + n) parts granted views) at (tile_cycle parts costs (c + n) (after_steps (tile_cycle parts costs) c n t))) more done

-- over the cycles of a slot each part has its cycles by itself
pub holds_going : (times : FrameTimes) (parts : ℕ → Option Part) (granted : ℕ → Option ℕ) (starts : ℕ → ℕ) (view : ℕ → PartState) (costs : Costs) (c n : ℕ) (t : TileState) → IsFrame times → AreParted parts granted → Holds times parts granted starts view c t → Holds times parts granted starts (λ place. view_cycles times costs (granted place) (parts place) c n (view place)) (c + n) (after_steps (tile_cycle parts costs) c n t)
holds_going times parts granted starts view costs c n t frame parted h =
    holds_by times parts granted granted starts _ (λ place. view_cycles times costs (granted place) (parts place) c n (view place)) (c + n) (after_steps (tile_cycle parts costs) c n t) (λ place. refl) (λ place part is. sym (views_cycles times costs parts granted c n view place)) (holds_cycles times parts granted starts view costs c n t frame parted h)
