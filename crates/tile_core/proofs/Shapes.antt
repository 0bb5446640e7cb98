-- A part keeps a context's shape: 32 registers, of which x0 is zero.
use Rattle.std.proofs.Common.{ℕ}
use Rattle.platform_model.specs.declared.costs.Costs.{Costs}
use Rattle.rv_core.proofs.Laws.{IsShape}
use Rattle.part_model.specs.declared.record.Place.{Place}
use Rattle.part_model.specs.Part.{PartState, part_cycle}
use Rattle.part_model.proofs.Laws.{cycle_registers}
use Rattle.comik.specs.Context.{IsContext}
use Rattle.tile_core.specs.Cycle.{words_of}

pub cycle_shape : (costs : Costs) (place : Place) (cycle : ℕ) (p : PartState) → IsContext (words_of p)
    → IsContext (words_of (part_cycle costs place cycle p))
cycle_shape costs place cycle p context =
    let was : IsShape p.regs = record { count = context.count; zero = context.zero } in
    let now = cycle_registers costs place cycle p was in
    record { count = now.count; zero = now.zero }
