use Rattle.std.proofs.Common.{rules, get_or}
use Rattle.tile_mmio.specs.Ports.{no_port}
use Rattle.report_text.specs.State.{port_text}
use Rattle.report_text.proofs.Numbers.{prints_number}
use Rattle.report_text.proofs.state.port_lines.put_ports.Goals as goal

pub loop-number-preserved : goal.loop-number-preserved
loop-number-preserved g c = (
  prints_number (λ number. port_text c.args.tile.now.number number (get_or c.args.tile.now.ports number no_port))
      c.loop-number.number c.loop-number.invariant.0 c.put_numbered.ensures.printed,
  search rules,
)
