use Rattle.std.proofs.Common.{◌+◌, sym, ap, ◌∙◌, arith}
use Rattle.comik.specs.Kernel.{KernelState}
use Rattle.comik.specs.Table.{kernel_rows}
use Rattle.comik.proofs.Stretches.{rows_cut}
use Rattle.comik.proofs.kernel.Kernel.rows.Goals as goal

pub returns : goal.returns
returns c =
    let k = c.args.self.now in
    let served = c.args.served in
    let o = c.args.offset in
    let n = c.args.count in
    let saves = c.min-saves.result in
    let restores = c.min-restores.result in
    let a = c.min-saves.ensures in
    let b = c.min-restores.ensures in
    let d = c.saturating_sub.ensures in
    let e = c.saturating_sub-2.ensures in
    c.restore_rows.ensures
    ∙ ap (λ (s : KernelState). kernel_rows s served (o + saves) restores) c.save_rows.ensures
    ∙ sym (rows_cut k served o n saves restores (omega arith) (omega arith) (λ some. omega arith))
