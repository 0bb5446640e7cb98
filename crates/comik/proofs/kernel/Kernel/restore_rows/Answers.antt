use Rattle.std.proofs.Common.{◌≡◌, ◌+◌, ◌-◌, ◌==◌, cond, sym, ap, ◌∙◌, arith}
use Rattle.comik.specs.Kernel.{KernelState}
use Rattle.comik.specs.Table.{swapped, restored_words}
use Rattle.comik.proofs.Still.{rest_still}
use Rattle.comik.proofs.Stretches.{rows_restored}
use Rattle.comik.proofs.kernel.Kernel.restore_rows.Goals as goal

pub returns-then-count-eq0 : goal.returns-then-count-eq0
returns-then-count-eq0 c = sym (rest_still c.args.self.now c.args.served c.args.offset c.args.count (λ some. omega (arith, c.if-count-eq0.true)))

pub returns : goal.returns
returns c =
    let k = c.args.self.now in
    let o = c.args.offset in
    let n = c.args.count in
    let first = o - 33 in
    let size : first + n - first ≡ n = omega arith in
    c.restore_words.ensures
    ∙ ap (λ (s : KernelState). restored_words s first (first + n - first)) c.swap.ensures
    ∙ ap (λ m. restored_words (cond (o == 33) (swapped k) k) first m) size
    ∙ sym (rows_restored k c.args.served o n (omega (arith, c.if-count-eq0.false)) (c.requires.past (omega (arith, c.if-count-eq0.false))) (c.requires.within (omega (arith, c.if-count-eq0.false))))
