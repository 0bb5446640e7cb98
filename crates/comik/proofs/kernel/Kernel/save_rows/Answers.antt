use Rattle.std.proofs.Common.{◌≡◌, ◌+◌, ◌-◌, ◌==◌, cond, sym, ap, ◌∙◌, arith}
use Rattle.comik.specs.Kernel.{KernelState}
use Rattle.comik.specs.Table.{latched, saved_words}
use Rattle.comik.proofs.Still.{rest_still}
use Rattle.comik.proofs.Stretches.{rows_saved}
use Rattle.comik.proofs.kernel.Kernel.save_rows.Goals as goal

pub returns-then-count-eq0 : goal.returns-then-count-eq0
returns-then-count-eq0 c = sym (rest_still c.args.self.now c.args.served c.args.offset c.args.count (λ some. omega (arith, c.if-count-eq0.true)))

pub returns : goal.returns
returns c =
    let k = c.args.self.now in
    let o = c.args.offset in
    let n = c.args.count in
    let size : o + n - o ≡ n = omega arith in
    c.save_words.ensures
    ∙ ap (λ (s : KernelState). saved_words s o (o + n - o)) c.latch.ensures
    ∙ ap (λ m. saved_words (cond (o == 0) (latched k c.args.served) k) o m) size
    ∙ sym (rows_saved k c.args.served o n (omega (arith, c.if-count-eq0.false)) (c.requires.within (omega (arith, c.if-count-eq0.false))))
