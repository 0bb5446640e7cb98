use Rattle.std.proofs.Common.{ℕ, ◌+◌, ◌*◌, ◌%◌, ◌^◌, ap₂, ◌∙◌}
use Rattle.std.proofs.lemmas.Nat.{mul-mod_second}
use Rattle.report_text.specs.State.{tile_sum}
use Rattle.report_text.specs.inner.Shares.{tile_share}
use Rattle.report_text.proofs.sum.tile_share.Goals as goal

pub returns : goal.returns
unfolding tile_share
returns c =
    c.times_one_more.ensures
    ∙ ap₂ (λ (n s : ℕ). (n + 1) * s % 2 ^ 32) c.number.ensures c.tile_sum.ensures
    ∙ mul-mod_second (c.args.tile.now.number + 1) (tile_sum c.args.tile.now) (2 ^ 32)
