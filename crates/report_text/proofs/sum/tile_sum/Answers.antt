use Rattle.std.proofs.Common.{◌∙◌}
use Rattle.report_text.proofs.Numbers.{sum_of_four}
use Rattle.report_text.proofs.sum.tile_sum.Goals as goal

pub returns : goal.returns
returns c =
    c.sum_of_four.ensures
    ∙ sum_of_four _ _ _ _ _ _ _ _ c.file_sum-file.ensures c.frames_sum-frames.ensures c.memory_sum-memory.ensures
    c.carried_sum-carried.ensures
