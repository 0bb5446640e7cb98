use Rattle.std.proofs.Common.{◌≡◌, ◌%◌, ◌^◌, map}
use Rattle.std.specs.List.{range_with_len}
use Rattle.tile_memory.specs.Bytes.{word_of}
use Rattle.report_text.specs.State.{total}
use Rattle.report_text.proofs.sum.words_of_memory.Given as goal

abbrev pub invariant-loop-index : goal.invariant-loop-index
invariant-loop-index l = l.sum ≡ total (map (word_of l.memory) (range_with_len 0 l.index)) % 2 ^ 32
