use Rattle.std.proofs.Common.{◌≡◌, ◌≤◌, length, map, take, vec_len, vec_capacity}
use Rattle.alone_model.specs.App.{opening_part}
use Rattle.alone_model.proofs.application.open_all.Given as goal

abbrev pub invariant-loop-part : goal.invariant-loop-part
invariant-loop-part l =
    (l.parts.items ≡ map (opening_part l.platform) (take l.part-index l.part-items)) × (vec_len l.parts ≡ l.part-index) × (length l.part-items ≤ vec_capacity l.parts)
