use Rattle.std.proofs.Common.{ap, ◌∙◌}
use Rattle.std.specs.List.{list_all}
use Rattle.bundle_model.specs.inner.Bytes.{are_of_bytes}
use Rattle.bundle_model.proofs.Unbroken.{bytes_kept}
use Rattle.bundle_model.proofs.judge.unbroken.Goals as goal

pub pairs_of-requires : goal.pairs_of-requires
pairs_of-requires c = ap (list_all are_of_bytes) c.as_slice-2.ensures ∙ bytes_kept c.args.platform.now c.args.raw.now c.requires
