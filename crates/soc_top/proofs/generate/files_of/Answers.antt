use Rattle.std.proofs.Common.{refl}
use Rattle.soc_top.proofs.generate.files_of.Goals as goal

pub returns : goal.returns
returns c = rw (
  c.in_ok-add_all-2.ensures,
  c.in_ok-add_all.ensures,
  c.in_ok-add.ensures.ok,
  c.new-files.ensures,
  c.as_slice.ensures,
  c.as_slice-2.ensures,
  c.as_bytes.ensures.value,
  c.as_str.ensures,
) refl
