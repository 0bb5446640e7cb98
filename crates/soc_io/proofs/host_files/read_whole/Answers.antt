use Rattle.std.proofs.Common.{rules, ◌≤◌, length, ap, arith}
use Rattle.soc_base.specs.declared.limits.TheConstants.{MOST_FILE_BYTES}
use Rattle.soc_io.proofs.Fronts.{whole_front}
use Rattle.soc_io.proofs.host_files.read_whole.Goals as goal

-- the front that was read is the whole file, since it is no longer than a file may be
pub returns-in-Ok-clause-whole : goal.returns-in-Ok-clause-whole
returns-in-Ok-clause-whole g c =
    let remaining = g.F.Read.remaining in
    let short : length c.read_to_end.new.buf.items ≤ MOST_FILE_BYTES = search rules in
    whole_front (remaining c.args.file) (remaining c.take.result.inner) c.args.into.now.items c.read_to_end.new.buf.items c.take.result.limit MOST_FILE_BYTES
    c.in-Ok.ensures.bytes c.requires (ap remaining c.take.ensures.inner) short (omega (arith, c.take.ensures.limit))
