use Rattle.bundle_file.proofs.Exclusive.{gives_breaks_none, gives_one, breaks_one}
use Rattle.bundle_file.proofs.verdicts.files_are_judged_once.Goals as goal

pub returns : goal.returns
returns c = record { never_both = gives_breaks_none; one_bundle = gives_one; one_rule = breaks_one }
