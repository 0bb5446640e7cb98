use Rattle.std.proofs.Common.{◌≡◌, None, rules}
use Rattle.platform_model.specs.Rules.{first_rule}
use Rattle.platform_model.proofs.Kept.{kept, all_join_most}
use Rattle.platform_model.proofs.platform.Platform.check.Goals as goal

pub links_of-requires-clause-join : goal.links_of-requires-clause-join
links_of-requires-clause-join c =
    let none : first_rule c.args.raw.now ≡ None = search rules in
    let k = kept c.args.raw.now none in
    rw c.as_slice.ensures (all_join_most c.args.raw.now.tiles c.args.raw.now.links k.tiles k.links_join)

pub links_of-requires-clause-ports : goal.links_of-requires-clause-ports
links_of-requires-clause-ports c =
    let none : first_rule c.args.raw.now ≡ None = search rules in
    rw c.as_slice.ensures (kept c.args.raw.now none).links_have_ports
