use Rattle.std.proofs.Common.{◌≡◌, ◌+◌, ◌++◌, take}
use Rattle.bundle_model.specs.Resources.{link_claims}
use Rattle.bundle_model.proofs.claims.add_links.Given as goal

abbrev pub invariant-loop-hop : goal.invariant-loop-hop
invariant-loop-hop l = l.list.items ≡ l.fn.list.items ++ link_claims l.platform.table_slots (l.slot + 1) (take l.hop l.path)
