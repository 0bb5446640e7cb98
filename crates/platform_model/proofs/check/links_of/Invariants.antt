use Rattle.std.proofs.Common.{◌≡◌, map, take}
use Rattle.platform_model.specs.Links.{raw_link}
use Rattle.platform_model.proofs.check.links_of.Given as goal

abbrev pub invariant-loop-link : goal.invariant-loop-link
invariant-loop-link l = map raw_link l.links.items ≡ take l.link-index l.raw
