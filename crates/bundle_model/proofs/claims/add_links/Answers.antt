use Rattle.bundle_model.proofs.Claimed.{claims_more}
use Rattle.std.proofs.Common.{refl}
use Rattle.bundle_model.proofs.claims.add_links.Goals as goal

pub loop-hop-preserved : goal.loop-hop-preserved
loop-hop-preserved c =
    claims_more c.args.platform.now.table_slots c.args.slot c.args.path.now c.loop-hop.hop _ c.slots_later-slot.result c.args.list.now.items c.loop-hop.list.items c.push.new.self.items c.loop-hop-test.true refl c.slots_later-slot.ensures c.loop-hop.invariant c.in_ok-push.ensures.items
