use Rattle.std.proofs.Common.{◌<◌, ◌≤◌, length, sym, ap, ◌∙◌, subst, arith}
use Rattle.std.specs.List.{flat_map}
use Rattle.grant_tables.specs.Entries.{entries_on}
use Rattle.grant_tables.specs.Tables.{with_entries}
use Rattle.grant_tables.specs.inner.Room.{HaveRoom}
use Rattle.grant_tables.proofs.Placings.{remain_all, pair_entries, flat_front, flat_behind, flat_done, bundle_by_pairs}
use Rattle.grant_tables.proofs.channels.install_bundle.Goals as goal

pub loop-pair-init : goal.loop-pair-init
loop-pair-init c =
    remain_all c.args.platform.now.table_slots c.args.site.label c.args.site.tile (flat_map (pair_entries c.args.platform.now) c.args.bundle.now.pairs) c.args.tables.now
    (subst (λ placed. HaveRoom c.args.platform.now.table_slots (entries_on c.args.site.tile placed) c.args.tables.now) (bundle_by_pairs c.args.platform.now c.args.bundle.now) c.requires.room)

pub install_pair-requires : goal.install_pair-requires
install_pair-requires c =
    let inside : c.loop-pair.pair-index < length c.args.bundle.now.pairs = rw (← c.as_slice-pair-items.ensures) c.loop-pair-test.true in
    record {
      room =
          flat_front c.args.platform.now.table_slots c.args.site.label c.args.site.tile _ (pair_entries c.args.platform.now) c.args.bundle.now.pairs c.loop-pair.pair-index _ c.pair-item.result c.loop-pair.tables inside c.loop-pair.invariant (rw c.as_slice-pair-items.ensures at c.pair-item.is);
    }

pub loop-pair-preserved : goal.loop-pair-preserved
loop-pair-preserved c =
    let inside : c.loop-pair.pair-index < length c.args.bundle.now.pairs = rw (← c.as_slice-pair-items.ensures) c.loop-pair-test.true in
    flat_behind c.args.platform.now.table_slots c.args.site.label c.args.site.tile _ (pair_entries c.args.platform.now) c.args.bundle.now.pairs c.loop-pair.pair-index _ c.pair-item.result c.loop-pair.tables c.install_pair.new.tables inside c.loop-pair.invariant (rw c.as_slice-pair-items.ensures at c.pair-item.is) c.install_pair.ensures

pub returns : goal.returns
returns c =
    let past : length c.args.bundle.now.pairs ≤ c.loop-pair.pair-index = omega (arith, c.loop-pair-test.false, ap length c.as_slice-pair-items.ensures) in
    flat_done c.args.platform.now.table_slots c.args.site.label c.args.site.tile _ (pair_entries c.args.platform.now) c.args.bundle.now.pairs c.loop-pair.pair-index c.loop-pair.tables past c.loop-pair.invariant
    ∙ ap (λ placed. with_entries c.args.site.label (entries_on c.args.site.tile placed) c.args.tables.now) (sym (bundle_by_pairs c.args.platform.now c.args.bundle.now))
