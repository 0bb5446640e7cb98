use Rattle.std.proofs.Common.{◌≡◌, ◌*◌, ◌++◌, drop}
use Rattle.std.specs.List.{flat_map}
use Rattle.bundle_model.specs.Ways.{pair_ways, ways_of}
use Rattle.alone_model.specs.inner.Exchange.{senders_of}
use Rattle.alone_model.proofs.exchange.list_senders.Given as goal

abbrev pub invariant-loop-pair : goal.invariant-loop-pair
invariant-loop-pair l = record {
  number : l.number ≡ l.pair-index * 2;
  senders : l.senders.items ++ senders_of l.row l.number (flat_map pair_ways (drop l.pair-index l.bundle.pairs)) ≡ senders_of l.row 0 (ways_of l.bundle);
}
