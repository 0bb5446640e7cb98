use Rattle.std.proofs.Common.{◌≡◌, take, fold, max}
use Rattle.std.specs.List.{filter_map}
use Rattle.vep_manager.specs.History.{until_slot}
use Rattle.vep_manager.proofs.horizon.greatest.Given as goal

abbrev pub invariant-loop-command : goal.invariant-loop-command
invariant-loop-command l =
    l.most ≡ fold (λ most slot. max most slot) 0 (filter_map (until_slot l.setup) (take l.command-index l.commands))
