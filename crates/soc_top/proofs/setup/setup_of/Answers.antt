use Rattle.std.proofs.Common.{◌≡◌, ◌∙◌, arith}
use Rattle.soc_base.specs.declared.limits.TheConstants.{MOST_COMMANDS}
use Rattle.vep_manager.specs.Loads.{loads_of}
use Rattle.soc_top.specs.inner.Naming.{all_commands}
use Rattle.soc_top.proofs.Placing.{each_few, few_bundles, loads_known}
use Rattle.soc_top.proofs.Sound.{sound_setup}
use Rattle.soc_top.proofs.setup.setup_of.Goals as goal

pub named_loads-requires : goal.named_loads-requires
named_loads-requires c =
    let few =
    few_bundles c.args.catalog.items (all_commands c.args.scripts.items) MOST_COMMANDS c.requires.names c.requires.few
    in
    record {
      catalog = rw c.as_slice.ensures.value (omega (arith, few));
      scripts = rw c.as_slice-2.ensures.value c.requires.most;
      commands = rw c.as_slice-2.ensures.value (each_few c.args.scripts.items MOST_COMMANDS c.requires.few);
    }

pub invariant_of-result : goal.invariant_of-result
invariant_of-result c =
    let made : c.from_vec-loads.result ≡ loads_of c.args.catalog.items c.args.scripts.items =
    c.from_vec-loads.ensures ∙ rw (c.as_slice.ensures.value, c.as_slice-2.ensures.value) at c.in_ok-loads.ensures in
    record {
      loads_named = rw (c.from_vec-catalog.ensures, c.from_vec-scripts.ensures) made;
      loads_known = loads_known c.args.catalog.items c.from_vec-catalog.result c.args.scripts.items
          c.from_vec-loads.result c.from_vec-catalog.ensures made c.requires.names;
    }

pub returns-clause-sound : goal.returns-clause-sound
returns-clause-sound c =
    sound_setup _ c.args.scripts.items (rw c.from_vec-catalog.ensures c.requires.sound) c.from_vec-scripts.ensures
    c.requires.some c.requires.most c.requires.few c.requires.cycles c.end_slot-budget.ensures.bounded
