use Rattle.std.proofs.Common.{◌≡◌, ◌≤◌, List, [], vec_capacity, arith, sym, ap, subst}
use Rattle.vep_manager.specs.Owners.{Owners}
use Rattle.vep_manager.specs.Setup.{command_count}
use Rattle.vep_manager.specs.inner.Keeping.{IsKept}
use Rattle.vep_manager.specs.declared.reply.Entry.{Entry}
use Rattle.vep_manager.proofs.States.{held}
use Rattle.vep_manager.proofs.Keeping.{kept_none}
use Rattle.vep_manager.proofs.manager.Manager.new.Goals as goal

pub invariant_of-result : goal.invariant_of-result
invariant_of-result c =
    let setup = c.args.setup.now in
    let owners = c.in_ok-owners.owners in
    let none : c.in_ok-history.history.items ≡ [] = c.in_ok-history.ensures.items in
    let P = λ (history : List Entry). IsKept (held setup history) (record {
      grants = owners.grants;
      horizon = c.horizon-horizon.result;
      entry_room = vec_capacity c.in_ok-history.history;
    }) in
    let entries : command_count setup ≤ vec_capacity c.in_ok-history.history =
    omega (arith, c.in_ok-history.ensures, c.total.ensures) in
    let grants : owners.grants ≡ [] = ap (λ (o : Owners). o.grants) c.in_ok-owners.ensures in (
      subst P (sym none) (kept_none setup _ c.requires grants c.horizon-horizon.ensures entries),
      ap (λ (o : Owners). o.setup) c.in_ok-owners.ensures,
    )
