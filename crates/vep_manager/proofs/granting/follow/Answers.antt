use Rattle.std.proofs.Common.{◌≡◌, List, inl, inr, refl, sym, ap, ◌∙◌}
use Rattle.bundle_model.specs.declared.world.Grant.{Grant}
use Rattle.vep_manager.specs.declared.reply.Reply.{Reply}
use Rattle.vep_manager.specs.declared.reply.Reply.TheVariants.{Malformed, Past, Taken, NoLoad, Already, Horizon}
use Rattle.vep_manager.specs.Owners.{Owners}
use Rattle.vep_manager.specs.inner.Keeping.{grants_after}
use Rattle.vep_manager.proofs.Ends.{granted_after, quiet_after}
use Rattle.vep_manager.proofs.granting.follow.Goals as goal

pub returns-in-Granted : goal.returns-in-Granted
returns-in-Granted c =
    let old = c.args.owners.now in
    let setup = c.args.setup.now in
    c.add.ensures
    ∙ ap (λ (l : List Grant). let o : Owners = record { setup = old.setup; grants = l } in o)
    (granted_after setup old.grants c.in-Granted.label c.in-Granted.start c.opened.result c.opened.ensures
    ∙ ap (λ (r : Reply). grants_after setup r old.grants) (sym c.in-Granted.is))

pub returns-in-Malformed : goal.returns-in-Malformed
returns-in-Malformed c =
    let old = c.args.owners.now in
    let setup = c.args.setup.now in
    let same : grants_after setup c.args.reply old.grants ≡ old.grants =
    elim c.in-Malformed.is [
      | inl (rule, is) ↦
          ap (λ (r : Reply). grants_after setup r old.grants) is
          ∙ quiet_after setup (Malformed rule) old.grants (λ label. refl) refl
      | inr (inl (horizon, is)) ↦
          ap (λ (r : Reply). grants_after setup r old.grants) is
          ∙ quiet_after setup (Past horizon) old.grants (λ label. refl) refl
      | inr (inr (inl (resource, owner, free, is))) ↦
          ap (λ (r : Reply). grants_after setup r old.grants) is
          ∙ quiet_after setup (Taken resource owner free) old.grants (λ label. refl) refl
      | inr (inr (inr (inl is))) ↦
          ap (λ (r : Reply). grants_after setup r old.grants) is
          ∙ quiet_after setup NoLoad old.grants (λ label. refl) refl
      | inr (inr (inr (inr (inl (end, is))))) ↦
          ap (λ (r : Reply). grants_after setup r old.grants) is
          ∙ quiet_after setup (Already end) old.grants (λ label. refl) refl
      | inr (inr (inr (inr (inr (horizon, is))))) ↦
          ap (λ (r : Reply). grants_after setup r old.grants) is
          ∙ quiet_after setup (Horizon horizon) old.grants (λ label. refl) refl
    ] in
    ap (λ (l : List Grant). let o : Owners = record { setup = old.setup; grants = l } in o) (sym same)
