-- What a longer history keeps of a shorter one's grants.
use Rattle.std.proofs.Common.{◌≡◌, ℕ, zero, suc, ◌≤◌, inl, inr, List, [], ◌∷◌, ◌++◌, length, Option, Some, None, refl, sym, ap, subst, ◌∙◌, arith, append_assoc}
use Rattle.std.specs.Prelude.{IsSomeAnd, IfSome}
use Rattle.std.specs.List.{All, slice_get}
use Rattle.std.specs.Option.{option_or}
use Rattle.std.proofs.lemmas.List.Elements.{All-nil, All-contains}
use Rattle.soc_base.specs.declared.limits.TheConstants.{LAST_CYCLE}
use Rattle.soc_base.specs.declared.label.Label.{Label}
use Rattle.bundle_model.specs.declared.world.Grant.{Grant}
use Rattle.vep_manager.specs.declared.setup.Setup.{Setup}
use Rattle.vep_manager.specs.declared.reply.Reply.{Reply}
use Rattle.vep_manager.specs.declared.reply.Entry.{Entry}
use Rattle.vep_manager.specs.History.{horizon_of, end_by, grants_of}
use Rattle.vep_manager.specs.Setup.{IsSound}
use Rattle.vep_manager.specs.Legal.{IsLegal}
use Rattle.vep_manager.specs.Extended.{KeepsEnd, KeepsGrant, GoesOn, LegalHistoriesGoOn}
use Rattle.vep_manager.specs.inner.Keeping.{opened_by, grants_after}
use Rattle.vep_manager.proofs.States.{held, IsNextEntry}
use Rattle.vep_manager.proofs.Replied.{next_command, Opens, reply_tells, contains_at}
use Rattle.vep_manager.proofs.Horizons.{horizon_grows}
use Rattle.vep_manager.proofs.Standing.{Standing, go_on, all_after, if_weaker, if_from, grants_more, standing, standing_more}

-- the same as KeepsGrants, along the lists
abbrev Follows : ℕ → List Grant → List Grant → Type 0
Follows slot [] new = All (λ grant. slot ≤ grant.start) new
Follows slot (grant ∷ old) [] = ⊥
Follows slot (grant ∷ old) (other ∷ new) = KeepsGrant slot grant other × Follows slot old new

kept_at : (slot : ℕ) (old new : List Grant) → Follows slot old new → (place : ℕ) (grant : Grant)
    → slice_get old place ≡ Some grant → IsSomeAnd (slice_get new place) (KeepsGrant slot grant)
kept_at slot [] new follows place grant at = cc
kept_at slot (first ∷ old) [] follows place grant at = absurd follows
kept_at slot (first ∷ old) (other ∷ new) follows zero grant at =
    let same : first ≡ grant = cc in subst (λ (g : Grant). KeepsGrant slot g other) same follows.0
kept_at slot (first ∷ old) (other ∷ new) follows (suc place) grant at = kept_at slot old new follows.1 place grant at

added_at : (slot : ℕ) (old new : List Grant) → Follows slot old new → (place : ℕ) (grant : Grant)
    → slice_get new place ≡ Some grant → length old ≤ place → slot ≤ grant.start
added_at slot [] new follows place grant at past =
    All-contains (λ (g : Grant). slot ≤ g.start) new grant follows (contains_at new place grant at)
added_at slot (first ∷ old) [] follows place grant at past = absurd follows
added_at slot (first ∷ old) (other ∷ new) follows zero grant at past = absurd (omega arith)
added_at slot (first ∷ old) (other ∷ new) follows (suc place) grant at past =
    added_at slot old new follows.1 place grant at (omega (arith, past))

follows_self : (slot : ℕ) (grants : List Grant) → Follows slot grants grants
follows_self slot [] = All-nil (λ (g : Grant). slot ≤ g.start)
follows_self slot (grant ∷ grants) =
    (record { label = refl; bundle = refl; start = refl; end = inl refl }, follows_self slot grants)

keeps_end : (slot : ℕ) (old new given : Option ℕ) → IfSome given (λ end. slot ≤ end) → KeepsEnd slot old new
    → KeepsEnd slot old (option_or new given)
keeps_end slot old (Some end) given low kept = kept
keeps_end slot old None None low kept = kept
keeps_end slot old None (Some end) low (inl same) = inr (sym same, low)
keeps_end slot old None (Some end) low (inr ended) = absurd ended.1

-- a reply that opens no grant before a slot and ends none before it
record IsLate (setup : Setup) (slot : ℕ) (reply : Reply) : Type 0 where
  opens : IfSome (opened_by setup reply) (λ grant. slot ≤ grant.start)
  closes : (label : Label) → IfSome (end_by label reply) (λ end. slot ≤ end)

follows_more : (setup : Setup) (slot : ℕ) (reply : Reply) → IsLate setup slot reply → (old new : List Grant)
    → Follows slot old new → Follows slot old (grants_after setup reply new)
follows_more setup slot reply late [] new follows =
    all_after setup reply (opened_by setup reply) new (λ grant. slot ≤ grant.start) follows late.opens
follows_more setup slot reply late (grant ∷ old) [] follows = absurd follows
follows_more setup slot reply late (grant ∷ old) (other ∷ new) follows = (
  record {
    label = follows.0.label;
    bundle = follows.0.bundle;
    start = follows.0.start;
    end = keeps_end slot grant.end other.end (end_by other.label reply) (late.closes other.label) follows.0.end;
  },
  follows_more setup slot reply late old new follows.1,
)

-- what holds of the histories from an old one to a longer one
record Since (setup : Setup) (old history : List Entry) : Type 0 where
  stands : Standing (held setup history) LAST_CYCLE
  horizon : horizon_of setup old ≤ horizon_of setup history
  grants : Follows (horizon_of setup old) (grants_of setup old) (grants_of setup history)

since_more : (setup : Setup) (old before : List Entry) (entry : Entry) → IsSound setup
    → IsNextEntry (held setup before) entry → Since setup old before → Since setup old (before ++ entry ∷ [])
since_more setup old before entry sound next since =
    let slot : ℕ = horizon_of setup old in
    let it = next_command (held setup before) entry next in
    let tells = reply_tells (held setup before) LAST_CYCLE entry.session it.0 entry.reply sound.cycles
    since.stands.begin_early it.1 in
    let late : IsLate setup slot entry.reply = record {
      opens = if_weaker (opened_by setup entry.reply) (Opens (held setup before) LAST_CYCLE entry.session)
          (λ grant. slot ≤ grant.start) (λ grant opens. omega (arith, since.horizon, opens.later)) tells.opens;
      closes = λ label. if_from (end_by label entry.reply) (λ end. slot ≤ end)
          (λ end e. omega (arith, since.horizon, (tells.closes label end e).later));
    } in
    let grows = horizon_grows setup before (entry ∷ []) in
    let more = grants_more (held setup before) LAST_CYCLE entry sound.cycles next since.stands in
    record {
      stands = standing_more (held setup before) LAST_CYCLE entry sound.cycles next since.stands;
      horizon = omega (arith, since.horizon, grows);
      grants = subst (λ (l : List Grant). Follows slot (grants_of setup old) l) (sym more)
          (follows_more setup slot entry.reply late (grants_of setup old) (grants_of setup before) since.grants);
    }

-- a front of a legal history is legal
pub legal_front : (setup : Setup) (old more : List Entry) → IsLegal setup (old ++ more) → IsLegal setup old
legal_front setup old more legal before entry after e =
    legal before entry (after ++ more) (ap (λ (h : List Entry). h ++ more) e ∙ append_assoc before (entry ∷ after) more)

goes_on : (setup : Setup) (old more : List Entry) → IsSound setup → IsLegal setup (old ++ more)
    → GoesOn setup old (old ++ more)
goes_on setup old more sound legal =
    let slot : ℕ = horizon_of setup old in
    let before : IsLegal setup old = legal_front setup old more legal in
    let since = go_on setup (Since setup old) (λ h entry next here. since_more setup old h entry sound next here) old more
    legal
    (record {
      stands = standing (held setup old) LAST_CYCLE sound.cycles before;
      horizon = omega arith;
      grants = follows_self slot (grants_of setup old);
    }) in
    record {
      legal = before;
      horizon = since.horizon;
      grants = record {
        kept = kept_at slot (grants_of setup old) (grants_of setup (old ++ more)) since.grants;
        added = added_at slot (grants_of setup old) (grants_of setup (old ++ more)) since.grants;
      };
    }

-- a legal history of a sound setup goes on from each history that it begins with
pub legal_goes_on : (setup : Setup) → IsSound setup → LegalHistoriesGoOn setup
legal_goes_on setup sound old new begins legal =
    subst (GoesOn setup old) begins.1
    (goes_on setup old begins.0 sound (subst (IsLegal setup) (sym begins.1) legal))
