-- A loop that carries the flits of one link after the other.
use Rattle.std.proofs.Common.{◌≡◌, ℕ, ◌+◌, ◌<◌, List, map, slice_get, Some, inl, inr, sym, ap, subst, ◌∙◌, arith}
use Rattle.std.proofs.lemmas.Bool.{cases_order}
use Rattle.std.proofs.lemmas.Option.{same_Some}
use Rattle.flit_link.specs.declared.ends.LinkOut.{LinkOut}
use Rattle.flit_link.specs.declared.ends.LinkIn.{LinkIn}
use Rattle.tile_core.specs.declared.wire.Wire.{Wire}
use Rattle.tile_core.specs.declared.station.Station.{Station}
use Rattle.tile_core.specs.Station.{station_state}
use Rattle.serial_run.specs.declared.hops.Hop.{Hop}
use Rattle.serial_run.specs.inner.Hops.{AtEnds, AllAtEnds, AllHaveEnds, StandInLine, all_ends}
use Rattle.serial_run.specs.inner.Carrying.{IsCarried, CarriesLink}
use Rattle.serial_run.proofs.Carried.{AreHere, carries_seen, carries_here, carries_else}
use Rattle.serial_run.proofs.Ends.{ends_here}

-- what is read where there are no places
abbrev pub no_hop : Hop
no_hop = record { from = 0; out = 0; to = 0; input = 0 }

-- what holds of the ends that were carried, and of all others, holds of all
pub one_of : (Holds : Hop → Type 0) (hops : List Hop) (number : ℕ) (hop : Hop) → slice_get hops number ≡ Some hop
    → Holds hop
    → ((k : ℕ) (other : Hop) → slice_get hops k ≡ Some other → (k ≡ number → ⊥) → Holds other)
    → (k : ℕ) (other : Hop) → slice_get hops k ≡ Some other → Holds other
one_of Holds hops number hop at here else k other at_k = elim (cases_order k number) as (λ _. Holds other) [
  | inl same ↦ subst Holds (same_Some hop other (sym at ∙ ap (slice_get hops) (sym same) ∙ at_k)) here
  | inr apart ↦ else k other at_k
      (λ e. elim apart as (λ _. ⊥) [ inl less ↦ omega (arith, e) | inr more ↦ omega (arith, e) ])
]

module _ (hops : List Hop) (number : ℕ) (hop : Hop) (at : slice_get hops number ≡ Some hop) (old new : List Station)
    (has : AllHaveEnds (all_ends (map station_state old)) hops) (carries : CarriesLink hop old new) where
  here : AreHere hop old
  here = ends_here old number hop (has number hop at)

  pub seen_more : map station_state new ≡ map station_state old
  seen_more = carries_seen hop old new here carries

  other_stays : (Holds : Wire LinkOut → Wire LinkIn → Type 0) (k : ℕ) (other : Hop) → slice_get hops k ≡ Some other
      → (k ≡ number → ⊥)
      → AtEnds Holds old other → AtEnds Holds new other
  other_stays Holds k other at_k apart =
      carries_else hop old new here carries Holds (all_ends (map station_state old)) number k other
      (has number hop at) (has k other at_k) apart

  pub line_more : AllAtEnds StandInLine old hops → AllAtEnds StandInLine new hops
  line_more line = one_of (λ h. AtEnds StandInLine new h) hops number hop
      at (λ s r at_s at_r. (carries_here hop old new here carries s r at_s at_r).line)
      (λ k other at_k apart. other_stays StandInLine k other at_k apart (line k other at_k))

  pub carried_more : ((k : ℕ) (other : Hop) → k < number → slice_get hops k ≡ Some other → AtEnds IsCarried old other)
      → (k : ℕ) (other : Hop) → k < number + 1 → slice_get hops k ≡ Some other → AtEnds IsCarried new other
  carried_more before k other low at_k = elim (cases_order k number) as (λ _. AtEnds IsCarried new other) [
    | inl same ↦ let Carried = λ (h : Hop). AtEnds IsCarried new h in
        subst Carried (same_Some hop other (sym at ∙ ap (slice_get hops) (sym same) ∙ at_k))
        (carries_here hop old new here carries)
    | inr apart ↦ other_stays IsCarried k other at_k
        (λ e. elim apart as (λ _. ⊥) [ inl less ↦ omega (arith, e) | inr more ↦ omega (arith, e) ])
        (before k other (elim apart as (λ _. k < number) [ inl less ↦ less | inr more ↦ absurd (omega arith) ]) at_k)
  ]
