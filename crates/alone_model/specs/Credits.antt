-- The law of credits: what a sender may still send, what is on its way and what the far port holds or
-- hasn't told of yet are always as many words as a queue has places.
use Rattle.std.specs.Prelude.{◌≡◌, ℕ, zero, suc, ◌+◌, ◌*◌, ◌≤◌, List, map, find, length, slice_get, Some}
use Rattle.std.specs.Option.{option_map_or}
use Rattle.soc_base.specs.Port.{WordAndCredits}
use Rattle.platform_model.specs.declared.platform.Platform.{Platform}
use Rattle.bundle_model.specs.declared.bundle.End.{End}
use Rattle.bundle_model.specs.declared.bundle.Pair.{Pair}
use Rattle.bundle_model.specs.declared.bundle.Bundle.{Bundle}
use Rattle.bundle_model.specs.Ways.{Way, way_of}
use Rattle.bundle_model.specs.WellFormed.{IsWellFormed}
use Rattle.alone_model.specs.Network.{Flying, port_of, lands, flit_on}
use Rattle.alone_model.specs.App.{AppState, with_new, alone_at}
use Rattle.alone_model.specs.Slots.{part_cycles}

-- what f gives for the numbers below n, together
abbrev pub sum_below : (ℕ → ℕ) → ℕ → ℕ
sum_below f zero = 0
sum_below f (suc n) = sum_below f n + f n

-- how many words a flit carries
abbrev pub words_of : WordAndCredits → ℕ
words_of flit = option_map_or (λ word. 1) flit.word 0

-- the words on the links of a channel at the beginning of a slot
abbrev pub words_on : List Flying → ℕ → ℕ → Way → ℕ
words_on flying slot number way = sum_below (λ hop. words_of (flit_on flying slot number hop)) (length way.path)

-- the credits on them
abbrev pub credits_on : List Flying → ℕ → ℕ → Way → ℕ
credits_on flying slot number way = sum_below (λ hop. (flit_on flying slot number hop).credits) (length way.path)

-- in one direction of a pair: the channel and its number, and those of the channel back
pub record IsBalanced (platform : Platform) (app : AppState) (slot number : ℕ) (way : Way) (other : ℕ) (back : Way) : Type 0 where
  pub sum : (port_of app.parts way.from).credit + words_on app.flying slot number way
      + (length (port_of app.parts way.to).recv + (port_of app.parts way.to).owed)
      + credits_on app.flying slot other back ≡ platform.queue

-- an application that was granted from cycle `start` on, in a slot before its deliveries
abbrev pub before_due : Platform → Bundle → ℕ → ℕ → AppState → AppState
before_due platform bundle start slot app =
    let begun = with_new platform bundle slot app in
    record begun { parts = map (part_cycles platform start slot) begun.parts }

-- the port at an end has places for a flit: its word isn't dropped, and its credits aren't cut
pub record HasPlaces (platform : Platform) (app : AppState) (end : End) (flit : WordAndCredits) : Type 0 where
  pub word : words_of flit + (length (port_of app.parts end).recv + (port_of app.parts end).owed) ≤ platform.queue
  pub credits : (port_of app.parts end).credit + flit.credits ≤ platform.queue

-- what is delivered at an end in a slot has places
abbrev pub LosesNothing : Platform → Bundle → AppState → ℕ → End → Type 0
LosesNothing platform bundle app slot end =
    (f : Flying) → find (lands bundle slot end.tile end.port) app.flying ≡ Some f → HasPlaces platform app end f.flit

-- the law, for each pair of a well-formed bundle, in both directions and in each slot from the granted one
-- on: the k-th pair has the channels 2 k and 2 k + 1
abbrev pub CreditsBalance : Type 0
CreditsBalance = (platform : Platform) (bundle : Bundle) (start slot place : ℕ) (pair : Pair) → IsWellFormed platform bundle
    → start ≤ slot → slice_get bundle.pairs place ≡ Some pair →
    let app = alone_at platform bundle start slot in
    let late = before_due platform bundle (start * platform.slot_cycles) slot app in
    let there = way_of pair.a pair.b pair.there in
    let back = way_of pair.b pair.a pair.back in
    IsBalanced platform app slot (place * 2) there (place * 2 + 1) back
    × IsBalanced platform app slot (place * 2 + 1) back (place * 2) there
    × LosesNothing platform bundle late slot pair.a
    × LosesNothing platform bundle late slot pair.b
