-- The two ends of a link: a ring of packed flits, with a latch at each end for the one flit that waits to
-- be pushed or to be taken.
use Rattle.std.specs.Prelude.{ℕ, ◌≡◌, List, [], ◌∷◌, ◌++◌, Option, Some, None}
use mathlib.Core.List.{IsPrefix}
use Rattle.soc_base.specs.Port.{WordAndCredits, idle}
use Rattle.rtrb.specs.Ring.{known_free}
use Rattle.flit_link.specs.declared.ends.LinkOut.{LinkOut}
use Rattle.flit_link.specs.declared.ends.LinkIn.{LinkIn}
use Rattle.flit_link.specs.Names.{LinkName, ring_of_producer, ring_of_consumer}
use Rattle.flit_link.specs.Flits.{latched, but_latched, pushed, arrived, known}

-- the flits that were set, the oldest first
abbrev pub flits_set : LinkOut → List WordAndCredits
flits_set out = pushed out.ring ++ latched out.latch

-- the flit that waits to be pushed
abbrev pub sending : LinkOut → Option WordAndCredits
sending out = out.latch

-- how many places of the ring are known to be free
abbrev pub places_known : LinkOut → ℕ
places_known out = known_free out.ring

-- the flits that were taken, the oldest first
abbrev pub flits_taken : LinkIn → List WordAndCredits
flits_taken into = but_latched into.latch (arrived into.ring)

-- the flit that waits to be taken
abbrev pub receiving : LinkIn → Option WordAndCredits
receiving into = into.latch

-- the flits that are known to stand in the ring, the oldest first
abbrev pub flits_known : LinkIn → List WordAndCredits
flits_known into = known into.ring

-- which link an end is of
abbrev pub name_of_out : LinkOut → LinkName
name_of_out out = ring_of_producer out.ring

-- the ring of a receiving end
abbrev pub name_of_in : LinkIn → LinkName
name_of_in into = ring_of_consumer into.ring

-- the two ends of one link
abbrev pub AreEnds : LinkOut → LinkIn → Type 0
AreEnds out into = name_of_in into ≡ name_of_out out

-- what was taken, what waits to be taken, what is known to stand in the ring and what waits to be pushed
-- are together the idle flit of slot 0 and what was set
abbrev pub AreInLine : LinkOut → LinkIn → Type 0
AreInLine out into =
    flits_taken into ++ latched into.latch ++ flits_known into ++ latched out.latch ≡ idle ∷ flits_set out

-- Of ends that are in line, the flits taken are the first of the idle flit and those set.
abbrev pub TakenComeFirst : Type 0
TakenComeFirst =
    (out : LinkOut) (into : LinkIn) → AreInLine out into → IsPrefix (flits_taken into) (idle ∷ flits_set out)

-- a writing end into which nothing was set, of a ring of 64 places
pub record IsNewOut (out : LinkOut) : Type 0 where
  pub set : flits_set out ≡ []
  pub sending : sending out ≡ None
  pub places : places_known out ≡ 64

-- a reading end at which the idle flit of slot 0 waits, and nothing is known to come
pub record IsNewIn (into : LinkIn) : Type 0 where
  pub taken : flits_taken into ≡ []
  pub receiving : receiving into ≡ Some idle
  pub known : flits_known into ≡ []

-- both ends are of the link that they were of
abbrev pub KeepNames : LinkOut → LinkIn → LinkOut → LinkIn → Type 0
KeepNames out into new_out new_into = (name_of_in new_into ≡ name_of_in into) × (name_of_out new_out ≡ name_of_out out)

-- where nothing waited to be taken, what waits now is the oldest flit that was known, if one was
abbrev pub ComesInTurn : LinkIn → LinkIn → Type 0
ComesInTurn into new_into =
    receiving into ≡ None → IsPrefix (flits_known into) (latched (receiving new_into) ++ flits_known new_into)

-- where nothing waited to be taken and flits were known, the oldest of them waits now
abbrev pub CarriesKnown : LinkOut → LinkIn → LinkOut → LinkIn → Type 0
CarriesKnown out into new_out new_into =
    (flit : WordAndCredits) (rest : List WordAndCredits) → receiving into ≡ None → flits_known into ≡ flit ∷ rest
    → (receiving new_into ≡ Some flit) × (flits_known new_into ≡ rest) × (new_out ≡ out)

-- where nothing waited to be taken and no flit was known, what waited to be pushed, if anything did, now
-- waits to be taken
abbrev pub CarriesWaiting : LinkOut → LinkIn → LinkOut → LinkIn → Type 0
CarriesWaiting out into new_out new_into =
    receiving into ≡ None → flits_known into ≡ []
    → (receiving new_into ≡ sending out) × (flits_known new_into ≡ []) × (sending new_out ≡ None)
