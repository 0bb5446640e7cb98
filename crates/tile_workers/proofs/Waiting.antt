-- Stations that were tried in vain for some turns in a row.
use Rattle.std.proofs.Common.{ℕ, ◌+◌, ◌-◌, ◌^◌, ◌<◌, ◌≤◌, Bool, false, refl, ap, ◌∙◌, inl, inr, arith}
use Rattle.bundle_model.specs.declared.world.World.{World}
use Rattle.bundle_model.specs.declared.world.Schedule.{Schedule}
use Rattle.tile_core.specs.declared.station.Station.{Station}
use Rattle.tile_core.specs.Station.{station_state, ends_of, tries_of, still_of, KeepsEnds}
use Rattle.tile_workers.specs.Work.{RoseBy, IsHeldUp}
use Rattle.tile_workers.specs.inner.Passing.{IsPassed, IsTried, HasGoneOn}
use Rattle.tile_workers.proofs.Counts.{rose_more, rose_up}

-- a station was tried so many turns in a row, and in vain
pub record IsWaiting (schedule : Schedule) (idle : ℕ) (before after : Station) : Type 0 where
  pub tries : RoseBy idle (tries_of before) (tries_of after)
  pub still : idle ≤ still_of after
  pub held_up : 0 < idle → IsHeldUp schedule after

-- a station now, and as it was at first: it was tried so if it is below the slot
pub record HasWaited (schedule : Schedule) (until idle : ℕ) (before after : Station) : Type 0 where
  pub ends : KeepsEnds (station_state before) (station_state after)
  pub waits : after.tile.at < until → IsWaiting schedule idle before after

-- at first
pub waited_none : (schedule : Schedule) (until : ℕ) (x : Station) → HasWaited schedule until 0 x x
waited_none schedule until x = record {
  ends = refl;
  waits = λ low. record { tries = inl (omega arith); still = omega arith; held_up = λ none. absurd (omega arith) };
}

tried_tries : (world : World) (schedule : Schedule) (moved : Bool) (idle : ℕ) (x y z : Station)
    → RoseBy idle (tries_of x) (tries_of y) → IsTried world schedule moved y z
    → RoseBy (idle + 1) (tries_of x) (tries_of z)
tried_tries world schedule moved idle x y z rose tried =
    rose_more idle (tries_of x) (tries_of y) (tries_of z) rose tried.in_range tried.tries

-- one turn more in which it didn't go on
pub waited_more : (world : World) (old new : Schedule) (until idle : ℕ) (x y z : Station) → idle < 2 ^ 64 - 1
    → HasWaited old until idle x y → IsPassed world new until false y z → HasWaited new until (idle + 1) x z
waited_more world old new until idle x y z few has (inl tried) =
    let waits = has.waits tried.0 in
    let answer = tried.1.answer in
    let still = answer.still in
    let before = waits.still in
    record {
      ends = tried.1.ends ∙ has.ends;
      waits = λ low. record {
        tries = tried_tries world new false idle x y z waits.tries tried.1;
        still = omega arith;
        held_up = λ some. answer.held_up;
      };
    }
waited_more world old new until idle x y z few has (inr not) =
    let at = ap (λ (station : Station). station.tile.at) not.1 in
    let past = not.0 in
    record {
      ends = ap (λ (station : Station). ends_of (station_state station)) not.1 ∙ has.ends;
      waits = λ low. absurd (omega arith);
    }

-- a turn in which some station went on: the count begins anew
pub waited_anew : (old new : Schedule) (until idle : ℕ) (x y z : Station)
    → HasWaited old until idle x y → HasGoneOn y z → HasWaited new until 0 x z
waited_anew old new until idle x y z has on =
    let at = on.at in
    record {
      ends = on.ends ∙ has.ends;
      waits = λ low. record {
        tries = rose_up idle (tries_of x) (tries_of y) (tries_of z) (has.waits (omega arith)).tries on.tries;
        still = omega arith;
        held_up = λ none. absurd (omega arith);
      };
    }
