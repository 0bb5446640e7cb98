-- Passes over stations without a new schedule between them.
use Rattle.std.proofs.Common.{◌≡◌, ℕ, ◌+◌, ◌-◌, ◌^◌, ◌<◌, ◌≤◌, ◌⊎◌, min, Bool, true, false, List, refl, subst, sym, ◌∙◌, inl, inr, arith}
use Rattle.std.specs.List.{AllZip}
use Rattle.std.proofs.Math.Nat.{eq-or-lt_of_le}
use Rattle.bundle_model.specs.declared.world.World.{World}
use Rattle.bundle_model.specs.declared.world.Schedule.{Schedule}
use Rattle.tile_core.specs.declared.station.Station.{Station}
use Rattle.tile_workers.specs.inner.Passing.{IsPassed, ArePassed, IsPass, HasGoneOn, HaveGoneOn, IsTurnOf}
use Rattle.tile_workers.proofs.Zips.{zip_same, zip_then, zip_weaken}

-- a count of tries, one more up to a greatest one, didn't fall
rises_by : (most old new : ℕ) → new ≡ min (old + 1) most → (old ≡ most) ⊎ (old < most) → old ≤ new
rises_by most old new is (inl at) = omega arith
rises_by most old new is (inr low) = omega arith

-- a station that stayed
stayed : (x : Station) → HasGoneOn x x
stayed x = record { ends = refl; at = omega arith; tries = omega arith }

then_on : (x y z : Station) → HasGoneOn x y → HasGoneOn y z → HasGoneOn x z
then_on x y z one other =
    let a = one.at in
    let b = other.at in
    let c = one.tries in
    let d = other.tries in
    record { ends = other.ends ∙ one.ends; at = omega arith; tries = omega arith }

-- one that a pass came to
passed_on : (world : World) (schedule : Schedule) (until : ℕ) (moved : Bool) (x y : Station)
    → IsPassed world schedule until moved x y → HasGoneOn x y
passed_on world schedule until true x y (inl tried) =
    let at = tried.1.answer.at in
    record {
      ends = tried.1.ends;
      at = omega arith;
      tries = rises_by (2 ^ 64 - 1) _ _ tried.1.tries (eq-or-lt_of_le tried.1.in_range);
    }
passed_on world schedule until false x y (inl tried) =
    let at = tried.1.answer.at in
    record {
      ends = tried.1.ends;
      at = omega arith;
      tries = rises_by (2 ^ 64 - 1) _ _ tried.1.tries (eq-or-lt_of_le tried.1.in_range);
    }
passed_on world schedule until moved x y (inr not) = subst (HasGoneOn x) (sym not.1) (stayed x)

pass_on : (world : World) (schedule : Schedule) (until : ℕ) (old new : List Station)
    → ArePassed world schedule until old new → AllZip HasGoneOn old new
pass_on world schedule until old new each =
    zip_weaken (λ (x : Station) (y : Station). (moved : Bool) × IsPassed world schedule until moved x y) HasGoneOn
    (λ x y one. passed_on world schedule until one.0 x y one.1) old new each

gone_then : (old mid new : List Station) → AllZip HasGoneOn old mid → AllZip HasGoneOn mid new
    → AllZip HasGoneOn old new
gone_then old mid new one other = zip_then HasGoneOn HasGoneOn HasGoneOn then_on old mid new one other

-- before the first pass
pub gone_none : (until : ℕ) (stations : List Station) → HaveGoneOn until stations stations
gone_none until stations = record { each = zip_same HasGoneOn stayed stations; no_more = omega arith }

module _ (world : World) (schedule : Schedule) (until : ℕ) (moved : Bool) (old mid new : List Station) where
  -- one pass more
  pub gone_more : HaveGoneOn until old mid → IsPass world schedule until moved mid new → HaveGoneOn until old new
  gone_more gone pass =
      let most = gone.no_more in
      let more = pass.no_more in
      record {
        each = gone_then old mid new gone.each (pass_on world schedule until mid new pass.each);
        no_more = omega arith;
      }

-- a turn of one pass
pub turn_of_one : (world : World) (schedule : Schedule) (until : ℕ) (moved : Bool) (old new : List Station)
    → IsPass world schedule until moved old new → IsTurnOf world schedule until moved old new
turn_of_one world schedule until moved old new pass = record {
  each = pass_on world schedule until old new pass.each;
  no_more = pass.no_more;
  fewer = pass.fewer;
  none = pass.none;
}

-- a turn whose first pass is followed by more
pub turn_of_more : (world : World) (schedule : Schedule) (until : ℕ) (old mid new : List Station)
    → IsPass world schedule until true old mid → HaveGoneOn until mid new
    → IsTurnOf world schedule until true old new
turn_of_more world schedule until old mid new pass gone =
    let less = pass.fewer refl in
    let more = gone.no_more in
    record {
      each = gone_then old mid new (pass_on world schedule until old mid pass.each) gone.each;
      no_more = omega arith;
      fewer = λ e. omega arith;
      none = λ e. cc;
    }
