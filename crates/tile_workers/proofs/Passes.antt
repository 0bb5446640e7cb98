-- A pass over stations, one station more.
use Rattle.std.proofs.Common.{◌≡◌, ℕ, ◌+◌, ◌-◌, ◌<◌, Bool, true, false, List, [], ◌∷◌, ◌++◌, length, take, drop, set, get_or, sym, subst, ap, ◌∙◌, inl, inr, arith}
use Rattle.std.proofs.lemmas.List.{length-set, drop_more, drop-set-lt, take_more, take_more_set}
use Rattle.std.proofs.lemmas.List.Elements.{AllZip-push}
use Rattle.std.proofs.lemmas.List.Sums.{sum_by_push}
use Rattle.std.proofs.lemmas.Grind.{drop_more_same}
use Rattle.bundle_model.specs.declared.world.World.{World}
use Rattle.bundle_model.specs.declared.world.Schedule.{Schedule}
use Rattle.tile_core.specs.declared.station.Station.{Station}
use Rattle.tile_workers.specs.inner.Passing.{slots_left, IsPassed, IsPass}

-- the next item is still the list's own
pub next_same : {X : Type 0} (xs ys : List X) (i : ℕ) (d : X) → i < length ys → length ys ≡ length xs
    → drop i ys ≡ drop i xs → get_or ys i d ≡ get_or xs i d
next_same xs ys i d inside same rest =
    let both : get_or ys i d ∷ drop (i + 1) ys ≡ get_or xs i d ∷ drop (i + 1) xs =
    sym (drop_more ys i d inside) ∙ rest ∙ drop_more xs i d (omega (arith, inside, same)) in
    ap (λ zs. get_or zs 0 d) both

module _ (world : World) (schedule : Schedule) (until : ℕ) where
  -- a station that did a slot has fewer left, and one that didn't has as many
  went_fewer : (x y : Station) → IsPassed world schedule until true x y
      → until - y.tile.at < until - x.tile.at
  went_fewer x y (inl tried) =
      let answer = tried.1.answer in let below = tried.0 in let at = answer.at in omega arith
  went_fewer x y (inr not) = let never = not.2 in cc

  waited_same : (x y : Station) → IsPassed world schedule until false x y
      → until - y.tile.at ≡ until - x.tile.at
  waited_same x y (inl tried) = ap (λ n. until - n) tried.1.answer.at
  waited_same x y (inr not) = ap (λ (station : Station). until - station.tile.at) not.1

  left_push : (xs : List Station) (x : Station)
      → slots_left until (xs ++ x ∷ []) ≡ slots_left until xs + (until - x.tile.at)
  left_push xs x = sum_by_push (λ (station : Station). until - station.tile.at) xs x

  abbrev any_pass : Station → Station → Type 0
  any_pass before after = (one : Bool) × IsPassed world schedule until one before after

  -- one station more, which did a slot
  pub pass_went : (moved : Bool) (xs ys : List Station) (x y : Station) → IsPass world schedule until moved xs ys
      → IsPassed world schedule until true x y → IsPass world schedule until true (xs ++ x ∷ []) (ys ++ y ∷ [])
  pass_went moved xs ys x y pass passed =
      let less = went_fewer x y passed in
      let old = left_push xs x in
      let new = left_push ys y in
      let most = pass.no_more in
      record {
        each = AllZip-push any_pass xs ys x y pass.each (true, passed);
        no_more = omega arith;
        fewer = λ e. omega arith;
        none = λ e. cc;
      }

  -- one station more, which didn't
  pub pass_not : (moved : Bool) (xs ys : List Station) (x y : Station) → IsPass world schedule until moved xs ys
      → IsPassed world schedule until false x y → IsPass world schedule until moved (xs ++ x ∷ []) (ys ++ y ∷ [])
  pass_not moved xs ys x y pass passed =
      let same = waited_same x y passed in
      let old = left_push xs x in
      let new = left_push ys y in
      let most = pass.no_more in
      record {
        each = AllZip-push any_pass xs ys x y pass.each (false, passed);
        no_more = omega arith;
        fewer = λ e. let less = pass.fewer e in omega arith;
        none = λ e. AllZip-push (IsPassed world schedule until false) xs ys x y (pass.none e) passed;
      }

  -- the first stations were passed, and the others are as before
  pub record IsPassSoFar (moved : Bool) (place : ℕ) (old new : List Station) : Type 0 where
    pub as_many : length new ≡ length old
    pub rest : drop place new ≡ drop place old
    pub pass : IsPass world schedule until moved (take place old) (take place new)

  -- one more of them
  more_by : (moved : Bool) (place : ℕ) (old new : List Station) (d y : Station) → place < length new
      → length new ≡ length old → drop place new ≡ drop place old
      → IsPass world schedule until moved (take place old ++ get_or new place d ∷ []) (take place new ++ y ∷ [])
      → IsPassSoFar moved (place + 1) old (set new place y)
  more_by moved place old new d y inside same rest pass =
      let at : get_or old place d ≡ get_or new place d = sym (next_same old new place d inside same rest) in
      let one : take (place + 1) old ≡ take place old ++ get_or new place d ∷ [] =
      take_more old place d (omega arith) ∙ ap (λ z. take place old ++ z ∷ []) at in
      let other = take_more_set new place y inside in
      record {
        as_many = length-set new place y ∙ same;
        rest = drop-set-lt (place + 1) new place y (omega arith) ∙ drop_more_same new old place rest;
        pass = subst (λ xs. IsPass world schedule until moved xs (take (place + 1) (set new place y))) (sym one)
            (subst (λ ys. IsPass world schedule until moved (take place old ++ get_or new place d ∷ []) ys) (sym other)
            pass);
      }

  pub more_went : (moved one : Bool) (place : ℕ) (old new : List Station) (d y : Station) → one ≡ true
      → place < length new → IsPassed world schedule until one (get_or new place d) y
      → IsPassSoFar moved place old new → IsPassSoFar true (place + 1) old (set new place y)
  more_went moved one place old new d y e inside passed so_far =
      let x = get_or new place d in
      let went = subst (λ b. IsPassed world schedule until b x y) e passed in
      more_by true place old new d y inside so_far.as_many so_far.rest
      (pass_went moved (take place old) (take place new) x y so_far.pass went)

  pub more_not : (moved one : Bool) (place : ℕ) (old new : List Station) (d y : Station) → one ≡ false
      → place < length new → IsPassed world schedule until one (get_or new place d) y
      → IsPassSoFar moved place old new → IsPassSoFar moved (place + 1) old (set new place y)
  more_not moved one place old new d y e inside passed so_far =
      let x = get_or new place d in
      let not = subst (λ b. IsPassed world schedule until b x y) e passed in
      more_by moved place old new d y inside so_far.as_many so_far.rest
      (pass_not moved (take place old) (take place new) x y so_far.pass not)
