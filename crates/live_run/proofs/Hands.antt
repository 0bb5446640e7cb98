-- What is dealt out to hands is gathered again.
use Rattle.std.proofs.Common.{◌≡◌, ℕ, zero, suc, ◌+◌, ◌-◌, ◌<◌, ◌%◌, List, [], ◌∷◌, ◌++◌, length, get_or, slice_set, map, take, drop, Some, Result, Ok, Err, refl, sym, ap, subst, ◌∙◌, arith}
use Rattle.std.specs.Prelude.{IfOk}
use Rattle.std.specs.List.{All}
use Rattle.std.proofs.lemmas.List.{get_or-map, get_or-set_same, set-get_or, set-set, map-set, map-append, length-map, take_at, drop_at, take-map, drop-map, length-append}
use Rattle.std.proofs.Math.ListN.{get_or-map as get_or-map-default}
use Rattle.std.proofs.lemmas.List.Elements.{All-nil, All-head, All-tail, All-append, All-set, All-take, All-drop, All-pop, All-push}
use Rattle.live_run.specs.declared.worker.Worker.{Worker}
use Rattle.live_run.specs.inner.Hands.{last_of, but_last, gathered, IsDealtTo}
use Rattle.live_run.specs.inner.Workers.{hand}

-- what follows of what an Ok tells
pub if_ok_more : {X E : Type 0} {P Q : X → Type 0} (result : Result X E) → IfOk result P
    → ((x : X) → P x → Q x) → IfOk result Q
if_ok_more (Ok x) holds more = more x holds
if_ok_more (Err error) holds more = holds

-- the hand at a place is that of the worker there
pub hand_at : (crew : List Worker) (place : ℕ) (worker : Worker) → place < length crew
    → worker ≡ get_or crew place worker → get_or (map hand crew) place [] ≡ hand worker
hand_at crew place worker below is = get_or-map hand crew place worker [] below ∙ ap hand (sym is)

module _ {X : Type 0} where
  last_pushed : (xs : List X) (x : X) → last_of (xs ++ x ∷ []) ≡ x ∷ []
  last_pushed xs x = drop_at xs (x ∷ []) _ (omega (arith, length-append xs (x ∷ [])))

  rest_pushed : (xs : List X) (x : X) → but_last (xs ++ x ∷ []) ≡ xs
  rest_pushed xs x = take_at xs (x ∷ []) _ (omega (arith, length-append xs (x ∷ [])))

  -- one more item
  pub gathered_more : (count more number : ℕ) (items : List X) (hands : List (List X))
      → gathered count (suc more) number items hands
      ≡ gathered count more (number + 1) (items ++ last_of (get_or hands (number % count) []))
      (slice_set hands (number % count) (but_last (get_or hands (number % count) [])))
  unfolding gathered
  gathered_more count more number items hands = refl

  -- no more items
  pub gathered_none : (count more number : ℕ) (items : List X) (hands : List (List X)) → more ≡ 0
      → gathered count more number items hands ≡ items
  unfolding gathered
  gathered_none count more number items hands none = ap (λ n. gathered count n number items hands) none

  -- what was dealt out is gathered next
  pub gathered_dealt : (count more number : ℕ) (items : List X) (x : X) (hands : List (List X))
      → number % count < length hands
      → gathered count (more + 1) number items
      (slice_set hands (number % count) (get_or hands (number % count) [] ++ x ∷ []))
      ≡ gathered count more (number + 1) (items ++ x ∷ []) hands
  gathered_dealt count more number items x hands below =
      let place = number % count in
      let held = get_or hands place [] in
      let now = slice_set hands place (held ++ x ∷ []) in
      let there : get_or now place [] ≡ held ++ x ∷ [] = get_or-set_same hands place (held ++ x ∷ []) [] below in
      let last : last_of (get_or now place []) ≡ x ∷ [] = ap last_of there ∙ last_pushed held x in
      let rest : but_last (get_or now place []) ≡ held = ap but_last there ∙ rest_pushed held x in
      let back : slice_set now place (but_last (get_or now place [])) ≡ hands =
      ap (λ (l : List X). slice_set now place l) rest ∙ set-set hands place (held ++ x ∷ []) held ∙ set-get_or hands place [] in
      let one : more + 1 ≡ suc more = omega arith in
      ap (λ n. gathered count n number items now) one ∙ gathered_more count more number items now
      ∙ ap (λ (l : List X). gathered count more (number + 1) (items ++ l)
      (slice_set now place (but_last (get_or now place [])))) last
      ∙ ap (λ (h : List (List X)). gathered count more (number + 1) (items ++ x ∷ []) h) back

  held_all : (P : X → Type 0) (hands : List (List X)) (place : ℕ) → All (All P) hands → All P (get_or hands place [])
  held_all P [] place all = All-nil P
  held_all P (held ∷ hands) zero all = All-head (All P) held hands all
  held_all P (held ∷ hands) (suc place) all = held_all P hands place (All-tail (All P) held hands all)

  -- what holds of each item that hands hold, and of those that are there, holds of what is gathered
  pub gathered_all : (P : X → Type 0) (count more number : ℕ) (items : List X) (hands : List (List X)) → All P items
      → All (All P) hands → All P (gathered count more number items hands)
  unfolding gathered
  gathered_all P count zero number items hands there all = there
  gathered_all P count (suc more) number items hands there all =
      let place = number % count in
      let held = get_or hands place [] in
      let its = held_all P hands place all in
      gathered_all P count more (number + 1) (items ++ last_of held) (slice_set hands place (but_last held))
      (All-append P items (last_of held) there (All-drop P (length held - 1) held its))
      (All-set (All P) hands place (but_last held) (All-take P (length held - 1) held its) all)

  -- one that is dealt out, for what is gathered and for what holds of each
  pub dealt_step : (count more number place : ℕ) (items rest whole : List X) (old new : List (List X))
      → IsDealtTo place items rest old new → place ≡ number % count → place < length old
      → gathered count more (number + 1) items old ≡ whole → gathered count (more + 1) number rest new ≡ whole
  dealt_step count more number place items rest whole old new dealt at below before =
      let handed : new ≡ slice_set old (number % count) (get_or old (number % count) [] ++ dealt.item ∷ []) =
      dealt.handed ∙ ap (λ n. slice_set old n (get_or old n [] ++ dealt.item ∷ [])) at in
      ap (λ (h : List (List X)). gathered count (more + 1) number rest h) handed
      ∙ gathered_dealt count more number rest dealt.item old (subst (λ n. n < length old) at below)
      ∙ ap (λ (l : List X). gathered count more (number + 1) l old) (sym dealt.was_last) ∙ before

  pub dealt_all : (P : X → Type 0) (place : ℕ) (items rest : List X) (old new : List (List X))
      → IsDealtTo place items rest old new → All P items → All (All P) old → All P rest × All (All P) new
  dealt_all P place items rest old new dealt its all =
      let parted = All-pop P items rest (Some dealt.item) dealt.was_last its in (
        parted.0,
        subst (All (All P)) (sym dealt.handed)
            (All-set (All P) old place (get_or old place [] ++ dealt.item ∷ [])
            (All-push P (get_or old place []) dealt.item (held_all P old place all) parted.1) all),
      )

module _ {X Y : Type 0} (f : X → Y) where
  held_map : (hands : List (List X)) (place : ℕ) → get_or (map (map f) hands) place [] ≡ map f (get_or hands place [])
  held_map hands place = get_or-map-default (map f) hands place []

  -- images are gathered alike
  pub gathered_map : (count more number : ℕ) (items : List X) (hands : List (List X))
      → map f (gathered count more number items hands) ≡ gathered count more number (map f items) (map (map f) hands)
  unfolding gathered
  gathered_map count zero number items hands = refl
  gathered_map count (suc more) number items hands =
      let place = number % count in
      let held = get_or hands place [] in
      let low : length (map f held) - 1 ≡ length held - 1 = ap (λ n. n - 1) (length-map held f) in
      let last : last_of (get_or (map (map f) hands) place []) ≡ map f (last_of held) =
      ap last_of (held_map hands place) ∙ ap (λ n. drop n (map f held)) low ∙ drop-map f (length held - 1) held in
      let rest : but_last (get_or (map (map f) hands) place []) ≡ map f (but_last held) =
      ap but_last (held_map hands place) ∙ ap (λ n. take n (map f held)) low ∙ take-map f (length held - 1) held in
      gathered_map count more (number + 1) (items ++ last_of held) (slice_set hands place (but_last held))
      ∙ rw (map-append f items (last_of held), map-set (map f) hands place (but_last held), last, rest) refl
