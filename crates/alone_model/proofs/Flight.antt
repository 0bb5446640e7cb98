-- The flits of an application alone, a slot later.
use Rattle.std.proofs.Common.{◌≡◌, ℕ, zero, suc, ◌+◌, ◌%◌, ◌<◌, Bool, true, false, not, cond, ◌&&◌, ◌==◌, List, [], ◌∷◌, ◌++◌, find, length, slice_get, Some, refl, sym, ap, ap₂, ◌∙◌, inl, inr, arith}
use Rattle.std.specs.Option.{option_map_or}
use Rattle.std.proofs.lemmas.Bool.{false≢true, cases_Bool, cond-true, cond-false, and_parts, and_from, and_left, and_right, eqb-true, eq-eqb, ne_eqb, not_from_false}
use Rattle.std.proofs.lemmas.Option.{none-some, same_Some}
use Rattle.soc_base.specs.Time.{is_among}
use Rattle.soc_base.specs.Port.{idle, inject}
use Rattle.platform_model.specs.declared.platform.Platform.{Platform}
use Rattle.bundle_model.specs.declared.bundle.Bundle.{Bundle}
use Rattle.bundle_model.specs.Ways.{Way, ways_of}
use Rattle.alone_model.specs.Network.{AppPart, Flying, port_of, new_flits, is_due, flit_on}
use Rattle.alone_model.specs.App.{AppState}
use Rattle.alone_model.specs.Slots.{app_slot}
use Rattle.alone_model.proofs.Finding.{find_later, find_first, find_kept, find_same}

-- the flit of a channel that injects
abbrev pub new_flit : List AppPart → ℕ → ℕ → Way → Flying
new_flit parts slot number way = record { number = number; since = slot; flit = (inject (port_of parts way.from)).0 }

-- a flit that is injected in a slot
pub record IsNew (platform : Platform) (parts : List AppPart) (slot n : ℕ) (ways : List Way) (f : Flying) : Type 0 where
  pub place : ℕ
  pub way : Way
  pub there : slice_get ways place ≡ Some way
  pub among : is_among (slot % platform.table_slots) way.slots ≡ true
  pub is : f ≡ new_flit parts slot (n + place) way

new_later : (platform : Platform) (parts : List AppPart) (slot n : ℕ) (way : Way) (ways : List Way) (f : Flying)
    → IsNew platform parts slot (n + 1) ways f → IsNew platform parts slot n (way ∷ ways) f
new_later platform parts slot n way ways f new =
    let e : n + 1 + new.place ≡ n + suc new.place = omega arith in
    record { place = suc new.place; way = new.way; there = new.there; among = new.among; is = new.is ∙ ap (λ m. new_flit parts slot m new.way) e }

new_by : (platform : Platform) (parts : List AppPart) (slot n : ℕ) (way : Way) (ways : List Way) (b : Bool) (k : ℕ) (f : Flying)
    → is_among (slot % platform.table_slots) way.slots ≡ b
    → ((j : ℕ) → slice_get (new_flits platform parts slot (n + 1) ways) j ≡ Some f → IsNew platform parts slot (n + 1) ways f)
    → slice_get (cond b (new_flit parts slot n way ∷ new_flits platform parts slot (n + 1) ways) (new_flits platform parts slot (n + 1) ways)) k ≡ Some f
    → IsNew platform parts slot n (way ∷ ways) f
new_by platform parts slot n way ways false k f among rest there = new_later platform parts slot n way ways f (rest k there)
new_by platform parts slot n way ways true zero f among rest there =
    let e : n ≡ n + 0 = omega arith in
    record { place = 0; way = way; there = refl; among = among; is = sym (same_Some (new_flit parts slot n way) f there) ∙ ap (λ m. new_flit parts slot m way) e }
new_by platform parts slot n way ways true (suc k) f among rest there = new_later platform parts slot n way ways f (rest k there)

pub new_at : (platform : Platform) (parts : List AppPart) (slot n : ℕ) (ways : List Way) (k : ℕ) (f : Flying)
    → slice_get (new_flits platform parts slot n ways) k ≡ Some f → IsNew platform parts slot n ways f
new_at platform parts slot n [] k f there = absurd (none-some f there)
new_at platform parts slot n (way ∷ ways) k f there =
    new_by platform parts slot n way ways (is_among (slot % platform.table_slots) way.slots) k f refl (λ j at. new_at platform parts slot (n + 1) ways j f at) there

-- and which is found by its number
found_by : (platform : Platform) (parts : List AppPart) (slot n : ℕ) (test : Flying → Bool) (way : Way) (ways : List Way) (b : Bool)
    (wanted : Flying) → test (new_flit parts slot n way) ≡ false → find test (new_flits platform parts slot (n + 1) ways) ≡ Some wanted
    → find test (cond b (new_flit parts slot n way ∷ new_flits platform parts slot (n + 1) ways) (new_flits platform parts slot (n + 1) ways)) ≡ Some wanted
found_by platform parts slot n test way ways false wanted fails found = found
found_by platform parts slot n test way ways true wanted fails found = cond-false (test (new_flit parts slot n way)) _ _ fails ∙ found

pub new_found : (platform : Platform) (parts : List AppPart) (slot n : ℕ) (ways : List Way) (k : ℕ) (way : Way) (test : Flying → Bool)
    → slice_get ways k ≡ Some way → is_among (slot % platform.table_slots) way.slots ≡ true
    → test (new_flit parts slot (n + k) way) ≡ true
    → ((m : ℕ) (w : Way) → m < n + k → test (new_flit parts slot m w) ≡ false)
    → find test (new_flits platform parts slot n ways) ≡ Some (new_flit parts slot (n + k) way)
new_found platform parts slot n [] k way test there among passes fails = absurd (none-some way there)
new_found platform parts slot n (first ∷ ways) zero way test there among passes fails =
    let e : n ≡ n + 0 = omega arith in
    let same = same_Some first way there in
    let here : is_among (slot % platform.table_slots) first.slots ≡ true = ap (λ (w : Way). is_among (slot % platform.table_slots) w.slots) same ∙ among in
    let flit : new_flit parts slot n first ≡ new_flit parts slot (n + 0) way = ap₂ (λ m (w : Way). new_flit parts slot m w) e same in
    ap (λ b. find test (cond b (new_flit parts slot n first ∷ new_flits platform parts slot (n + 1) ways) (new_flits platform parts slot (n + 1) ways))) here
    ∙ cond-true (test (new_flit parts slot n first)) (Some (new_flit parts slot n first)) (find test (new_flits platform parts slot (n + 1) ways)) (ap test flit ∙ passes)
    ∙ ap (λ f. Some f) flit
new_found platform parts slot n (first ∷ ways) (suc k) way test there among passes fails =
    let e : n + 1 + k ≡ n + suc k = omega arith in
    let rest = new_found platform parts slot (n + 1) ways k way test there among (ap (λ m. test (new_flit parts slot m way)) e ∙ passes) (λ m w low. fails m w (omega arith)) in
    found_by platform parts slot n test first ways (is_among (slot % platform.table_slots) first.slots) (new_flit parts slot (n + suc k) way) (fails n first (omega arith)) (rest ∙ ap (λ m. Some (new_flit parts slot m way)) e)

-- what is on a link of the path
abbrev pub is_on : ℕ → ℕ → ℕ → Flying → Bool
is_on slot number hop f = f.number == number && f.since + hop + 1 == slot

-- one that is due is at the end of its path
pub due_at_end : (bundle : Bundle) (slot number hop : ℕ) (way : Way) (f : Flying) → slice_get (ways_of bundle) number ≡ Some way
    → is_on (slot + 1) number hop f ≡ true → hop < length way.path → not (is_due bundle slot f) ≡ true
due_at_end bundle slot number hop way f there on low =
    let both = and_parts (f.number == number) (f.since + hop + 1 == slot + 1) on in
    let is : f.number ≡ number = eqb-true f.number number both.0 in
    let when : f.since + hop + 1 ≡ slot + 1 = eqb-true (f.since + hop + 1) (slot + 1) both.1 in
    let late : (f.since + length way.path == slot) ≡ false = ne_eqb (f.since + length way.path) slot (λ due. let x = due in omega arith) in
    not_from_false (is_due bundle slot f) (ap (λ o. option_map_or (λ (w : Way). f.since + length w.path == slot) o false) (ap (slice_get (ways_of bundle)) is ∙ there) ∙ late)

-- a slot later a flit is on the next link
pub next_hop : (platform : Platform) (bundle : Bundle) (start slot number hop : ℕ) (way : Way) (app : AppState)
    → slice_get (ways_of bundle) number ≡ Some way → suc hop < length way.path
    → flit_on (app_slot platform bundle start slot app).flying (slot + 1) number (suc hop) ≡ flit_on app.flying slot number hop
next_hop platform bundle start slot number hop way app there low =
    let fresh = new_flits platform app.parts slot 0 (ways_of bundle) in
    let kept = find_kept (is_on (slot + 1) number (suc hop)) (λ f. not (is_due bundle slot f)) (fresh ++ app.flying) (λ k f at on. due_at_end bundle slot number (suc hop) way f there on low) in
    let old = find_later (is_on (slot + 1) number (suc hop)) fresh app.flying
    (λ k f at. let new = new_at platform app.parts slot 0 (ways_of bundle) k f at in
    let since : f.since ≡ slot = ap (λ (g : Flying). g.since) new.is in
    and_right (f.number == number) (f.since + suc hop + 1 == slot + 1) (ne_eqb (f.since + suc hop + 1) (slot + 1) (λ e. let x = e in omega arith))) in
    let earlier = find_same (is_on (slot + 1) number (suc hop)) (is_on slot number hop) app.flying (λ k f at. ap (λ b. f.number == number && b) (shifted f.since)) in
    ap (λ o. option_map_or (λ (f : Flying). f.flit) o idle) (kept ∙ old ∙ earlier)
  where
    shifted : (since : ℕ) → (since + suc hop + 1 == slot + 1) ≡ (since + hop + 1 == slot)
    shifted since = elim (cases_Bool (since + hop + 1 == slot)) [
      | inl is ↦ let e = eqb-true (since + hop + 1) slot is in eq-eqb (since + suc hop + 1) (slot + 1) (omega arith) ∙ sym is
      | inr isnt ↦ ne_eqb (since + suc hop + 1) (slot + 1) (λ e. let x : since + hop + 1 ≡ slot = omega arith in false≢true (sym isnt ∙ eq-eqb (since + hop + 1) slot x)) ∙ sym isnt
    ]

-- what is injected is on the first link a slot later
pub first_hop : (platform : Platform) (bundle : Bundle) (start slot number : ℕ) (way : Way) (app : AppState)
    → slice_get (ways_of bundle) number ≡ Some way → 0 < length way.path → is_among (slot % platform.table_slots) way.slots ≡ true
    → flit_on (app_slot platform bundle start slot app).flying (slot + 1) number 0 ≡ (inject (port_of app.parts way.from)).0
first_hop platform bundle start slot number way app there some among =
    let fresh = new_flits platform app.parts slot 0 (ways_of bundle) in
    let e : 0 + number ≡ number = omega arith in
    let kept = find_kept (is_on (slot + 1) number 0) (λ f. not (is_due bundle slot f)) (fresh ++ app.flying) (λ k f at on. due_at_end bundle slot number 0 way f there on some) in
    let passes : is_on (slot + 1) number 0 (new_flit app.parts slot (0 + number) way) ≡ true =
    and_from (0 + number == number) (slot + 0 + 1 == slot + 1) (eq-eqb (0 + number) number e) (eq-eqb (slot + 0 + 1) (slot + 1) (omega arith)) in
    let found = new_found platform app.parts slot 0 (ways_of bundle) number way (is_on (slot + 1) number 0) there among passes
    (λ m w low. and_left (m == number) (slot + 0 + 1 == slot + 1) (ne_eqb m number (λ same. let x = same in omega arith))) in
    ap (λ o. option_map_or (λ (f : Flying). f.flit) o idle) (kept ∙ find_first (is_on (slot + 1) number 0) fresh app.flying _ found)
