-- The law of credits, slot by slot: what a port gives away flies, what flies goes from link to link, and
-- what lands is taken in.
use Rattle.std.proofs.Common.{◌≡◌, ℕ, zero, suc, ◌+◌, ◌-◌, ◌%◌, ◌<◌, ◌≤◌, min, nat_lt, Bool, true, false, not, cond, ◌==◌, ◌&&◌, List, [], ◌∷◌, ◌++◌, map, find, length, slice_get, Option, Some, None, refl, sym, ap, ap₂, ◌∙◌, subst, inl, inr, arith}
use Rattle.std.specs.List.{list_any}
use Rattle.std.specs.Option.{option_map_or}
use Rattle.std.proofs.lemmas.Bool.{cases_Bool, cond-true, cond-false, and_parts, and_from, and_left, and_right, or_left, or_right, or_cases, eqb-true, eq-eqb, ne_eqb, lt-ltb, false≢true, false_from_ne_true}
use Rattle.std.proofs.lemmas.Option.{none-some, same_Some}
use Rattle.std.proofs.lemmas.List.{length-append}
use Rattle.soc_base.specs.Time.{is_among}
use Rattle.soc_base.specs.Port.{WordAndCredits, PortState, idle, inject, inject_from, receive, deliver}
use Rattle.ni_port.specs.SizedPort.{SizedPort, after_inject, after_deliver}
use Rattle.platform_model.specs.declared.platform.Platform.{Platform}
use Rattle.bundle_model.specs.declared.bundle.End.{End}
use Rattle.bundle_model.specs.declared.bundle.Bundle.{Bundle}
use Rattle.bundle_model.specs.Ways.{Way, ways_of}
use Rattle.bundle_model.specs.WellFormed.{IsHeldEnd, IsWellFormed}
use Rattle.bundle_model.proofs.Laws.{way_at, one_source, one_target, none_found, filtered_place}
use Rattle.part_model.proofs.Laws.{IsSamePort}
use Rattle.alone_model.specs.Network.{AppPart, Flying, with_ports, is_end, injects, injected, new_flits, is_due, lands, delivered, flit_on}
use Rattle.alone_model.specs.App.{AppState}
use Rattle.alone_model.specs.Slots.{part_cycles, app_slot}
use Rattle.alone_model.specs.Credits.{sum_below, words_of, words_on, credits_on, before_due}
use Rattle.alone_model.proofs.Cycle.{map_twice}
use Rattle.alone_model.proofs.Finding.{find_later, find_same}
use Rattle.alone_model.proofs.Flight.{next_hop, first_hop, new_at, is_on}
use Rattle.alone_model.proofs.Sound.{AreInjected, append_cases}
use Rattle.alone_model.proofs.PortPlaces.{IsPortAt, changed_at, cycled_at, port_of_at}

sum_shift : (f g : ℕ → ℕ) (n : ℕ) → ((k : ℕ) → k < n → g (suc k) ≡ f k) → sum_below g (suc n) ≡ g 0 + sum_below f n
sum_shift f g zero same = omega arith
sum_shift f g (suc n) same =
    let rest = sum_shift f g n (λ k low. same k (omega arith)) in
    let last = same n (omega arith) in
    omega arith

-- an item that passes, where one does
any_at : {X : Type 0} (test : X → Bool) (xs : List X) (k : ℕ) (x : X) → slice_get xs k ≡ Some x → test x ≡ true → list_any test xs ≡ true
any_at test [] k x there passes = absurd (none-some x there)
any_at test (y ∷ xs) zero x there passes = or_left (test y) (list_any test xs) (ap test (same_Some y x there) ∙ passes)
any_at test (y ∷ xs) (suc k) x there passes = or_right (test y) (list_any test xs) (any_at test xs k x there passes)

any_place : {X : Type 0} (test : X → Bool) (xs : List X) → list_any test xs ≡ true → (k : ℕ) × (x : X) × (slice_get xs k ≡ Some x) × (test x ≡ true)
any_place test [] found = absurd (false≢true found)
any_place test (x ∷ xs) found = elim (or_cases (test x) (list_any test xs) found) [
  | inl here ↦ (0, x, refl, here)
  | inr later ↦ let rest = any_place test xs later in (suc rest.0, rest.1, rest.2, rest.3)
]

ends_same : (tile port : ℕ) (end : End) → is_end tile port end ≡ true → (end.tile ≡ tile) × (end.port ≡ port)
ends_same tile port end is =
    let both = and_parts (end.tile == tile) (end.port == port) is in
    (eqb-true end.tile tile both.0, eqb-true end.port port both.1)

is_end_from : (tile port : ℕ) (end : End) → end.tile ≡ tile → end.port ≡ port → is_end tile port end ≡ true
is_end_from tile port end at it = and_from (end.tile == tile) (end.port == port) (eq-eqb end.tile tile at) (eq-eqb end.port port it)

-- what injecting does to the sums
credit_by : (queued : List ℕ) (p : PortState) → 0 < p.credit → (inject_from queued p).1.credit + words_of (inject_from queued p).0 ≡ p.credit
credit_by [] p some = omega arith
credit_by (word ∷ rest) p some = omega arith

not_zero : (n : ℕ) → (n == 0) ≡ false → 0 < n
not_zero zero isnt = absurd (false≢true (sym isnt ∙ eq-eqb 0 0 refl))
not_zero (suc n) isnt = omega arith

inject_credit : (p : PortState) → (inject p).1.credit + words_of (inject p).0 ≡ p.credit
inject_credit p = elim (cases_Bool (p.credit == 0)) [
  | inl none ↦
      let e : p.credit + 0 ≡ p.credit = omega arith in
      ap (λ b. (inject_from (cond b [] p.send) p).1.credit + words_of (inject_from (cond b [] p.send) p).0) none ∙ e
  | inr some ↦ ap (λ b. (inject_from (cond b [] p.send) p).1.credit + words_of (inject_from (cond b [] p.send) p).0) some ∙ credit_by p.send p (not_zero p.credit some)
]

inject_owed : (queued : List ℕ) (p : PortState)
    → ((inject_from queued p).1.owed + (inject_from queued p).0.credits ≡ p.owed) × (length (inject_from queued p).1.recv ≡ length p.recv)
inject_owed [] p = (omega arith, refl)
inject_owed (word ∷ rest) p = (omega arith, refl)

-- what delivering does to them
deliver_recv : (queue : ℕ) (flit : WordAndCredits) (p : PortState) → words_of flit + (length p.recv + p.owed) ≤ queue
    → length (deliver queue flit p).recv + (deliver queue flit p).owed ≡ length p.recv + p.owed + words_of flit
deliver_recv queue flit p room = by flit.word refl
  where
    by : (o : Option ℕ) → flit.word ≡ o → length (receive queue flit.word p).recv + (receive queue flit.word p).owed ≡ length p.recv + p.owed + words_of flit
    by None is =
        let e : length p.recv + p.owed ≡ length p.recv + p.owed + option_map_or {T = ℕ} (λ _. 1) None 0 = omega arith in
        ap (λ w. length (receive queue w p).recv + (receive queue w p).owed) is ∙ e ∙ sym (ap (λ w. length p.recv + p.owed + option_map_or {T = ℕ} (λ _. 1) w 0) is)
    by (Some word) is =
        let one : words_of flit ≡ 1 = ap (λ w. option_map_or {T = ℕ} (λ _. 1) w 0) is in
        let test : nat_lt (p.owed + length p.recv) queue ≡ true = lt-ltb (p.owed + length p.recv) queue (omega arith) in
        let taken : receive queue (Some word) p ≡ record p { recv = p.recv ++ word ∷ [] } = cond-true (nat_lt (p.owed + length p.recv) queue) (record p { recv = p.recv ++ word ∷ [] }) p test in
        let long = length-append p.recv (word ∷ []) in
        let e : length (p.recv ++ word ∷ []) + p.owed ≡ length p.recv + p.owed + words_of flit = omega arith in
        ap (λ w. length (receive queue w p).recv + (receive queue w p).owed) is ∙ ap (λ (q : PortState). length q.recv + q.owed) taken ∙ e

deliver_credit : (queue : ℕ) (flit : WordAndCredits) (p : PortState) → p.credit + flit.credits ≤ queue → (deliver queue flit p).credit ≡ p.credit + flit.credits
deliver_credit queue flit p room = omega arith

-- an idle flit changes nothing
deliver_idle : (p : SizedPort) → p.port.credit ≤ p.queue → after_deliver idle p ≡ p
deliver_idle p low =
    let e : min (p.port.credit + 0) p.queue ≡ p.port.credit = omega arith in
    ap (λ (n : ℕ). record p { port = record p.port { credit = n } }) e

due_or_idle : (p : SizedPort) (o : Option Flying) → p.port.credit ≤ p.queue
    → option_map_or (λ (f : Flying). after_deliver f.flit p) o p ≡ after_deliver (option_map_or (λ (f : Flying). f.flit) o idle) p
due_or_idle p None low = sym (deliver_idle p low)
due_or_idle p (Some f) low = refl

-- in one direction of a pair: the ports at both ends, and the sum
pub record Stands (platform : Platform) (bundle : Bundle) (n r : ℕ) (way back : Way) (source : IsHeldEnd bundle way.from)
    (target : IsHeldEnd bundle way.to) (slot : ℕ) (app : AppState) : Type 0 where
  pub near : SizedPort
  pub far : SizedPort
  pub near_at : IsPortAt app.parts source.place source.index source.part near
  pub far_at : IsPortAt app.parts target.place target.index target.part far
  pub sum : near.port.credit + words_on app.flying slot n way + (length far.port.recv + far.port.owed) + credits_on app.flying slot r back ≡ platform.queue

module _ (platform : Platform) (bundle : Bundle) (well : IsWellFormed platform bundle) (start slot : ℕ) (app : AppState)
    (are : map (λ q. q.part) app.parts ≡ bundle.parts) (sound : AreInjected platform bundle slot app.flying)
    (modest : (k j : ℕ) (one : AppPart) (p : SizedPort) → slice_get app.parts k ≡ Some one → slice_get one.state.ports j ≡ Some p → (p.queue ≡ platform.queue) × (p.port.credit ≤ platform.queue)) where
  abbrev next : AppState
  next = app_slot platform bundle start slot app

  abbrev flying : List Flying
  flying = new_flits platform app.parts slot 0 (ways_of bundle) ++ app.flying

  -- a channel of the bundle and the port that it leaves
  module _ (m : ℕ) (w : Way) (there : slice_get (ways_of bundle) m ≡ Some w) (held : IsHeldEnd bundle w.from) (p : SizedPort)
      (at : IsPortAt app.parts held.place held.index held.part p) where
    abbrev among : Bool
    among = is_among (slot % platform.table_slots) w.slots

    injects_is : injects platform bundle slot held.part.tile w.from.port ≡ among
    injects_is = elim (cases_Bool among) [
      | inl is ↦
          any_at (λ (v : Way). is_end held.part.tile w.from.port v.from && is_among (slot % platform.table_slots) v.slots) (ways_of bundle) m w there
          (and_from (is_end held.part.tile w.from.port w.from) among (is_end_from held.part.tile w.from.port w.from (sym held.tile) refl) is)
          ∙ sym is
      | inr isnt ↦
          false_from_ne_true (injects platform bundle slot held.part.tile w.from.port) (λ found.
          let way = any_place (λ (v : Way). is_end held.part.tile w.from.port v.from && is_among (slot % platform.table_slots) v.slots) (ways_of bundle) found in
          let both = and_parts (is_end held.part.tile w.from.port way.1.from) (is_among (slot % platform.table_slots) way.1.slots) way.3 in
          let end = ends_same held.part.tile w.from.port way.1.from both.0 in
          let from : way.1.from ≡ w.from = ap₂ (λ t q. record { tile = t; port = q }) (end.0 ∙ held.tile) end.1 in
          let number = one_source platform bundle way.0 m way.1 w well way.2 there from in
          let same : way.1 ≡ w = same_Some way.1 w (sym way.2 ∙ ap (slice_get (ways_of bundle)) number ∙ there) in
          false≢true (sym isnt ∙ ap (λ (v : Way). is_among (slot % platform.table_slots) v.slots) (sym same) ∙ both.1))
          ∙ sym isnt
    ]

    injected_is : injected platform bundle slot held.part.tile w.from.port p ≡ cond among (after_inject p) p
    injected_is = ap (λ b. cond b (after_inject p) p) injects_is

    flit_is : flit_on next.flying (slot + 1) m 0 ≡ cond among (inject p.port).0 idle
    flit_is = elim (cases_Bool among) [
      | inl is ↦
          first_hop platform bundle start slot m w app there (way_at platform bundle m w well there).path.some_link is
          ∙ ap (λ (q : PortState). (inject q).0) (port_of_at platform bundle app.parts w.from held p well are at)
          ∙ sym (cond-true among (inject p.port).0 idle is)
      | inr isnt ↦
          ap (λ o. option_map_or (λ (f : Flying). f.flit) o idle)
          (none_found (is_on (slot + 1) m 0) next.flying (λ k f here. false_from_ne_true (is_on (slot + 1) m 0 f) (λ passes.
          let both = and_parts (f.number == m) (f.since + 0 + 1 == slot + 1) passes in
          let number = eqb-true f.number m both.0 in
          let when = eqb-true (f.since + 0 + 1) (slot + 1) both.1 in
          let kept = filtered_place (λ g. not (is_due bundle slot g)) flying k f here in
          elim (append_cases (new_flits platform app.parts slot 0 (ways_of bundle)) app.flying kept.0 f kept.1) [
            | inl it ↦
                let new = new_at platform app.parts slot 0 (ways_of bundle) it.0 f it.1 in
                let its : f.number ≡ 0 + new.place = ap (λ (g : Flying). g.number) new.is in
                let place : new.place ≡ m = omega arith in
                let same : new.way ≡ w = same_Some new.way w (sym new.there ∙ ap (slice_get (ways_of bundle)) place ∙ there) in
                false≢true (sym isnt ∙ ap (λ (v : Way). is_among (slot % platform.table_slots) v.slots) (sym same) ∙ new.among)
            | inr it ↦ let low = (sound.each it.0 f it.1).3 in omega arith
          ])))
          ∙ sym (cond-false among (inject p.port).0 idle isnt)
    ]

    -- what the port gives away flies
    credit_moves : (injected platform bundle slot held.part.tile w.from.port p).port.credit + words_of (flit_on next.flying (slot + 1) m 0) ≡ p.port.credit
    credit_moves = ap₂ (λ (q : SizedPort) (f : WordAndCredits). q.port.credit + words_of f) injected_is flit_is ∙ by among
      where
        by : (b : Bool) → (cond b (after_inject p) p).port.credit + words_of (cond b (inject p.port).0 idle) ≡ p.port.credit
        by true = inject_credit p.port
        by false = omega arith

    owed_moves : (injected platform bundle slot held.part.tile w.from.port p).port.owed + (flit_on next.flying (slot + 1) m 0).credits ≡ p.port.owed
    owed_moves = ap₂ (λ (q : SizedPort) (f : WordAndCredits). q.port.owed + f.credits) injected_is flit_is ∙ by among
      where
        by : (b : Bool) → (cond b (after_inject p) p).port.owed + (cond b (inject p.port).0 idle).credits ≡ p.port.owed
        by true = (inject_owed (cond (p.port.credit == 0) [] p.port.send) p.port).0
        by false = omega arith

    recv_stays : length (injected platform bundle slot held.part.tile w.from.port p).port.recv ≡ length p.port.recv
    recv_stays = ap (λ (q : SizedPort). length q.port.recv) injected_is ∙ by among
      where
        by : (b : Bool) → length (cond b (after_inject p) p).port.recv ≡ length p.port.recv
        by true = (inject_owed (cond (p.port.credit == 0) [] p.port.send) p.port).1
        by false = refl

    queue_stays : (injected platform bundle slot held.part.tile w.from.port p).queue ≡ p.queue
    queue_stays = by (injects platform bundle slot held.part.tile w.from.port)
      where
        by : (b : Bool) → (cond b (after_inject p) p).queue ≡ p.queue
        by true = refl
        by false = refl

  -- what is on the way a slot later
  shifted : (measure : WordAndCredits → ℕ) (m : ℕ) (w : Way) → slice_get (ways_of bundle) m ≡ Some w
      → (sum_below (λ hop. measure (flit_on next.flying (slot + 1) m hop)) (length w.path) + measure (flit_on app.flying slot m (length w.path - 1))
      ≡ measure (flit_on next.flying (slot + 1) m 0) + sum_below (λ hop. measure (flit_on app.flying slot m hop)) (length w.path))
      × (measure (flit_on app.flying slot m (length w.path - 1)) ≤ sum_below (λ hop. measure (flit_on app.flying slot m hop)) (length w.path))
  shifted measure m w there =
      let some = (way_at platform bundle m w well there).path.some_link in
      let e : length w.path ≡ suc (length w.path - 1) = omega arith in
      let g : ℕ → ℕ = λ hop. measure (flit_on next.flying (slot + 1) m hop) in
      let f : ℕ → ℕ = λ hop. measure (flit_on app.flying slot m hop) in
      let new : sum_below g (length w.path) ≡ sum_below g (suc (length w.path - 1)) = ap (sum_below g) e in
      let old : sum_below f (length w.path) ≡ sum_below f (suc (length w.path - 1)) = ap (sum_below f) e in
      let move : sum_below g (suc (length w.path - 1)) ≡ g 0 + sum_below f (length w.path - 1) = sum_shift f g (length w.path - 1) (λ k low. ap measure (next_hop platform bundle start slot m k w app there (omega arith))) in
      let last : sum_below f (suc (length w.path - 1)) ≡ sum_below f (length w.path - 1) + f (length w.path - 1) = refl in
      (omega arith, omega arith)

  -- what lands at the end of a channel is on its last link
  pub due_lands : (m : ℕ) (w : Way) → slice_get (ways_of bundle) m ≡ Some w
      → find (lands bundle slot w.to.tile w.to.port) flying ≡ find (is_on slot m (length w.path - 1)) app.flying
  due_lands m w there =
      find_later (lands bundle slot w.to.tile w.to.port) (new_flits platform app.parts slot 0 (ways_of bundle)) app.flying
      (λ k f at. let new = new_at platform app.parts slot 0 (ways_of bundle) k f at in
      let since : f.since ≡ slot = ap (λ (g : Flying). g.since) new.is in
      let e : 0 + new.place ≡ new.place = omega arith in
      let its : slice_get (ways_of bundle) f.number ≡ Some new.way = ap (slice_get (ways_of bundle)) (ap (λ (g : Flying). g.number) new.is ∙ e) ∙ new.there in
      let some = (way_at platform bundle new.place new.way well new.there).path.some_link in
      ap (λ o. option_map_or (λ (v : Way). is_end w.to.tile w.to.port v.to && f.since + length v.path == slot) o false) its
      ∙ and_right (is_end w.to.tile w.to.port new.way.to) (f.since + length new.way.path == slot) (ne_eqb (f.since + length new.way.path) slot (λ same. let x = same in omega arith)))
      ∙ find_same (lands bundle slot w.to.tile w.to.port) (is_on slot m (length w.path - 1)) app.flying (λ k f at. each f)
    where
      late : (since : ℕ) → since + length w.path ≡ since + (length w.path - 1) + 1
      late since = let some = (way_at platform bundle m w well there).path.some_link in omega arith

      other : (f : Flying) (v : Way) → slice_get (ways_of bundle) f.number ≡ Some v → (f.number ≡ m → ⊥) → is_end w.to.tile w.to.port v.to ≡ true → ⊥
      other f v its differs is =
          let end = ends_same w.to.tile w.to.port v.to is in
          differs (one_target platform bundle f.number m v w well its there (ap₂ (λ t p. record { tile = t; port = p }) end.0 end.1))

      by_way : (f : Flying) (o : Option Way) → slice_get (ways_of bundle) f.number ≡ o → (f.number ≡ m → ⊥)
          → option_map_or (λ (v : Way). is_end w.to.tile w.to.port v.to && f.since + length v.path == slot) o false ≡ false
      by_way f None is differs = refl
      by_way f (Some v) is differs = and_left (is_end w.to.tile w.to.port v.to) (f.since + length v.path == slot) (false_from_ne_true (is_end w.to.tile w.to.port v.to) (λ lands. other f v is differs lands))

      each : (f : Flying) → lands bundle slot w.to.tile w.to.port f ≡ is_on slot m (length w.path - 1) f
      each f = elim (cases_Bool (f.number == m)) [
        | inl is ↦
            let its : slice_get (ways_of bundle) f.number ≡ Some w = ap (slice_get (ways_of bundle)) (eqb-true f.number m is) ∙ there in
            ap (λ o. option_map_or (λ (v : Way). is_end w.to.tile w.to.port v.to && f.since + length v.path == slot) o false) its
            ∙ ap (λ b. b && f.since + length w.path == slot) (is_end_from w.to.tile w.to.port w.to refl refl ∙ sym is)
            ∙ ap (λ n. f.number == m && n == slot) (late f.since)
        | inr isnt ↦
            by_way f (slice_get (ways_of bundle) f.number) refl (λ same. false≢true (sym isnt ∙ eq-eqb f.number m same))
            ∙ sym (and_left (f.number == m) (f.since + (length w.path - 1) + 1 == slot) isnt)
      ]

  -- and the port takes it in
  landing : (m : ℕ) (w : Way) (tile port : ℕ) (c : SizedPort) → slice_get (ways_of bundle) m ≡ Some w → tile ≡ w.to.tile → port ≡ w.to.port
      → c.port.credit ≤ c.queue → delivered bundle flying slot tile port c ≡ after_deliver (flit_on app.flying slot m (length w.path - 1)) c
  landing m w tile port c there at it low =
      ap (λ o. option_map_or (λ (f : Flying). after_deliver f.flit c) o c)
      (ap₂ (λ t q. find (lands bundle slot t q) flying) at it ∙ due_lands m w there)
      ∙ due_or_idle c (find (is_on slot m (length w.path - 1)) app.flying) low

  -- a port before the deliveries
  pub record Late (end : End) (held : IsHeldEnd bundle end) (p : SizedPort) : Type 0 where
    pub port : SizedPort
    pub same : IsSamePort (injected platform bundle slot held.part.tile end.port p) port
    pub late_at : IsPortAt (before_due platform bundle start slot app).parts held.place held.index held.part port

  late_port : (end : End) (held : IsHeldEnd bundle end) (p : SizedPort) → IsPortAt app.parts held.place held.index held.part p → Late end held p
  late_port end held p at =
      let first = changed_at (injected platform bundle slot) app.parts held.place held.index end.port held.part p held.port at in
      let moved = cycled_at platform bundle start slot (map (with_ports (injected platform bundle slot)) app.parts) held.place held.index held.part (injected platform bundle slot held.part.tile end.port p) first in
      record { port = moved.0; same = moved.1; late_at = moved.2 }

  -- and after them
  next_parts : map (with_ports (delivered bundle flying slot)) (before_due platform bundle start slot app).parts ≡ next.parts
  next_parts =
      let g : AppPart → AppPart = part_cycles platform start slot in
      let h : AppPart → AppPart = with_ports (injected platform bundle slot) in
      let f : AppPart → AppPart = with_ports (delivered bundle flying slot) in
      ap (map f) (map_twice g h app.parts) ∙ map_twice f (λ p. g (h p)) app.parts

  next_port : (end : End) (held : IsHeldEnd bundle end) (c : SizedPort) → IsPortAt (before_due platform bundle start slot app).parts held.place held.index held.part c
      → IsPortAt next.parts held.place held.index held.part (delivered bundle flying slot held.part.tile end.port c)
  next_port end held c at =
      subst (λ (parts : List AppPart). IsPortAt parts held.place held.index held.part (delivered bundle flying slot held.part.tile end.port c)) next_parts
      (changed_at (delivered bundle flying slot) (before_due platform bundle start slot app).parts held.place held.index end.port held.part c held.port at)

  owed_stays : (queue : ℕ) (flit : WordAndCredits) (p : PortState) → (deliver queue flit p).owed ≡ p.owed
  owed_stays queue flit p = by flit.word
    where
      by_test : (b : Bool) (word : ℕ) → (cond b (record p { recv = p.recv ++ word ∷ [] }) p).owed ≡ p.owed
      by_test true word = refl
      by_test false word = refl

      by : (o : Option ℕ) → (receive queue o p).owed ≡ p.owed
      by None = refl
      by (Some word) = by_test (nat_lt (p.owed + length p.recv) queue) word

  -- the step in one direction: the sum stays, no word is dropped and no credit is cut
  pub record SlotBalance (n r : ℕ) (way back : Way) (source : IsHeldEnd bundle way.from) (target : IsHeldEnd bundle way.to) : Type 0 where
    pub near : SizedPort
    pub far : SizedPort
    pub near_late : IsPortAt (before_due platform bundle start slot app).parts source.place source.index source.part near
    pub far_late : IsPortAt (before_due platform bundle start slot app).parts target.place target.index target.part far
    pub no_cut : near.port.credit + (flit_on app.flying slot r (length back.path - 1)).credits ≤ platform.queue
    pub no_drop : words_of (flit_on app.flying slot n (length way.path - 1)) + (length far.port.recv + far.port.owed) ≤ platform.queue
    pub stands : Stands platform bundle n r way back source target (slot + 1) next

  pub slot_balance : (n r : ℕ) (way back : Way) → slice_get (ways_of bundle) n ≡ Some way → slice_get (ways_of bundle) r ≡ Some back
      → back.from ≡ way.to → back.to ≡ way.from → (source : IsHeldEnd bundle way.from) (target : IsHeldEnd bundle way.to)
      → Stands platform bundle n r way back source target slot app → SlotBalance n r way back source target
  slot_balance n r way back way_there back_there from to source target is =
      let queue = platform.queue in
      let its : IsHeldEnd bundle back.from = record { place = target.place; part = target.part; there = target.there; tile = target.tile ∙ sym (ap (λ (e : End). e.tile) from); index = target.index; port = target.port ∙ sym (ap (λ (e : End). Some e.port) from) } in
      let far_port : injected platform bundle slot target.part.tile back.from.port is.far ≡ injected platform bundle slot target.part.tile way.to.port is.far = ap (λ (e : End). injected platform bundle slot target.part.tile e.port is.far) from in
      let near_size = modest source.place source.index is.near_at.one is.near is.near_at.there is.near_at.port in
      let far_size = modest target.place target.index is.far_at.one is.far is.far_at.there is.far_at.port in
      let near_credit = credit_moves n way way_there source is.near is.near_at in
      let near_queue = queue_stays n way way_there source is.near is.near_at in
      let far_credit = credit_moves r back back_there its is.far is.far_at in
      let far_owed = owed_moves r back back_there its is.far is.far_at in
      let far_recv = recv_stays r back back_there its is.far is.far_at in
      let far_queue = queue_stays r back back_there its is.far is.far_at in
      let owed_there = ap (λ (q : SizedPort). q.port.owed) far_port in
      let recv_there = ap (λ (q : SizedPort). length q.port.recv) far_port in
      let credit_there = ap (λ (q : SizedPort). q.port.credit) far_port in
      let queue_there = ap (λ (q : SizedPort). q.queue) far_port in
      let a = late_port way.from source is.near is.near_at in
      let b = late_port way.to target is.far is.far_at in
      let a_queue : a.port.queue ≡ queue = a.same.queue ∙ near_queue ∙ near_size.0 in
      let b_queue : b.port.queue ≡ queue = b.same.queue ∙ sym queue_there ∙ far_queue ∙ far_size.0 in
      let a_credit = a.same.credit in
      let b_credit = b.same.credit in
      let b_places = b.same.places in
      let far_low = far_size.1 in
      let word_flow = shifted words_of n way way_there in
      let credit_flow = shifted (λ f. f.credits) r back back_there in
      let word_moves = word_flow.0 in
      let word_less = word_flow.1 in
      let credits_move = credit_flow.0 in
      let credits_less = credit_flow.1 in
      let sum = is.sum in
      let room : a.port.port.credit + (flit_on app.flying slot r (length back.path - 1)).credits ≤ queue = omega arith in
      let space : words_of (flit_on app.flying slot n (length way.path - 1)) + (length b.port.port.recv + b.port.port.owed) ≤ queue = omega arith in
      let cut = deliver_credit a.port.queue (flit_on app.flying slot r (length back.path - 1)) a.port.port (omega arith) in
      let recv = deliver_recv b.port.queue (flit_on app.flying slot n (length way.path - 1)) b.port.port (omega arith) in
      let near_lands = landing r back source.part.tile way.from.port a.port back_there (source.tile ∙ sym (ap (λ (e : End). e.tile) to)) (sym (ap (λ (e : End). e.port) to)) (omega arith) in
      let far_lands = landing n way target.part.tile way.to.port b.port way_there target.tile refl (omega arith) in
      record {
        near = a.port;
        far = b.port;
        near_late = a.late_at;
        far_late = b.late_at;
        no_cut = room;
        no_drop = space;
        stands = record {
          near = after_deliver (flit_on app.flying slot r (length back.path - 1)) a.port;
          far = after_deliver (flit_on app.flying slot n (length way.path - 1)) b.port;
          near_at = subst (IsPortAt next.parts source.place source.index source.part) near_lands (next_port way.from source a.port a.late_at);
          far_at = subst (IsPortAt next.parts target.place target.index target.part) far_lands (next_port way.to target b.port b.late_at);
          sum = omega arith;
        };
      }
