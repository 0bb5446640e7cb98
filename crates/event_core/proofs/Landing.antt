-- What is due at a port flies on the last link of the one channel that ends there.
use Rattle.std.proofs.Common.{◌≡◌, ℕ, ◌+◌, ◌-◌, ◌≤◌, min, Bool, true, false, ◌==◌, ◌&&◌, List, ◌++◌, find, length, slice_get, Option, Some, None, refl, sym, ap, ap₂, ◌∙◌, inl, inr, arith}
use Rattle.std.specs.Option.{option_map_or}
use Rattle.std.specs.List.{list_any}
use Rattle.std.proofs.lemmas.Bool.{cases_Bool, and_parts, and_from, and_left, and_right, eqb-true, eq-eqb, ne_eqb, false≢true, false_from_ne_true}
use Rattle.std.proofs.lemmas.List.Folds.{Any-from_list_any}
use Rattle.std.proofs.lemmas.Option.{slice_get-get_or}
use Rattle.soc_base.specs.Port.{idle}
use Rattle.ni_port.specs.SizedPort.{SizedPort, after_deliver}
use Rattle.platform_model.specs.declared.platform.Platform.{Platform}
use Rattle.bundle_model.specs.declared.bundle.End.{End}
use Rattle.bundle_model.specs.declared.bundle.Bundle.{Bundle}
use Rattle.bundle_model.specs.Ways.{Way, ways_of}
use Rattle.bundle_model.specs.WellFormed.{IsWellFormed}
use Rattle.bundle_model.proofs.Laws.{way_at, one_target}
use Rattle.alone_model.specs.Network.{AppPart, Flying, is_end, new_flits, lands, delivered, flit_on}
use Rattle.alone_model.proofs.Laws.{new_at, find_later, find_same, is_on}

-- an item that passes, where one does
pub any_place : {X : Type 0} (test : X → Bool) (xs : List X) → list_any test xs ≡ true → (k : ℕ) × (x : X) × (slice_get xs k ≡ Some x) × (test x ≡ true)
any_place test xs found =
    let any = Any-from_list_any test xs found in
    (any.0, any.1, slice_get-get_or xs any.0 any.1 any.2 ∙ ap (λ x. Some x) any.3, any.4)

-- an end by its tile and port
pub ends_same : (tile port : ℕ) (end : End) → is_end tile port end ≡ true → (end.tile ≡ tile) × (end.port ≡ port)
ends_same tile port end is =
    let both = and_parts (end.tile == tile) (end.port == port) is in
    (eqb-true end.tile tile both.0, eqb-true end.port port both.1)

pub is_end_from : (tile port : ℕ) (end : End) → end.tile ≡ tile → end.port ≡ port → is_end tile port end ≡ true
is_end_from tile port end at it = and_from (end.tile == tile) (end.port == port) (eq-eqb end.tile tile at) (eq-eqb end.port port it)

-- an idle flit changes nothing
deliver_idle : (p : SizedPort) → p.port.credit ≤ p.queue → after_deliver idle p ≡ p
deliver_idle p low =
    let e : min (p.port.credit + 0) p.queue ≡ p.port.credit = omega arith in
    ap (λ n. record p { port = record p.port { credit = n } }) e

due_or_idle : (p : SizedPort) (o : Option Flying) → p.port.credit ≤ p.queue → option_map_or (λ (f : Flying). after_deliver f.flit p) o p ≡ after_deliver (option_map_or (λ (f : Flying). f.flit) o idle) p
due_or_idle p None low = sym (deliver_idle p low)
due_or_idle p (Some f) low = refl

module _ (platform : Platform) (bundle : Bundle) (slot number : ℕ) (way : Way) (parts : List AppPart) (flying : List Flying) (well : IsWellFormed platform bundle) (there : slice_get (ways_of bundle) number ≡ Some way) where
  late : (since : ℕ) → since + length way.path ≡ since + (length way.path - 1) + 1
  late since = let some = (way_at platform bundle number way well there).path.some_link in omega arith

  other : (f : Flying) (w : Way) → slice_get (ways_of bundle) f.number ≡ Some w → (f.number ≡ number → ⊥) → is_end way.to.tile way.to.port w.to ≡ true → ⊥
  other f w its differs is =
      let end = ends_same way.to.tile way.to.port w.to is in
      differs (one_target platform bundle f.number number w way well its there (ap₂ (λ t p. record { tile = t; port = p }) end.0 end.1))

  by_way : (f : Flying) (o : Option Way) → slice_get (ways_of bundle) f.number ≡ o → (f.number ≡ number → ⊥) → option_map_or (λ (w : Way). is_end way.to.tile way.to.port w.to && f.since + length w.path == slot) o false ≡ false
  by_way f None is differs = refl
  by_way f (Some w) is differs = and_left (is_end way.to.tile way.to.port w.to) (f.since + length w.path == slot) (false_from_ne_true (is_end way.to.tile way.to.port w.to) (λ lands. other f w is differs lands))

  each : (f : Flying) → lands bundle slot way.to.tile way.to.port f ≡ is_on slot number (length way.path - 1) f
  each f = elim (cases_Bool (f.number == number)) [
    | inl is ↦
        let its : slice_get (ways_of bundle) f.number ≡ Some way = ap (slice_get (ways_of bundle)) (eqb-true f.number number is) ∙ there in
        ap (λ o. option_map_or (λ (w : Way). is_end way.to.tile way.to.port w.to && f.since + length w.path == slot) o false) its
        ∙ ap (λ b. b && f.since + length way.path == slot) (is_end_from way.to.tile way.to.port way.to refl refl ∙ sym is)
        ∙ ap (λ n. f.number == number && n == slot) (late f.since)
    | inr isnt ↦
        by_way f (slice_get (ways_of bundle) f.number) refl (λ same. false≢true (sym isnt ∙ eq-eqb f.number number same))
        ∙ sym (and_left (f.number == number) (f.since + (length way.path - 1) + 1 == slot) isnt)
  ]

  pub due_lands : find (lands bundle slot way.to.tile way.to.port) (new_flits platform parts slot 0 (ways_of bundle) ++ flying) ≡ find (is_on slot number (length way.path - 1)) flying
  due_lands =
      find_later (lands bundle slot way.to.tile way.to.port) (new_flits platform parts slot 0 (ways_of bundle)) flying
      (λ k f at. let new = new_at platform parts slot 0 (ways_of bundle) k f at in
      let since : f.since ≡ slot = ap (λ (g : Flying). g.since) new.is in
      let e : 0 + new.place ≡ new.place = omega arith in
      let its : slice_get (ways_of bundle) f.number ≡ Some new.way = ap (slice_get (ways_of bundle)) (ap (λ (g : Flying). g.number) new.is ∙ e) ∙ new.there in
      let some = (way_at platform bundle new.place new.way well new.there).path.some_link in
      ap (λ o. option_map_or (λ (w : Way). is_end way.to.tile way.to.port w.to && f.since + length w.path == slot) o false) its
      ∙ and_right (is_end way.to.tile way.to.port new.way.to) (f.since + length new.way.path == slot) (ne_eqb (f.since + length new.way.path) slot (λ same. let x = same in omega arith)))
      ∙ find_same (lands bundle slot way.to.tile way.to.port) (is_on slot number (length way.path - 1)) flying (λ k f at. each f)

  -- so what reaches the port is what the last link carries
  pub delivered_last : (p : SizedPort) → p.port.credit ≤ p.queue
      → delivered bundle (new_flits platform parts slot 0 (ways_of bundle) ++ flying) slot way.to.tile way.to.port p ≡ after_deliver (flit_on flying slot number (length way.path - 1)) p
  delivered_last p low =
      ap (λ o. option_map_or (λ (f : Flying). after_deliver f.flit p) o p) due_lands
      ∙ due_or_idle p (find (is_on slot number (length way.path - 1)) flying) low
