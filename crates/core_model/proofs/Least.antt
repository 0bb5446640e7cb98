-- The tile of least slot may take its next slot.
use Rattle.std.proofs.Common.{◌≡◌, ℕ, ◌+◌, ◌-◌, ◌<◌, ◌≤◌, inl, inr, pos, Bool, true, false, not, ◌||◌, ◌&&◌, ◌==◌, ◌↔◌, List, [], ◌∷◌, length, get_or, slice_get, int_le, int_lt, Option, Some, None, refl, sym, ap, subst, ◌∙◌, arith}
use Rattle.std.specs.Prelude.{nat_lt, nat_le, IsTrue, IsNone, IfSome}
use Rattle.std.specs.Option.{option_map_or}
use Rattle.std.specs.Ordering.{int_eq}
use Rattle.std.specs.List.{All, Contains, list_all}
use Rattle.std.proofs.lemmas.Bool.{and_parts, eqb-true, ltb-true, lt-ltb, leb-true, le-leb, cases_lt, false≢true}
use Rattle.std.proofs.lemmas.Option.{slice_get_cases, slice_get_within, get_or_from_slice_get}
use Rattle.std.proofs.lemmas.List.Elements.{All-nil, All-cons, All-weaker, Contains-append_right}
use Rattle.std.proofs.lemmas.List.Folds.{list_all-map}
use Rattle.std.proofs.lemmas.List.Sums.{AllPass-from_list_all, list_all-from_AllPass}
use Rattle.std.proofs.lemmas.List.FromFn.{length-map-range_with_len}
use Rattle.platform_model.specs.Links.{raw_link, joins_tiles}
use Rattle.platform_model.specs.declared.link.Link.{Link}
use Rattle.platform_model.specs.declared.platform.Platform.{Platform}
use Rattle.bundle_model.proofs.Laws.{contained_place, passing_place, no_place}
use Rattle.vep_manager.specs.declared.setup.Setup.{Setup}
use Rattle.vep_manager.specs.History.{horizon_of}
use Rattle.lockstep.specs.Hardware.{Hardware}
use Rattle.core_model.specs.Core.{Line, CoreState, is_fed, may_go, is_least, least_ready}
use Rattle.core_model.specs.Order.{slot_of, in_step, IsInOrder}
use Rattle.core_model.proofs.Lists.{all_of}

-- ---- the links of a platform leave tiles of it

second_holds : (a b c d e : Bool) → (a && b && c && d && e) ≡ true → b ≡ true
second_holds true true c d e is = refl
second_holds true false c d e is = is
second_holds false true c d e is = refl
second_holds false false c d e is = is

-- each link leaves a tile of the platform
links_leave_tiles : (platform : Platform) → All (λ (link : Link). link.from < platform.tiles) platform.links
links_leave_tiles platform =
    let passes = AllPass-from_list_all (λ (link : Link). joins_tiles (pos platform.tiles) (raw_link link)) platform.links
    (sym (list_all-map (joins_tiles (pos platform.tiles)) raw_link platform.links) ∙ platform.links_join_tiles) in
    λ k d low.
    let link = get_or platform.links k d in
    let tiles = pos platform.tiles in
    ltb-true link.from platform.tiles
    (second_holds (int_le (pos 0) (pos link.from)) (int_lt (pos link.from) tiles) (int_le (pos 0) (pos link.to)) (int_lt (pos link.to) tiles) (not (int_eq (pos link.from) (pos link.to))) (passes k d low))

-- ---- the least

-- one of a list of which no other has a lower number
least_of : {X : Type 0} (at : X → ℕ) (x : X) (xs : List X) → (y : X) × Contains (x ∷ xs) y × All (λ other. at y ≤ at other) (x ∷ xs)
least_of at x [] = (x, (0, omega arith, refl), All-cons (λ other. at x ≤ at other) x [] (omega arith) (All-nil (λ other. at x ≤ at other)))
least_of {X} at x (z ∷ zs) =
    let rest = least_of at z zs in
    let y = rest.0 in
    elim (cases_lt (at x) (at y)) [
      | inl lower ↦ (x, (0, omega arith, refl), All-cons (λ other. at x ≤ at other) x (z ∷ zs) (omega arith) (All-weaker (λ (other : X). at y ≤ at other) (λ other. at x ≤ at other) (λ other low. omega arith) (z ∷ zs) rest.2))
      | inr higher ↦ (y, Contains-append_right (x ∷ []) (z ∷ zs) y rest.1, All-cons (λ other. at y ≤ at other) x (z ∷ zs) (omega arith) rest.2)
    ]

and_both : (a b : Bool) → a ≡ true → b ≡ true → (a && b) ≡ true
and_both true b one other = other
and_both false b one other = one

-- ---- the tile of least slot

fed_by : {Flit : Type 0} (reads : Bool) (flits : List Flit) → (reads ≡ true → 0 < length flits) → (not reads || nat_lt 0 (length flits)) ≡ true
fed_by true flits some = lt-ltb 0 (length flits) (some refl)
fed_by false flits some = refl

if_some : {X : Type 0} (o : Option X) (P : X → Type 0) → ((x : X) → o ≡ Some x → P x) → IfSome o P
if_some None P each = tt
if_some (Some x) P each = each x refl

-- a tile of the core is as far as it is least
far_by : {Tile : Type 0} (at : Tile → ℕ) (tiles : List Tile) (least number : ℕ) → All (λ other. least ≤ at other) tiles → number < length tiles → least ≤ option_map_or at (slice_get tiles number) 0
far_by {Tile} at tiles least number all low =
    elim (slice_get_cases tiles number).1 [
      | inl (tile, below, there, is) ↦
          let here : least ≤ at tile = subst (λ (t : Tile). least ≤ at t) is (all number tile below) in
          let same = ap (λ (o : Option Tile). option_map_or at o 0) there in
          omega arith
      | inr (past, there) ↦ absurd (omega arith)
    ]

least_goes : {Tile Flit : Type 0} (hardware : Hardware Tile Flit) (setup : Setup) (core : CoreState Tile Flit) (number : ℕ) (tile : Tile) → IsInOrder Tile Flit hardware setup core → slice_get core.tiles number ≡ Some tile → hardware.at tile < horizon_of setup core.history → All (λ other. hardware.at tile ≤ hardware.at other) core.tiles → may_go hardware setup core number tile ≡ true
least_goes {Tile} {Flit} hardware setup core number tile order there low least =
    let from : All (λ (line : Line Flit). line.link.from < setup.world.platform.tiles) core.lines =
    all_of (λ (link : Link). link.from < setup.world.platform.tiles) (λ (line : Line Flit). line.link) core.lines
    (subst (λ (l : List Link). All (λ (link : Link). link.from < setup.world.platform.tiles) l) (sym order.linked) (links_leave_tiles setup.world.platform)) in
    let fed : All (λ (line : Line Flit). is_fed number line ≡ true) core.lines = λ k d inside.
    let line = get_or core.lines k d in
    let here = order.between k d inside in
    let leaves = from k d inside in
    let counted = order.counted in
    let writer = far_by hardware.at core.tiles (hardware.at tile) line.link.from least (omega arith) in
    let some : (line.link.to == number) ≡ true → 0 < length line.flits = λ reads.
    let at : slot_of hardware core line.link.to ≡ hardware.at tile = ap (slot_of hardware core) (eqb-true line.link.to number reads) ∙ ap (λ (o : Option Tile). option_map_or hardware.at o 0) there in
    let count = ap length here.holds ∙ length-map-range_with_len (λ slot. (in_step hardware setup core slot).carried line.link) (slot_of hardware core line.link.to) (slot_of hardware core line.link.from + 1 - slot_of hardware core line.link.to) in
    omega (arith, count, at, writer) in
    fed_by (line.link.to == number) line.flits some in
    and_both (nat_lt (hardware.at tile) (horizon_of setup core.history)) _ (lt-ltb (hardware.at tile) (horizon_of setup core.history) low) (list_all-from_AllPass (is_fed number) core.lines fed)

-- what makes a tile the least
least_parts : {Tile Flit : Type 0} (hardware : Hardware Tile Flit) (setup : Setup) (core : CoreState Tile Flit) (tile : Tile) → is_least hardware setup core tile ≡ true → (hardware.at tile < horizon_of setup core.history) × All (λ other. hardware.at tile ≤ hardware.at other) core.tiles
least_parts {Tile} hardware setup core tile is =
    let lower = λ (other : Tile). nat_le (hardware.at tile) (hardware.at other) in
    let parts = and_parts (nat_lt (hardware.at tile) (horizon_of setup core.history)) (list_all lower core.tiles) is in
    let passes = AllPass-from_list_all lower core.tiles parts.1 in
    (ltb-true (hardware.at tile) (horizon_of setup core.history) parts.0, λ k d low. leb-true (hardware.at tile) (hardware.at (get_or core.tiles k d)) (passes k d low))

pub least_may_go : {Tile Flit : Type 0} (hardware : Hardware Tile Flit) (setup : Setup) (core : CoreState Tile Flit) → IsInOrder Tile Flit hardware setup core → IfSome (least_ready hardware setup core) (λ number. (tile : Tile) × (slice_get core.tiles number ≡ Some tile) × IsTrue (may_go hardware setup core number tile))
least_may_go {Tile} hardware setup core order =
    if_some (least_ready hardware setup core) (λ number. (tile : Tile) × (slice_get core.tiles number ≡ Some tile) × IsTrue (may_go hardware setup core number tile))
    (λ number is.
    let (tile, there, passes) = passing_place (is_least hardware setup core) core.tiles number is in
    let (low, least) = least_parts hardware setup core tile passes in
    (tile, there, least_goes hardware setup core number tile order there low least))

-- ---- none is ready

-- where no tile is the least, all are at the horizon
none_low : {Tile Flit : Type 0} (hardware : Hardware Tile Flit) (setup : Setup) (core : CoreState Tile Flit) (tiles : List Tile) → tiles ≡ core.tiles → ((number : ℕ) (tile : Tile) → slice_get core.tiles number ≡ Some tile → is_least hardware setup core tile ≡ false) → All (λ tile. horizon_of setup core.history ≤ hardware.at tile) tiles
none_low hardware setup core [] same none = All-nil (λ tile. horizon_of setup core.history ≤ hardware.at tile)
none_low {Tile} hardware setup core (first ∷ tiles) same none = λ k d low.
    let tile = get_or (first ∷ tiles) k d in
    elim (cases_lt (hardware.at tile) (horizon_of setup core.history)) [
      | inl below ↦
          let (y, inside, all) = least_of hardware.at first tiles in
          let here : All (λ (other : Tile). hardware.at y ≤ hardware.at other) core.tiles = subst (λ (l : List Tile). All (λ (other : Tile). hardware.at y ≤ hardware.at other) l) same all in
          let lower = all k d low in
          let passes = and_both (nat_lt (hardware.at y) (horizon_of setup core.history)) _ (lt-ltb (hardware.at y) (horizon_of setup core.history) (omega arith))
          (list_all-from_AllPass (λ other. nat_le (hardware.at y) (hardware.at other)) core.tiles (λ j e within. le-leb (hardware.at y) (hardware.at (get_or core.tiles j e)) (here j e within))) in
          let at = contained_place core.tiles y (subst (λ (l : List Tile). Contains l y) same inside) in
          let fails = none at.0 y at.1 in
          absurd (false≢true (sym fails ∙ passes))
      | inr high ↦ high
    ]

none_by : (o : Option ℕ) → ((i : ℕ) → o ≡ Some i → ⊥) → IsNone o
none_by None never = refl
none_by (Some i) never = absurd (never i refl)

is_none_by : (o : Option ℕ) → IsNone o → o ≡ None
is_none_by None none = refl
is_none_by (Some i) none = cc

pub none_is_ready : {Tile Flit : Type 0} (hardware : Hardware Tile Flit) (setup : Setup) (core : CoreState Tile Flit) → IsNone (least_ready hardware setup core) ↔ All (λ tile. horizon_of setup core.history ≤ hardware.at tile) core.tiles
none_is_ready {Tile} hardware setup core = (
  λ none. none_low hardware setup core core.tiles refl (λ number tile there. no_place (is_least hardware setup core) core.tiles number tile (is_none_by (least_ready hardware setup core) none) there),
  λ high. none_by (least_ready hardware setup core) (λ number is.
      let (tile, there, passes) = passing_place (is_least hardware setup core) core.tiles number is in
      let (low, least) = least_parts hardware setup core tile passes in
      let past : horizon_of setup core.history ≤ hardware.at tile = subst (λ (t : Tile). horizon_of setup core.history ≤ hardware.at t) (get_or_from_slice_get core.tiles number tile tile there) (high number tile (slice_get_within core.tiles number tile there)) in
      absurd (omega arith)),
)
