-- The loads of a tile, their parts, and the grants that are theirs.
use Rattle.std.proofs.Common.{◌≡◌, ◌≢◌, ℕ, ◌*◌, ◌<◌, ◌&&◌, true, List, [], get_or, length, slice_get, Option, Some, None, is_some, option_map, option_and_then, All, refl, sym, ap, ap₂, ◌∙◌, subst}
use Rattle.std.specs.Option.{option_map_or}
use Rattle.std.proofs.lemmas.Bool.{and_parts, false≢true}
use Rattle.std.proofs.lemmas.List.Elements.{All-filter, filter_passes}
use Rattle.std.proofs.lemmas.List.Kept.{AllPairs-filter}
use Rattle.std.proofs.lemmas.Option.{none-some, same_Some, option_and_then_some, slice_get-get_or}
use Rattle.bundle_model.specs.declared.bundle.Part.{Part}
use Rattle.bundle_model.specs.declared.world.World.{World}
use Rattle.bundle_model.specs.declared.world.LoadName.{LoadName}
use Rattle.bundle_model.specs.declared.world.Grant.{Grant}
use Rattle.bundle_model.specs.declared.bundle.Bundle.{Bundle}
use Rattle.bundle_model.specs.declared.resource.Resource.{Resource}
use Rattle.bundle_model.specs.declared.resource.Resource.TheVariants.{Port}
use Rattle.bundle_model.specs.Resources.{resources_of}
use Rattle.bundle_model.specs.Grants.{IsApart, bundle_at, grant_resources, stands_at}
use Rattle.bundle_model.specs.World.{same_label, part_on, IsSoundWorld, AreOfLoads}
use Rattle.bundle_model.proofs.Laws.{AreKeyed, at_place, keyed_pairs, found_place, AreDisjoint, HasPart, same_so, IsPartOn, is_part_on, grant_bundle, standing_disjoint, port_held, present_now, one_holder}
use Rattle.tile_core.specs.Tile.{loads_on}
use Rattle.tile_core.specs.Fit.{standing_grant, granted_cycle}
use Rattle.tile_core.proofs.Ports.{ArePartedPorts}

-- what every lemma here is about: a sound world, grants that are apart and of its loads, and the loads
-- that have a part on a tile
pub record IsSite (world : World) (all loads : List LoadName) (grants : List Grant) (number : ℕ) : Type 0 where
  pub sound : IsSoundWorld world all
  pub apart : IsApart world grants
  pub of_loads : AreOfLoads all grants
  pub here : loads ≡ loads_on world number all

-- the part of the load at a place
abbrev pub site_part : World → ℕ → List LoadName → ℕ → Option Part
site_part world number loads place = option_and_then (λ (load : LoadName). part_on world number load.bundle) (slice_get loads place)

-- no two loads of a tile have one label
pub loads_keyed : (world : World) (all loads : List LoadName) (grants : List Grant) (number : ℕ) → IsSite world all loads grants number → AreKeyed (λ (load : LoadName). load.label) loads
loads_keyed world all loads grants number site =
    let P : List LoadName → Type 0 = λ xs. AreKeyed (λ (load : LoadName). load.label) xs in
    subst P (sym site.here) (keyed_pairs (λ (load : LoadName). load.label) (loads_on world number all)
    (AllPairs-filter (λ (one other : LoadName). one.label ≢ other.label) (λ (load : LoadName). is_some (part_on world number load.bundle)) all site.sound.labelled))

the_part : (found : Option Part) → is_some found ≡ true → (part : Part) × (found ≡ Some part)
the_part (Some part) is = (part, refl)
the_part None is = absurd (false≢true is)

-- each has a part on it
pub load_has : (world : World) (all loads : List LoadName) (grants : List Grant) (number place : ℕ) (load : LoadName) → IsSite world all loads grants number → slice_get loads place ≡ Some load → (part : Part) × (part_on world number load.bundle ≡ Some part)
load_has world all loads grants number place load site there =
    let P : LoadName → Type 0 = λ load. is_some (part_on world number load.bundle) ≡ true in
    the_part (part_on world number load.bundle) (at_place P (loads_on world number all) place load (filter_passes (λ (load : LoadName). is_some (part_on world number load.bundle)) all) (ap (λ (xs : List LoadName). slice_get xs place) (sym site.here) ∙ there))

-- a grant of a load is of the load's bundle
pub bundle_is : (world : World) (all loads : List LoadName) (grants : List Grant) (number place k : ℕ) (load : LoadName) (grant : Grant) → IsSite world all loads grants number → slice_get loads place ≡ Some load → slice_get grants k ≡ Some grant → grant.label ≡ load.label → grant.bundle ≡ load.bundle
bundle_is world all loads grants number place k load grant site there granted same =
    let P : LoadName → Type 0 = λ load. grant.label ≡ load.label → grant.bundle ≡ load.bundle in
    let every : All P all = λ i d inside same. grant_bundle all grants i k grant (get_or all i d) (keyed_pairs (λ (l : LoadName). l.label) all site.sound.labelled) site.of_loads granted (slice_get-get_or all i d inside) same in
    at_place P (loads_on world number all) place load (All-filter (λ (load : LoadName). is_some (part_on world number load.bundle)) P all every) (ap (λ (xs : List LoadName). slice_get xs place) (sym site.here) ∙ there) same

-- the load and the bundle of a part at a place
pub record IsSitePart (world : World) (number : ℕ) (loads : List LoadName) (place : ℕ) (part : Part) : Type 0 where
  pub load : LoadName
  pub there : slice_get loads place ≡ Some load
  pub on : IsPartOn world number load.bundle part

pub site_part_is : (world : World) (all loads : List LoadName) (grants : List Grant) (number place : ℕ) (part : Part) → IsSite world all loads grants number → site_part world number loads place ≡ Some part → IsSitePart world number loads place part
site_part_is world all loads grants number place part site is =
    option_and_then_some (λ (load : LoadName). part_on world number load.bundle) (slice_get loads place) part is (λ load there on.
    record { load = load; there = there; on = is_part_on world number load.bundle part site.sound.catalog on })

-- a load at a place whose grant stands at a slot
pub record IsGranted (world : World) (grants : List Grant) (slot : ℕ) (loads : List LoadName) (place start : ℕ) : Type 0 where
  pub load : LoadName
  pub there : slice_get loads place ≡ Some load
  pub grant : Grant
  pub index : ℕ
  pub granted : slice_get grants index ≡ Some grant
  pub label : grant.label ≡ load.label
  pub stands : stands_at slot grant ≡ true
  pub start_is : grant.start * world.platform.slot_cycles ≡ start

-- the cycle from which on the load at a place is granted
abbrev pub site_granted : World → List Grant → ℕ → List LoadName → ℕ → Option ℕ
site_granted world grants slot loads place = option_and_then (granted_cycle world grants slot) (slice_get loads place)

made_of : {X Y : Type 0} (f : X → Y) (o : Option X) (y : Y) → option_map f o ≡ Some y → (x : X) × (o ≡ Some x) × (f x ≡ y)
made_of f None y made = absurd (none-some y made)
made_of f (Some x) y made = (x, refl, same_Some (f x) y made)

pub site_granted_is : (world : World) (grants : List Grant) (slot : ℕ) (loads : List LoadName) (place start : ℕ) → site_granted world grants slot loads place ≡ Some start → IsGranted world grants slot loads place start
site_granted_is world grants slot loads place start is =
    option_and_then_some (granted_cycle world grants slot) (slice_get loads place) start is (λ load there from.
    let made = made_of (λ (grant : Grant). grant.start * world.platform.slot_cycles) (standing_grant grants slot load.label) start from in
    let found = found_place (λ (grant : Grant). same_label grant.label load.label && stands_at slot grant) grants made.0 made.1 in
    let both = and_parts (same_label made.0.label load.label) (stands_at slot made.0) found.2 in
    record {
      load = load;
      there = there;
      grant = made.0;
      index = found.0;
      granted = found.1;
      label = same_so made.0.label load.label both.0;
      stands = both.1;
      start_is = made.2;
    })

-- a granted load's part is of the grant's bundle
pub granted_part : (world : World) (all loads : List LoadName) (grants : List Grant) (number slot place start : ℕ) (part : Part) → IsSite world all loads grants number → (g : IsGranted world grants slot loads place start) → site_part world number loads place ≡ Some part → HasPart world g.grant part
granted_part world all loads grants number slot place start part site g is =
    let p = site_part_is world all loads grants number place part site is in
    let load : p.load ≡ g.load = same_Some p.load g.load (sym p.there ∙ g.there) in
    let bundle : g.grant.bundle ≡ p.load.bundle = bundle_is world all loads grants number place g.index p.load g.grant site p.there g.granted (g.label ∙ ap (λ (l : LoadName). l.label) (sym load)) in
    record { bundle = p.on.bundle; bundled = ap (bundle_at world) bundle ∙ p.on.bundled; place = p.on.at; there = p.on.there; sound = p.on.sound }

-- grants of two loads stand at two places
indices_differ : (world : World) (all loads : List LoadName) (grants : List Grant) (number slot i j s e : ℕ) → IsSite world all loads grants number → i ≢ j → (a : IsGranted world grants slot loads i s) → (b : IsGranted world grants slot loads j e) → a.index ≢ b.index
indices_differ world all loads grants number slot i j s e site differ a b = λ same.
    let grant : a.grant ≡ b.grant = same_Some a.grant b.grant (sym a.granted ∙ ap (slice_get grants) same ∙ b.granted) in
    differ (loads_keyed world all loads grants number site i j a.load b.load a.there b.there (sym a.label ∙ ap (λ (g : Grant). g.label) grant ∙ b.label))

-- the part of a load at a place of the tile, whose grant stands at a slot
pub record IsStandingPart (world : World) (grants : List Grant) (number slot : ℕ) (loads : List LoadName) (place : ℕ) (part : Part) : Type 0 where
  pub start : ℕ
  pub granted : IsGranted world grants slot loads place start
  pub is : site_part world number loads place ≡ Some part

-- the parts of two loads whose grants stand in one slot share no partition slot and no byte
pub granted_disjoint : (world : World) (all loads : List LoadName) (grants : List Grant) (number slot i j : ℕ) (one other : Part) → IsSite world all loads grants number → i ≢ j → IsStandingPart world grants number slot loads i one → IsStandingPart world grants number slot loads j other → AreDisjoint one other
granted_disjoint world all loads grants number slot i j one other site differ one_part other_part =
    let a = one_part.granted in
    let b = other_part.granted in
    let a_part = site_part_is world all loads grants number i one site one_part.is in
    let b_part = site_part_is world all loads grants number j other site other_part.is in
    standing_disjoint world grants slot one other site.apart
    (record { index = a.index; grant = a.grant; there = a.granted; stands = a.stands; has = granted_part world all loads grants number slot i one_part.start one site a one_part.is })
    (record { index = b.index; grant = b.grant; there = b.granted; stands = b.stands; has = granted_part world all loads grants number slot j other_part.start other site b other_part.is })
    (indices_differ world all loads grants number slot i j one_part.start other_part.start site differ a b) (a_part.on.tile ∙ sym b_part.on.tile)

-- a port of a grant's part is among the grant's resources
port_of : (world : World) (grant : Grant) (part : Part) (k : ℕ) → HasPart world grant part → k < length part.ports → (place : ℕ) × (slice_get (grant_resources world grant) place ≡ Some (Port part.tile (get_or part.ports k 0)))
port_of world grant part k has inside =
    let held = port_held world.platform has.bundle has.place k (get_or part.ports k 0) part has.there (slice_get-get_or part.ports k 0 inside) in
    (held.0, ap (λ (found : Option Bundle). slice_get (option_map_or (resources_of world.platform) found []) held.0) has.bundled ∙ held.1)

-- nor a port
pub granted_ports : (world : World) (all loads : List LoadName) (grants : List Grant) (number slot i j : ℕ) (one other : Part) → IsSite world all loads grants number → i ≢ j → IsStandingPart world grants number slot loads i one → IsStandingPart world grants number slot loads j other → ArePartedPorts one.ports other.ports
granted_ports world all loads grants number slot i j one other site differ one_part other_part k m inside within same =
    let a = one_part.granted in
    let b = other_part.granted in
    let a_part = site_part_is world all loads grants number i one site one_part.is in
    let b_part = site_part_is world all loads grants number j other site other_part.is in
    let a_port = port_of world a.grant one k (granted_part world all loads grants number slot i one_part.start one site a one_part.is) inside in
    let b_port = port_of world b.grant other m (granted_part world all loads grants number slot j other_part.start other site b other_part.is) within in
    let resource : Port other.tile (get_or other.ports m 0) ≡ Port one.tile (get_or one.ports k 0) = ap₂ Port (b_part.on.tile ∙ sym a_part.on.tile) (sym same) in
    indices_differ world all loads grants number slot i j one_part.start other_part.start site differ a b
    (one_holder world grants slot (Port one.tile (get_or one.ports k 0)) site.apart
    (record { index = a.index; grant = a.grant; present = present_now grants slot a.index a.grant a.granted a.stands; place = a_port.0; held = a_port.1 })
    (record { index = b.index; grant = b.grant; present = present_now grants slot b.index b.grant b.granted b.stands; place = b_port.0; held = b_port.1 ∙ ap (λ (r : Resource). Some r) resource }))
