-- The links of a platform: each enters a tile by an input of its own, from one of the platform's tiles.
use Rattle.std.proofs.Common.{◌≡◌, ℕ, ◌<◌, Bool, true, false, ◌==◌, ◌&&◌, map, find, get_or, slice_get, Some, pos, int_lt, refl, sym, ap, ◌∙◌, inl, inr, arith}
use Rattle.std.specs.Option.{option_map_or}
use Rattle.std.specs.Ordering.{int_eq}
use Rattle.std.proofs.lemmas.Bool.{cases_order, and_parts, and_from, false≢true, ltb-true, eqb-true, eq-eqb}
use Rattle.platform_model.specs.Links.{raw_link, enters_alike, joins_tiles}
use Rattle.platform_model.specs.declared.link.Link.{Link}
use Rattle.platform_model.specs.declared.platform.Platform.{Platform}
use Rattle.bundle_model.proofs.Laws.{found_at}
use Rattle.grant_tables.proofs.Laws.{all_at, no_twin, numbers_equal, raw_at, link_ports}
use Rattle.std.proofs.lemmas.List.FromFn.{get_or-map-range_with_len}
use Rattle.lockstep.specs.Lockstep.{enters, inputs_of}

-- links that enter one tile by one input are one
pub one_input : (platform : Platform) (l m : ℕ) (one other : Link) → slice_get platform.links l ≡ Some one → slice_get platform.links m ≡ Some other → one.to ≡ other.to → one.input ≡ other.input → l ≡ m
one_input platform l m one other at_l at_m to input =
    let first = and_from (int_eq (pos one.to) (pos other.to)) (int_eq (pos one.input) (pos other.input)) (numbers_equal one.to other.to to) (numbers_equal one.input other.input input) in
    let second = and_from (int_eq (pos other.to) (pos one.to)) (int_eq (pos other.input) (pos one.input)) (numbers_equal other.to one.to (sym to)) (numbers_equal other.input one.input (sym input)) in
    elim (cases_order l m) [
      | inl same ↦ same
      | inr (inl before) ↦ absurd (no_twin enters_alike (map raw_link platform.links) l m (raw_link one) (raw_link other) platform.links_enter_apart before (raw_at platform l one at_l) (raw_at platform m other at_m) first)
      | inr (inr behind) ↦ absurd (no_twin enters_alike (map raw_link platform.links) m l (raw_link other) (raw_link one) platform.links_enter_apart behind (raw_at platform m other at_m) (raw_at platform l one at_l) second)
    ]

second : (a b c d e : Bool) → (a && b && c && d && e) ≡ true → b ≡ true
second true true c d e all = refl
second true false c d e all = absurd (false≢true all)
second false b c d e all = absurd (false≢true all)

-- a link leaves one of the platform's tiles
pub from_below : (platform : Platform) (l : ℕ) (link : Link) → slice_get platform.links l ≡ Some link → link.from < platform.tiles
from_below platform l link there =
    let joins = all_at (joins_tiles (pos platform.tiles)) (map raw_link platform.links) l (raw_link link) platform.links_join_tiles (raw_at platform l link there) in
    ltb-true link.from platform.tiles (second _ (int_lt (pos link.from) (pos platform.tiles)) _ _ _ joins)

-- at its input a tile has what the link carries
pub input_carries : {Flit : Type 0} (idle : Flit) (platform : Platform) (carried : Link → Flit) (l : ℕ) (link : Link) → slice_get platform.links l ≡ Some link → get_or (inputs_of idle platform.links carried link.to) link.input idle ≡ carried link
input_carries {Flit} idle platform carried l link there =
    let at : ℕ → Flit = λ input. option_map_or carried (find (enters link.to input) platform.links) idle in
    let found = found_at (enters link.to link.input) platform.links l link there (and_from (link.to == link.to) (link.input == link.input) (eq-eqb link.to link.to refl) (eq-eqb link.input link.input refl))
    (λ j other it passes.
    let both = and_parts (other.to == link.to) (other.input == link.input) passes in
    one_input platform j l other link it there (eqb-true other.to link.to both.0) (eqb-true other.input link.input both.1)) in
    get_or-map-range_with_len at 0 7 link.input link.input idle (link_ports platform l link there).1 (omega arith)
    ∙ ap (λ o. option_map_or carried o idle) found
