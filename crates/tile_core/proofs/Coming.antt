-- A part that leaves the tile, and one that comes.
use Rattle.std.proofs.Common.{◌≡◌, ◌≢◌, ℕ, ◌*◌, ◌^◌, ◌<◌, ◌≤◌, ◌==◌, cond, length, Option, Some, None, refl, sym, subst, ap, ◌∙◌, inl, inr, arith}
use Rattle.std.proofs.lemmas.Bool.{cases_eq, eq-eqb, ne_eqb}
use Rattle.std.proofs.lemmas.Option.{same_Some, none-some, IfSome_then}
use Rattle.soc_base.specs.Time.{FrameTimes, offset_at}
use Rattle.bundle_model.specs.declared.bundle.Part.{Part}
use Rattle.bundle_model.specs.declared.world.World.{World}
use Rattle.ni_port.specs.SizedPort.{granted_sized}
use Rattle.tile_memory.specs.Bytes.{with_region, filled_bytes}
use Rattle.tile_memory.proofs.Laws.{region-with_region, length-with_region, length-filled_bytes}
use Rattle.part_model.specs.Part.{PartState}
use Rattle.comik.specs.Kernel.{owner_at}
use Rattle.comik.proofs.Laws.{cleared_others, cleared_in_step, whole_cleared, prepared_own, prepared_others, prepared_in_step, whole_prepared, installed_apart, turn_cleared, turn_prepared}
use Rattle.tile_core.specs.Tile.{TileState, number_of, free_sized}
use Rattle.tile_core.specs.Cycle.{words_of}
use Rattle.tile_core.specs.Slot.{with_each, removed, installed}
use Rattle.tile_core.specs.Views.{opening_view}
use Rattle.tile_core.specs.Holds.{IsHere, Holds}
use Rattle.tile_core.proofs.Installed.{IsChangedAt, IsGrantedPart, IsFree, installed_removed, installed_installed, installed_by, numbers_apart}
use Rattle.tile_core.proofs.Holding.{AreParted, HoldsSome}
use Rattle.tile_core.proofs.Ports.{ArePartedParts, parted_sym, own_as, length-with_each, each_own, each_others}
use Rattle.tile_core.proofs.Frames.{region_stays}

-- parts of which no more are installed
pub parted_by : (parts : ℕ → Option Part) (granted later : ℕ → Option ℕ) → ((place s : ℕ) → later place ≡ Some s → granted place ≡ Some s) → AreParted parts granted → AreParted parts later
parted_by parts granted later were parted = λ i j one other s e differ one_is one_begins other_is other_begins.
    parted i j one other s e differ one_is (were i s one_begins) other_is (were j e other_begins)

-- a part leaves
pub holds_removed : (world : World) (times : FrameTimes) (parts : ℕ → Option Part) (granted later : ℕ → Option ℕ) (view : ℕ → PartState) (c : ℕ) (t : TileState) (i : ℕ) (part : Part) (start : ℕ) → HoldsSome times parts c granted view t → IsGrantedPart parts granted i part start → IsChangedAt granted later i None → HoldsSome times parts c later view (removed world t part)
holds_removed world times parts granted later view c t i part start some leaving gone =
    let k = t.kernel in
    let p = number_of part in
    let free = free_sized world.platform.queue in
    let after = removed world t part in
    let starts = some.starts in
    let h = some.holds in
    let one = h.installed.each i part start leaving.part_is leaving.start_is in
    let apart : (place s : ℕ) → later place ≡ Some s → place ≢ i = λ place s begins e. none-some s (sym gone.now ∙ ap later (sym e) ∙ begins) in
    let was : (place s : ℕ) → later place ≡ Some s → granted place ≡ Some s = λ place s begins. sym (gone.stay place (apart place s begins)) ∙ begins in
    let holds : Holds times parts later starts view c after = record {
      frame = h.frame;
      whole = whole_cleared k p h.whole;
      step = cleared_in_step k p (offset_at times c) h.step;
      turn = turn_cleared k starts p c h.turn;
      installed = installed_removed world times.slots parts granted later t i part start h.installed leaving gone;
      inside = h.inside;
      own = λ place q is. own_as t.ports after.ports q.ports (length-with_each free part.ports t.ports) (h.own place q is);
      here = λ place q s is begins.
          let begun = was place s begins in
          let there = h.here place q s is begun in
          let differs = numbers_apart times.slots t i place part q one (h.installed.each place q s is begun) (apart place s begins) in
          record {
            words = cleared_others k p (offset_at times c) (number_of q) differs ∙ there.words;
            bytes = there.bytes;
            ports = each_others free part.ports q.ports t.ports (some.parted i place part q start s (λ e. apart place s begins (sym e)) leaving.part_is leaving.start_is is begun).ports ∙ there.ports;
            start_is = there.start_is;
          };
      logs = λ place q is. let at = h.logs place q is in record { inside = at.inside; is = at.is };
    } in
    record { starts = starts; parted = parted_by parts granted later was some.parted; holds = holds }

-- what a part that comes needs
pub record IsRoom (slots : ℕ) (parts : ℕ → Option Part) (granted : ℕ → Option ℕ) (t : TileState) (place : ℕ) (part : Part) : Type 0 where
  pub free : IsFree slots parts granted t place part
  pub image : 4 * length part.image ≤ part.region.len
  pub parted : (other : ℕ) (q : Part) (s : ℕ) → parts other ≡ Some q → granted other ≡ Some s → ArePartedParts part q

-- what is told of the loads once one of them is granted from a cycle on, and its part is opened
pub record IsOpenedAt (world : World) (granted later : ℕ → Option ℕ) (view after : ℕ → PartState) (place : ℕ) (part : Part) (cycle : ℕ) : Type 0 where
  pub begun : IsChangedAt granted later place (Some cycle)
  pub opened : IsChangedAt view after place (opening_view world part (view place).log)

-- one more part is installed, for which there is room
parted_with : (slots : ℕ) (parts : ℕ → Option Part) (granted later : ℕ → Option ℕ) (t : TileState) (i : ℕ) (part : Part) (cycle : ℕ) → IsRoom slots parts granted t i part → IsChangedAt granted later i (Some cycle) → AreParted parts granted → AreParted parts later
parted_with slots parts granted later t i part cycle room begun parted a b one other s e differ one_is one_begins other_is other_begins =
    let own : (place : ℕ) (q : Part) → place ≡ i → parts place ≡ Some q → part ≡ q = λ place q here is. same_Some part q (sym room.free.part_is ∙ ap parts (sym here) ∙ is) in
    let was : (place n : ℕ) → place ≢ i → later place ≡ Some n → granted place ≡ Some n = λ place n apart begins. sym (begun.stay place apart) ∙ begins in
    elim (cases_eq a i) [
      | inl here ↦
          let there : b ≢ i = λ also. differ (here ∙ sym also) in
          subst (λ (q : Part). ArePartedParts q other) (own a one here one_is) (room.parted b other e other_is (was b e there other_begins))
      | inr apart ↦ elim (cases_eq b i) [
        | inl here ↦
            parted_sym other one (subst (λ (q : Part). ArePartedParts q one) (own b other here other_is) (room.parted a one s one_is (was a s apart one_begins)))
        | inr also ↦ parted a b one other s e differ one_is (was a s apart one_begins) other_is (was b e also other_begins)
      ]
    ]

-- a part comes
pub holds_installed : (world : World) (times : FrameTimes) (parts : ℕ → Option Part) (granted later : ℕ → Option ℕ) (view after : ℕ → PartState) (c : ℕ) (t : TileState) (i : ℕ) (part : Part) → HoldsSome times parts c granted view t → IsRoom times.slots parts granted t i part → IsOpenedAt world granted later view after i part c → HoldsSome times parts c later after (installed world t i part)
holds_installed world times parts granted later view after_view c t i part some room opens =
    let k = t.kernel in
    let p = number_of part in
    let h = some.holds in
    let starts = some.starts in
    let then : ℕ → ℕ = λ n. cond (n == p) c (starts n) in
    let start_now : then p ≡ c = ap (λ b. cond b c (starts p)) (eq-eqb p p refl) in
    let start_same : (n : ℕ) → n ≢ p → then n ≡ starts n = λ n apart. ap (λ b. cond b c (starts n)) (ne_eqb n p apart) in
    let begun = opens.begun in
    let opened = opens.opened in
    let free = room.free in
    let below = subst (λ (f : FrameTimes). part.slots < 2 ^ f.slots) (sym h.frame) free.below in
    let bytes = filled_bytes part.region.len part.image in
    let granted_port = granted_sized world.platform.queue in
    let inside = h.inside i part free.part_is in
    let fits : length bytes ≡ part.region.len = length-filled_bytes part.region.len part.image room.image in
    let size : length (with_region t.memory part.region bytes) ≡ length t.memory = length-with_region t.memory part.region bytes inside fits in
    let holds : Holds times parts later then after_view c (installed world t i part) = record {
      frame = h.frame;
      whole = whole_prepared k part.slots part.entry free.some free.fits below free.free h.whole;
      step = prepared_in_step k part.slots part.entry (offset_at times c) free.some free.fits free.free h.whole.kernel h.step;
      turn = turn_prepared k starts then part.slots part.entry c free.free start_now (λ slot. IfSome_then (owner_at k slot) (h.whole.kernel.installed_owners slot) (λ q is. start_same q (installed_apart k part.slots q free.some free.fits free.free is))) h.turn;
      installed = installed_installed world times.slots parts granted later t i part c h.installed free begun;
      inside = λ place q is. let in_old = h.inside place q is in omega arith;
      own = λ place q is. own_as t.ports (with_each granted_port part.ports t.ports) q.ports (length-with_each granted_port part.ports t.ports) (h.own place q is);
      here = λ place q s is begins. elim (cases_eq place i) [
        | inl same ↦
            let own : IsHere times then c (installed world t i part) part c (after_view i) = record {
              words = prepared_own k part.slots part.entry (offset_at times c) free.some free.fits below free.free h.whole.kernel ∙ ap words_of (sym opened.now);
              bytes = region-with_region t.memory part.region bytes inside fits ∙ ap (λ (x : PartState). x.bytes) (sym opened.now);
              ports = each_own granted_port part.ports t.ports (h.own i part free.part_is) ∙ ap (λ (x : PartState). x.ports) (sym opened.now);
              start_is = start_now;
            } in
            let P : ℕ → Type 0 = λ n. parts n ≡ Some q → later n ≡ Some s → IsHere times then c (installed world t i part) q s (after_view n) in
            let at_i : P i = λ is' begins'.
            let q_is : part ≡ q = same_Some part q (sym free.part_is ∙ is') in
            let s_is : c ≡ s = same_Some c s (sym begun.now ∙ begins') in
            subst (λ (x : Part). IsHere times then c (installed world t i part) x s (after_view i)) q_is (subst (λ (x : ℕ). IsHere times then c (installed world t i part) part x (after_view i)) s_is own) in
            subst P (sym same) at_i is begins
        | inr apart ↦
            let was = sym (begun.stay place apart) ∙ begins in
            let there = h.here place q s is was in
            let n = number_of q in
            let differs : n ≢ p = installed_apart k part.slots n free.some free.fits free.free (h.installed.each place q s is was).installed in
            record {
              words = prepared_others k part.slots part.entry (offset_at times c) n differs ∙ there.words ∙ ap words_of (sym (opened.stay place apart));
              bytes = region_stays t.memory part.region q.region bytes inside fits (room.parted place q s is was).regions ∙ there.bytes ∙ ap (λ (x : PartState). x.bytes) (sym (opened.stay place apart));
              ports = each_others granted_port part.ports q.ports t.ports (room.parted place q s is was).ports ∙ there.ports ∙ ap (λ (x : PartState). x.ports) (sym (opened.stay place apart));
              start_is = start_same n differs ∙ there.start_is;
            }
      ];
      logs = λ place q is. let at = h.logs place q is in
          record {
            inside = at.inside;
            is = at.is ∙ elim (cases_eq place i) [
              | inl same ↦ ap (λ (n : ℕ). (view n).log) same ∙ sym (ap (λ (s : PartState). s.log) opened.now) ∙ ap (λ (n : ℕ). (after_view n).log) (sym same)
              | inr apart ↦ ap (λ (s : PartState). s.log) (sym (opened.stay place apart))
            ];
          };
    } in
    record { starts = then; parted = parted_with times.slots parts granted later t i part c room begun some.parted; holds = holds }

-- the same starts and views told by other functions
pub holds_by : (times : FrameTimes) (parts : ℕ → Option Part) (granted later : ℕ → Option ℕ) (starts : ℕ → ℕ) (view other : ℕ → PartState) (c : ℕ) (t : TileState) → ((place : ℕ) → later place ≡ granted place) → ((place : ℕ) (part : Part) → parts place ≡ Some part → other place ≡ view place) → Holds times parts granted starts view c t → Holds times parts later starts other c t
holds_by times parts granted later starts view other c t begun same h = record {
  frame = h.frame;
  whole = h.whole;
  step = h.step;
  turn = h.turn;
  installed = installed_by times.slots parts granted later t begun h.installed;
  inside = h.inside;
  own = h.own;
  here = λ place part start is begins.
      let one = h.here place part start is (sym (begun place) ∙ begins) in
      record {
        words = one.words ∙ ap words_of (sym (same place part is));
        bytes = one.bytes ∙ ap (λ (s : PartState). s.bytes) (sym (same place part is));
        ports = one.ports ∙ ap (λ (s : PartState). s.ports) (sym (same place part is));
        start_is = one.start_is;
      };
  logs = λ place part is.
      let at = h.logs place part is in
      record { inside = at.inside; is = at.is ∙ ap (λ (s : PartState). s.log) (sym (same place part is)) };
}
