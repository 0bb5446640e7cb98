-- A cycle of the tile: it holds the parts, each after its own cycle.
use Rattle.std.proofs.Common.{◌≡◌, ◌≢◌, ℕ, ◌+◌, ◌*◌, ◌<◌, ◌≤◌, Bool, true, false, cond, ◌&&◌, ◌⊎◌, nat_lt, nat_le, List, get_or, slice_set, length, Option, Some, None, IfSome, refl, sym, subst, ap, ◌∙◌, inl, inr, arith}
use Rattle.std.proofs.lemmas.Bool.{cases_eq, cases_lt, eq-eqb, ne_eqb, lt-ltb, le-ltb, lt-leb}
use Rattle.std.proofs.lemmas.List.{get_or-set_same, get_or-set_other, length-set}
use Rattle.std.proofs.lemmas.Option.{same_Some}
use Rattle.std.proofs.lemmas.Nat.{mod_below}
use Rattle.soc_base.specs.Time.{FrameTimes, instance_at, offset_at, served_at, is_among, runs}
use Rattle.platform_model.specs.declared.costs.Costs.{Costs}
use Rattle.bundle_model.specs.declared.bundle.Part.{Part}
use Rattle.soc_base.specs.Slots.{slots_of}
use Rattle.soc_base.proofs.Laws.{among_slots}
use Rattle.tile_memory.specs.Bytes.{with_region}
use Rattle.tile_memory.proofs.Laws.{region-with_region, length-with_region, length-region_bytes}
use Rattle.trace_log.specs.Log.{Log, new_log}
use Rattle.ni_port.specs.SizedPort.{SizedPort}
use Rattle.part_model.specs.Part.{PartState, part_cycle}
use Rattle.comik.specs.declared.context.Context.{Context}
use Rattle.comik.specs.Context.{fresh_context}
use Rattle.soc_base.specs.Frame.{IsFrame}
use Rattle.comik.specs.Kernel.{KernelState, IsInstalled, has}
use Rattle.comik.specs.Table.{kernel_cycle}
use Rattle.comik.specs.Switching.{IsSaved, InStep, Keeps, context_of, context_in}
use Rattle.comik.specs.Turn.{InTurn, TurnOf}
use Rattle.comik.proofs.Laws.{next_cycle, row_parts, held_is, of_held, whole_words, cycle_keeps, row_whole, row_still, whole_file, cycle_own, cycle_others, turn_cycle, held_runs}
use Rattle.tile_mmio.proofs.Laws.{own_put, others_own, length-own_ports, length-put_ports}
use Rattle.tile_core.specs.Tile.{TileState, place_at, number_of}
use Rattle.tile_core.specs.Cycle.{core_place, words_of, held_state, with_state, run_part, run_place, run_held, tile_cycle}
use Rattle.tile_core.specs.Views.{view_step}
use Rattle.tile_core.specs.Holds.{IsHere, IsLogged, Holds}
use Rattle.tile_core.proofs.Installed.{IsGrantedPart, IsOwner, owner_is, installed_same}
use Rattle.tile_core.proofs.Frames.{region_stays}
use Rattle.tile_core.proofs.Ports.{ArePartedParts, own_as}
use Rattle.part_model.proofs.Laws.{cycle_size as bytes_kept, cycle_ports}
use Rattle.tile_core.proofs.Shapes.{cycle_shape}

-- no part runs in the microkernel's cycles
runs_early : (times : FrameTimes) (slots : List ℕ) (start c : ℕ) → offset_at times c < times.kernel → runs times slots start c ≡ false
runs_early times slots start c early =
    let e : nat_le times.kernel (offset_at times c) ≡ false = lt-leb times.kernel (offset_at times c) early in
    ap (λ b. b && is_among (served_at times c) slots && nat_le start (instance_at times c * (times.kernel + times.partition))) e

-- a part that doesn't run stays
view_same : (times : FrameTimes) (costs : Costs) (c : ℕ) (granted : Option ℕ) (part : Option Part) (view : PartState) → ((start : ℕ) (p : Part) → granted ≡ Some start → part ≡ Some p → runs times (slots_of p.slots) start c ≡ false) → view_step times costs c granted part view ≡ view
view_same times costs c None part view still = refl
view_same times costs c (Some start) None view still = refl
view_same times costs c (Some start) (Some p) view still = ap (λ b. cond b (part_cycle costs (core_place p) c view) view) (still start p refl refl)

view_goes : (times : FrameTimes) (costs : Costs) (c : ℕ) (granted : Option ℕ) (part : Option Part) (view : PartState) (start : ℕ) (p : Part) → granted ≡ Some start → part ≡ Some p → runs times (slots_of p.slots) start c ≡ true → view_step times costs c granted part view ≡ part_cycle costs (core_place p) c view
view_goes times costs c granted part view start p b e goes =
    let P : Option ℕ → Type 0 = λ o. view_step times costs c o part view ≡ part_cycle costs (core_place p) c view in
    let Q : Option Part → Type 0 = λ o. view_step times costs c (Some start) o view ≡ part_cycle costs (core_place p) c view in
    subst P (sym b) (subst Q (sym e) (ap (λ t. cond t (part_cycle costs (core_place p) c view) view) goes))

-- each load's part after a cycle, by itself
abbrev pub views_after : FrameTimes → Costs → ℕ → (ℕ → Option Part) → (ℕ → Option ℕ) → (ℕ → PartState) → ℕ → PartState
views_after times costs cycle parts granted view place = view_step times costs cycle (granted place) (parts place) (view place)

-- a log whose view stays
logged_as : (t : TileState) (place : ℕ) (log later : Log) → later ≡ log → IsLogged t place log → IsLogged t place later
logged_as t place log later same is = record { inside = is.inside; is = is.is ∙ sym same }

-- a cycle in which no part goes on
unmoved : (times : FrameTimes) (parts : ℕ → Option Part) (granted : ℕ → Option ℕ) (starts : ℕ → ℕ) (view : ℕ → PartState) (costs : Costs) (c : ℕ) (t : TileState) → IsFrame times → Holds times parts granted starts view c t → ((place : ℕ) → views_after times costs c parts granted view place ≡ view place) → Holds times parts granted starts (views_after times costs c parts granted view) (c + 1) (record t { kernel = kernel_cycle t.kernel c })
unmoved times parts granted starts view costs c t frame h same =
    let k = t.kernel in
    let after = kernel_cycle k c in
    let own_frame = subst IsFrame (sym h.frame) frame in
    let step = subst (λ (f : FrameTimes). InStep k (offset_at f c)) (sym h.frame) h.step in
    let keeps = subst (λ (f : FrameTimes). Keeps k (offset_at f c) after (offset_at f (c + 1))) h.frame (cycle_keeps k c own_frame (whole_words k h.whole) step) in
    let rows = row_parts k (served_at k.times c) (offset_at k.times c) in
    record {
      frame = rows.times ∙ h.frame;
      whole = row_whole k (served_at k.times c) (offset_at k.times c) h.whole;
      step = keeps.step;
      turn = turn_cycle k starts c own_frame h.turn;
      installed = installed_same times.slots parts granted t (record t { kernel = after }) refl rows.owners h.installed;
      inside = h.inside;
      own = h.own;
      here = λ place part start is begins.
          let one = h.here place part start is begins in
          record {
            words = keeps.contexts (number_of part) ∙ one.words ∙ ap words_of (sym (same place));
            bytes = one.bytes ∙ ap (λ (s : PartState). s.bytes) (sym (same place));
            ports = one.ports ∙ ap (λ (s : PartState). s.ports) (sym (same place));
            start_is = one.start_is;
          };
      logs = λ place part is.
          let one = logged_as t place (view place).log _ (ap (λ (s : PartState). s.log) (same place)) (h.logs place part is) in
          record { inside = one.inside; is = one.is };
    }

-- past the microkernel's cycles the part that is held is the one that runs
pub runs_is : (times : FrameTimes) (parts : ℕ → Option Part) (granted : ℕ → Option ℕ) (starts : ℕ → ℕ) (view : ℕ → PartState) (c : ℕ) (t : TileState) (place : ℕ) (part : Part) (start : ℕ) → IsFrame times → Holds times parts granted starts view c t → times.kernel ≤ offset_at times c → IsGrantedPart parts granted place part start → has (number_of part) t.kernel.held ≡ runs times (slots_of part.slots) start c
runs_is times parts granted starts view c t place part start frame h late granted_part =
    let k = t.kernel in
    let turn = subst (λ (f : FrameTimes). InTurn f k.owners k.held k.next starts c) h.frame h.turn in
    let one = h.here place part start granted_part.part_is granted_part.start_is in
    let placed = h.installed.each place part start granted_part.part_is granted_part.start_is in
    let served = served_at times c in
    let least = frame.slots_least in
    let most = frame.slots_most in
    let low : served < times.slots = mod_below (instance_at times c) times.slots (omega arith) in
    let owns = placed.owns served low ∙ sym (among_slots part.slots served (omega arith)) in
    held_runs times k.owners k.held k.next starts (slots_of part.slots) (number_of part) c frame turn late owns
    ∙ ap (λ (s : ℕ). runs times (slots_of part.slots) s c) one.start_is

still_kernel : (times : FrameTimes) (k : KernelState) (c : ℕ) → IsFrame times → k.times ≡ times → times.kernel ≤ offset_at times c → kernel_cycle k c ≡ k
still_kernel times k c frame same late =
    let least = frame.kernel_least in
    let far : 66 ≤ offset_at times c = omega arith in
    row_still k (served_at k.times c) (offset_at k.times c) (subst (λ (f : FrameTimes). 66 ≤ offset_at f c) (sym same) far)

step_far : (held : Option ℕ) (file : Context) (frames : List Context) (later : ℕ) → (later ≡ 0) ⊎ (66 ≤ later) → IfSome held (λ part. IsSaved later file (get_or frames part (fresh_context 0)))
step_far None file frames later far = tt
step_far (Some part) file frames later far = record { saved = λ some early. elim far [ inl none ↦ absurd (omega arith) | inr high ↦ absurd (omega arith) ] }

-- states with the same words, bytes, ports and log
pub same_state : (a b : Context) (bytes bytes' : List ℕ) (ports ports' : List SizedPort) (log log' : Log) → a ≡ b → bytes ≡ bytes' → ports ≡ ports' → log ≡ log' → (let s : PartState = record { regs = a.regs; left = a.left; bytes = bytes; ports = ports; log = log } in s) ≡ (let s : PartState = record { regs = b.regs; left = b.left; bytes = bytes'; ports = ports'; log = log' } in s)
same_state a b bytes bytes' ports ports' log log' p q n r = cc

-- installed parts share no byte and no port
abbrev pub AreParted : (ℕ → Option Part) → (ℕ → Option ℕ) → Type 0
AreParted parts granted = (i j : ℕ) (one other : Part) (s e : ℕ) → i ≢ j → parts i ≡ Some one → granted i ≡ Some s → parts j ≡ Some other → granted j ≡ Some e → ArePartedParts one other

-- the tile holds the parts, whatever the starts by the parts' numbers, and those that are installed are
-- parted
pub record HoldsSome (times : FrameTimes) (parts : ℕ → Option Part) (cycle : ℕ) (granted : ℕ → Option ℕ) (view : ℕ → PartState) (t : TileState) : Type 0 where
  pub starts : ℕ → ℕ
  pub parted : AreParted parts granted
  pub holds : Holds times parts granted starts view cycle t

-- the part with a number has the cycle: it is held past the microkernel's cycles, and it is of a load that is
-- granted
record HasCycle (times : FrameTimes) (parts : ℕ → Option Part) (granted : ℕ → Option ℕ) (cycle : ℕ) (t : TileState) (number : ℕ) : Type 0 where
  late : times.kernel ≤ offset_at times cycle
  held : t.kernel.held ≡ Some number
  owner : IsOwner times.slots parts granted t number

-- the part that is held has its cycle
moved : (times : FrameTimes) (parts : ℕ → Option Part) (granted : ℕ → Option ℕ) (starts : ℕ → ℕ) (view : ℕ → PartState) (costs : Costs) (c : ℕ) (t : TileState) (p : ℕ) → IsFrame times → AreParted parts granted → Holds times parts granted starts view c t → (has_cycle : HasCycle times parts granted c t p) → (let l = has_cycle.owner in Holds times parts granted starts (views_after times costs c parts granted view) (c + 1) (with_state t l.place l.is.part (part_cycle costs (core_place l.is.part) c (held_state t l.place l.is.part))))
moved times parts granted starts view costs c t p frame parted h has_cycle =
    let late = has_cycle.late in
    let held = has_cycle.held in
    let l = has_cycle.owner in
    let k = t.kernel in
    let i = l.place in
    let part = l.is.part in
    let start = l.is.start in
    let least = frame.kernel_least in
    let one = h.here i part start l.is.part_is l.is.start_is in
    let logged = h.logs i part l.is.part_is in
    let inside = h.inside i part l.is.part_is in
    let state = held_state t i part in
    let next = part_cycle costs (core_place part) c state in
    let views = views_after times costs c parts granted view in
    let far : (offset_at times (c + 1) ≡ 0) ⊎ (66 ≤ offset_at times (c + 1)) = elim (next_cycle times c frame) [ inl more ↦ let e = more.1 in inr (omega arith) | inr begins ↦ inl begins.1 ] in
    let words : k.file ≡ words_of (view i) =
    let P : Option ℕ → Type 0 = λ o. context_in o k.file k.frames (offset_at times c) p ≡ k.file in
    let now : context_of k (offset_at times c) p ≡ k.file = subst P (sym held) (of_held p k.file k.frames (offset_at times c) ∙ held_is (offset_at times c) k.file _ (inr (omega arith))) in
    sym now ∙ ap (context_of k (offset_at times c)) (sym l.is.number_is) ∙ one.words in
    let same : state ≡ view i = same_state k.file (words_of (view i)) _ (view i).bytes _ (view i).ports _ (view i).log words one.bytes one.ports logged.is in
    let run : runs times (slots_of part.slots) start c ≡ true =
    sym (runs_is times parts granted starts view c t i part start frame h late (record { part_is = l.is.part_is; start_is = l.is.start_is }))
    ∙ ap (has (number_of part)) held ∙ eq-eqb p (number_of part) (sym l.is.number_is) in
    let goes : next ≡ views i = ap (part_cycle costs (core_place part) c) same ∙ sym (view_goes times costs c (granted i) (parts i) (view i) start part l.is.start_is l.is.part_is run) in
    let fits : length next.bytes ≡ part.region.len = bytes_kept costs (core_place part) c state ∙ length-region_bytes t.memory part.region inside in
    let size : length (with_region t.memory part.region next.bytes) ≡ length t.memory = length-with_region t.memory part.region next.bytes inside fits in
    let count : length next.ports ≡ length part.ports = (cycle_ports costs (core_place part) c state).count ∙ length-own_ports t.ports part.ports in
    let other_number : (place : ℕ) (q : Part) (s : ℕ) → place ≢ i → parts place ≡ Some q → granted place ≡ Some s → number_of q ≢ p = λ place q s apart is begins e.
    let there = h.installed.each place q s is begins in
    apart (same_Some place i (sym there.known ∙ ap (place_at t) e ∙ l.at_place)) in
    let other_view : (place : ℕ) → place ≢ i → views place ≡ view place = λ place apart.
    view_same times costs c (granted place) (parts place) (view place) (λ s q begins is.
    sym (runs_is times parts granted starts view c t place q s frame h late (record { part_is = is; start_is = begins }))
    ∙ ap (has (number_of q)) held ∙ ne_eqb p (number_of q) (λ e. other_number place q s apart is begins (sym e))) in
    let after = with_state t i part next in
    let own : IsHere times starts (c + 1) after part start (views i) = record {
      words = ap (context_of after.kernel (offset_at times (c + 1))) l.is.number_is ∙ cycle_own k (words_of next) p (offset_at times (c + 1)) held far ∙ ap words_of goes;
      bytes = region-with_region t.memory part.region next.bytes inside fits ∙ ap (λ (s : PartState). s.bytes) goes;
      ports = own_put t.ports part.ports next.ports (h.own i part l.is.part_is) count ∙ ap (λ (s : PartState). s.ports) goes;
      start_is = one.start_is;
    } in
    let others : (place : ℕ) (q : Part) (s : ℕ) → place ≢ i → parts place ≡ Some q → granted place ≡ Some s → IsHere times starts (c + 1) after q s (views place) = λ place q s apart is begins.
    let there = h.here place q s is begins in
    let apart_parts = parted i place part q start s (λ e. apart (sym e)) l.is.part_is l.is.start_is is begins in
    record {
      words = cycle_others k (words_of next) p (number_of q) (offset_at times c) (offset_at times (c + 1)) held (other_number place q s apart is begins) ∙ there.words ∙ ap words_of (sym (other_view place apart));
      bytes = region_stays t.memory part.region q.region next.bytes inside fits apart_parts.regions ∙ there.bytes ∙ ap (λ (x : PartState). x.bytes) (sym (other_view place apart));
      ports = others_own t.ports part.ports next.ports q.ports apart_parts.ports ∙ there.ports ∙ ap (λ (x : PartState). x.ports) (sym (other_view place apart));
      start_is = there.start_is;
    } in
    record {
      frame = h.frame;
      whole = whole_file k (words_of next) (cycle_shape costs (core_place part) c state h.whole.file) h.whole;
      step = step_far k.held (words_of next) k.frames (offset_at times (c + 1)) far;
      turn =
          let still = still_kernel times k c frame h.frame late in
          let t2 = subst (λ (s : KernelState). TurnOf s starts (c + 1)) still (turn_cycle k starts c (subst IsFrame (sym h.frame) frame) h.turn) in
          record { next_is = t2.next_is; held_is = t2.held_is; begun = t2.begun };
      installed = installed_same times.slots parts granted t after refl refl h.installed;
      inside = λ place q is. let in_old = h.inside place q is in omega arith;
      own = λ place q is. own_as t.ports after.ports q.ports (length-put_ports t.ports part.ports next.ports) (h.own place q is);
      here = λ place q s is begins. elim (cases_eq place i) [
        | inl same_place ↦
            let P : ℕ → Type 0 = λ n. parts n ≡ Some q → granted n ≡ Some s → IsHere times starts (c + 1) after q s (views n) in
            let at_i : P i = λ is' begins'.
            let q_is : part ≡ q = same_Some part q (sym l.is.part_is ∙ is') in
            let s_is : start ≡ s = same_Some start s (sym l.is.start_is ∙ begins') in
            subst (λ (x : Part). IsHere times starts (c + 1) after x s (views i)) q_is (subst (λ (x : ℕ). IsHere times starts (c + 1) after part x (views i)) s_is own) in
            subst P (sym same_place) at_i is begins
        | inr apart ↦ others place q s apart is begins
      ];
      logs = λ place q is. let at = h.logs place q is in
          let low : place < length (slice_set t.logs i next.log) = let n = length-set t.logs i next.log in let in_old = at.inside in omega arith in
          record {
            inside = low;
            is = elim (cases_eq place i) [
              | inl here ↦
                  let P : ℕ → Type 0 = λ q. get_or (slice_set t.logs i next.log) q (new_log 0) ≡ (views q).log in
                  subst P (sym here) (get_or-set_same t.logs i next.log (new_log 0) logged.inside ∙ ap (λ (s : PartState). s.log) goes)
              | inr apart ↦ get_or-set_other t.logs i place next.log (new_log 0) apart ∙ at.is ∙ ap (λ (s : PartState). s.log) (sym (other_view place apart))
            ];
          };
    }

late_cycle : (times : FrameTimes) (parts : ℕ → Option Part) (granted : ℕ → Option ℕ) (starts : ℕ → ℕ) (view : ℕ → PartState) (costs : Costs) (c : ℕ) (t : TileState) (held : Option ℕ) → IsFrame times → AreParted parts granted → Holds times parts granted starts view c t → times.kernel ≤ offset_at times c → t.kernel.held ≡ held → Holds times parts granted starts (views_after times costs c parts granted view) (c + 1) (run_held parts costs c t held)
late_cycle times parts granted starts view costs c t None frame parted h late held =
    let same : (place : ℕ) → views_after times costs c parts granted view place ≡ view place = λ place.
    view_same times costs c (granted place) (parts place) (view place) (λ s q begins is.
    sym (runs_is times parts granted starts view c t place q s frame h late (record { part_is = is; start_is = begins })) ∙ ap (has (number_of q)) held) in
    let still : kernel_cycle t.kernel c ≡ t.kernel = still_kernel times t.kernel c frame h.frame late in
    subst (λ (k : KernelState). Holds times parts granted starts (views_after times costs c parts granted view) (c + 1) (record t { kernel = k })) still (unmoved times parts granted starts view costs c t frame h same)
late_cycle times parts granted starts view costs c t (Some p) frame parted h late held =
    let installed : IsInstalled t.kernel p = subst (λ (o : Option ℕ). IfSome o (IsInstalled t.kernel)) held h.whole.kernel.installed_held in
    let l = owner_is times.slots parts granted t p p h.installed installed in
    let goal : Option ℕ → Type 0 = λ o. Holds times parts granted starts (views_after times costs c parts granted view) (c + 1) (run_place parts costs c t o) in
    let goal' : Option Part → Type 0 = λ o. Holds times parts granted starts (views_after times costs c parts granted view) (c + 1) (run_part costs c t l.place o) in
    subst goal (sym l.at_place) (subst goal' (sym l.is.part_is) (moved times parts granted starts view costs c t p frame parted h (record { late = late; held = held; owner = l })))

-- one cycle of the tile
pub holds_cycle : (times : FrameTimes) (parts : ℕ → Option Part) (granted : ℕ → Option ℕ) (starts : ℕ → ℕ) (view : ℕ → PartState) (costs : Costs) (c : ℕ) (t : TileState) → IsFrame times → AreParted parts granted → Holds times parts granted starts view c t → Holds times parts granted starts (views_after times costs c parts granted view) (c + 1) (tile_cycle parts costs c t)
unfolding tile_cycle
holds_cycle times parts granted starts view costs c t frame parted h =
    let after = views_after times costs c parts granted view in
    let P : Bool → Type 0 = λ b. Holds times parts granted starts after (c + 1) (cond b (record t { kernel = kernel_cycle t.kernel c }) (run_held parts costs c t t.kernel.held)) in
    let test : nat_lt (offset_at t.kernel.times c) t.kernel.times.kernel ≡ nat_lt (offset_at times c) times.kernel = ap (λ (f : FrameTimes). nat_lt (offset_at f c) f.kernel) h.frame in
    subst P (sym test) (elim (cases_lt (offset_at times c) times.kernel) [
      | inl early ↦
          let yes : nat_lt (offset_at times c) times.kernel ≡ true = lt-ltb (offset_at times c) times.kernel early in
          subst P (sym yes) (unmoved times parts granted starts view costs c t frame h (λ place. view_same times costs c (granted place) (parts place) (view place) (λ s q begins is. runs_early times (slots_of q.slots) s c early)))
      | inr late ↦
          let no : nat_lt (offset_at times c) times.kernel ≡ false = le-ltb (offset_at times c) times.kernel late in
          subst P (sym no) (late_cycle times parts granted starts view costs c t t.kernel.held frame parted h late refl)
    ])
