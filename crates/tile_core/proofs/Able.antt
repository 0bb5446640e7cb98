-- The parts of grants can leave and come, one after the other.
use Rattle.std.proofs.Common.{◌≡◌, ℕ, zero, suc, ◌+◌, ◌*◌, ◌^◌, ◌<◌, Bool, true, false, cond, List, [], ◌∷◌, filter, fold, get_or, length, position, slice_get, take, Option, Some, None, sym, subst, ap, ◌∙◌, arith}
use Rattle.std.proofs.lemmas.Option.{none-some, same_Some, slice_get-get_or, get_or_from_slice_get}
use Rattle.bundle_model.specs.declared.bundle.Part.{Part}
use Rattle.bundle_model.specs.declared.world.World.{World}
use Rattle.bundle_model.specs.declared.world.LoadName.{LoadName}
use Rattle.bundle_model.specs.declared.world.Grant.{Grant}
use Rattle.bundle_model.specs.declared.world.Schedule.{Schedule}
use Rattle.bundle_model.specs.World.{same_label, IsSoundCatalog}
use Rattle.bundle_model.proofs.Laws.{keyed_pairs}
use Rattle.rv_core.specs.Registers.{fresh_registers}
use Rattle.trace_log.specs.Log.{new_log}
use Rattle.part_model.specs.Part.{PartState}
use Rattle.tile_core.specs.Tile.{TileState, number_of, load_part, load_place}
use Rattle.tile_core.specs.Slot.{ends_in, begins_in, after_end, with_ends, after_start}
use Rattle.tile_core.specs.Fit.{AreInstalled, IsMadeFor, IsUnderway}
use Rattle.tile_core.specs.inner.Ready.{CanCome, CanEnd, CanBegin, HasEnded, HasPorts}
use Rattle.tile_core.proofs.Installed.{read_inside, number_inside}
use Rattle.tile_core.proofs.Standing.{AreLabelled, untouched}
use Rattle.tile_core.proofs.Sites.{site_granted, loads_keyed}
use Rattle.tile_core.proofs.Folding.{parts_are, touches, AreThere, have_parts, at_place_of, fold_out}
use Rattle.tile_core.proofs.Rooms.{room_is}
use Rattle.tile_core.proofs.Starting.{AreStarts, fold_in}
use Rattle.tile_core.proofs.Settling.{goes_installed, ends_there, granted_mid, mid_stands, mid_starts, ended}
use Rattle.tile_core.proofs.Slots.{site_of, tile_of}
use Rattle.tile_core.proofs.Made.{alike_more, made_alike, load_part_inside, load_part_own, ends_alike, ended_alike, starts_alike}

-- an item of a front
taken : {X : Type 0} (i : ℕ) (xs : List X) (k : ℕ) (x : X) → slice_get (take i xs) k ≡ Some x → (slice_get xs k ≡ Some x) × (k < i)
taken zero xs k x there = absurd (none-some x there)
taken (suc i) [] k x there = absurd (none-some x there)
taken (suc i) (y ∷ xs) zero x there = (there, omega arith)
taken (suc i) (y ∷ xs) (suc k) x there =
    let rest = taken i xs k x there in
    (rest.0, let low = rest.1 in omega arith)

-- the grants before one are of other loads
front_labelled : (grants : List Grant) (i : ℕ) → AreLabelled grants → AreLabelled (take i grants)
front_labelled grants i labelled = λ a b d below inside same.
    let keyed = keyed_pairs (λ (g : Grant). g.label) grants labelled in
    let one = taken i grants a (get_or (take i grants) a d) (slice_get-get_or (take i grants) a d (omega arith)) in
    let other = taken i grants b (get_or (take i grants) b d) (slice_get-get_or (take i grants) b d inside) in
    let is : a ≡ b = keyed a b (get_or (take i grants) a d) (get_or (take i grants) b d) one.0 other.0 same in
    omega arith

front_untouched : (p : Grant → Bool) (grants : List Grant) (i : ℕ) (grant : Grant) (load : LoadName) → AreLabelled grants → slice_get grants i ≡ Some grant → grant.label ≡ load.label → touches p (take i grants) (Some load) ≡ false
front_untouched p grants i grant load labelled there same =
    let keyed = keyed_pairs (λ (g : Grant). g.label) grants labelled in
    untouched p load.label (take i grants) (λ k d inside equal.
    let one = taken i grants k (get_or (take i grants) k d) (slice_get-get_or (take i grants) k d inside) in
    let is : k ≡ i = keyed k i (get_or (take i grants) k d) grant one.0 there (sym equal ∙ sym same) in
    let low = one.1 in
    omega arith)

nothing : ℕ → PartState
nothing place = record { regs = fresh_registers 0; left = 0; bytes = []; ports = []; log = new_log 0 }

has_ports : (world : World) (loads : List LoadName) (t : TileState) (place : ℕ) (part : Part) → IsSoundCatalog world → IsMadeFor world loads t → load_part world t place ≡ Some part → HasPorts world t part
has_ports world loads t place part sound made is = record { within = (load_part_own world loads t place part sound made is).within; queues = made.queues }

-- the part of a grant that ends in the slot can leave, once those before it have
pub end_ready : (world : World) (schedule : Schedule) (t : TileState) (i : ℕ) (grant : Grant) → IsUnderway world schedule t → i < length schedule.grants.items → grant ≡ get_or schedule.grants.items i grant → ends_in t.at grant ≡ true → CanEnd world (fold (after_end world) t (filter (ends_in t.at) (take i schedule.grants.items))) grant
end_ready world schedule t i grant u inside is ends place part at_place part_is =
    let grants = schedule.grants.items in
    let slots = world.platform.partition_slots in
    let site = site_of world u.loads grants t u.sound u.apart u.of_loads u.made in
    let keyed = loads_keyed world u.loads t.loads grants t.number site in
    let front = take i grants in
    let there : slice_get grants i ≡ Some grant = slice_get-get_or grants i grant inside ∙ ap (λ (g : Grant). Some g) (sym is) in
    let R : (ℕ → Option ℕ) → (ℕ → PartState) → TileState → Type 0 = λ granted view s. AreInstalled slots (load_part world t) granted s in
    let so_far : AreThere (ends_in t.at) front t.loads (site_granted world grants t.at t.loads) = λ k g place load at_k. ends_there world u.loads t.loads grants t.number t.at site k g place load (taken i grants k g at_k).0 in
    let done = fold_out world t.number t.at t.loads 0 R (goes_installed world slots (load_part world t) 0) keyed (have_parts world u.loads t.loads grants t.number site) (ends_in t.at) front (site_granted world grants t.at t.loads) nothing t (front_labelled grants i u.apart.labelled) (tile_of world u.loads t u.made) so_far u.fits.parts in
    let s = fold (after_end world) t (filter (ends_in t.at) front) in
    let its_part : load_part world t place ≡ Some part = sym (parts_are world t.number t.at t.loads slots s place done.1) ∙ part_is in
    let found : position (λ (load : LoadName). same_label load.label grant.label) t.loads ≡ Some place = ap (position (λ (load : LoadName). same_label load.label grant.label)) (sym done.1.loads_are) ∙ at_place in
    let at = at_place_of (load_part world t) t.loads grant place (have_parts world u.loads t.loads grants t.number site) found in
    let start = ends_there world u.loads t.loads grants t.number t.at site i grant place at.load there ends at.there at.label in
    let first : touches (ends_in t.at) front (slice_get t.loads place) ≡ false = ap (touches (ends_in t.at) front) at.there ∙ front_untouched (ends_in t.at) grants i grant at.load u.apart.labelled there at.label in
    let placed = done.0.each place part start.0 its_part (ap (λ b. cond b None (site_granted world grants t.at t.loads place)) first ∙ start.1) in
    let made = made_alike world u.loads t s (ends_alike world u.loads (filter (ends_in t.at) front) t u.made) u.made in
    record { installed = placed.installed; numbered = read_inside s.places (number_of part) place placed.known; ports = has_ports world u.loads s place part u.sound.catalog made part_is }

-- the part of a grant that begins in the slot can come, once those before it have
pub begin_ready : (world : World) (schedule : Schedule) (t : TileState) (i : ℕ) (grant : Grant) → HasEnded world schedule t → i < length schedule.grants.items → grant ≡ get_or schedule.grants.items i grant → begins_in t.at grant ≡ true → CanBegin world (fold (after_start world) t (filter (begins_in t.at) (take i schedule.grants.items))) grant
begin_ready world schedule t i grant h inside is begins =
    let P : TileState → Type 0 = λ t. begins_in t.at grant ≡ true → CanBegin world (fold (after_start world) t (filter (begins_in t.at) (take i schedule.grants.items))) grant in
    subst P (sym h.is) (begin_after world schedule h.before i grant h.underway inside is) begins
  where
    begin_after : (world : World) (schedule : Schedule) (b : TileState) (i : ℕ) (grant : Grant) → IsUnderway world schedule b → i < length schedule.grants.items → grant ≡ get_or schedule.grants.items i grant → (let t = with_ends world schedule.grants.items b in begins_in t.at grant ≡ true → CanBegin world (fold (after_start world) t (filter (begins_in t.at) (take i schedule.grants.items))) grant)
    begin_after world schedule b i grant u inside is begins place part at_place part_is =
        let grants = schedule.grants.items in
        let t = with_ends world grants b in
        let slots = world.platform.partition_slots in
        let len = world.platform.slot_cycles in
        let site = site_of world u.loads grants b u.sound u.apart u.of_loads u.made in
        let parts = load_part world b in
        let front = take i grants in
        let there : slice_get grants i ≡ Some grant = slice_get-get_or grants i grant inside ∙ ap (λ (g : Grant). Some g) (sym is) in
        let alike = ended_alike world u.loads grants b u.made in
        let begins_b : begins_in b.at grant ≡ true = ap (λ (n : ℕ). begins_in n grant) (sym alike.at) ∙ begins in
        let R : (ℕ → Option ℕ) → (ℕ → PartState) → TileState → Type 0 = λ granted view s. AreInstalled slots parts granted s in
        let goes = goes_installed world slots parts (b.at * len) in
        let left = ended world u.loads b.loads grants b.number b.at (b.at * len) R nothing b site goes (tile_of world u.loads b u.made) u.fits.parts in
        let mid = granted_mid world grants b.at b.loads in
        let all_starts = mid_starts world u.loads b.loads grants b.number b.at site in
        let starts : AreStarts (begins_in b.at) front grants b.at b.loads mid = λ k g at_k. all_starts k g (taken i grants k g at_k).0 in
        let done = fold_in world b.number b.at b.loads u.loads grants b.at R site goes (begins_in b.at) front mid nothing t (front_labelled grants i u.apart.labelled) starts (record { holds = left.0; tile = left.1; standing = mid_stands world u.loads b.loads grants b.number b.at site }) in
        let s = fold (after_start world) t (filter (begins_in b.at) front) in
        let S : ℕ → Type 0 = λ n. (let s = fold (after_start world) t (filter (begins_in n) front) in load_place s grant.label ≡ Some place → load_part world s place ≡ Some part → CanCome world s part) in
        let come : S b.at = λ at_place part_is.
        let its_part : parts place ≡ Some part = sym (parts_are world b.number b.at b.loads slots s place done.tile) ∙ part_is in
        let found : position (λ (load : LoadName). same_label load.label grant.label) b.loads ≡ Some place = ap (position (λ (load : LoadName). same_label load.label grant.label)) (sym done.tile.loads_are) ∙ at_place in
        let at = at_place_of parts b.loads grant place (have_parts world u.loads b.loads grants b.number site) found in
        let start = all_starts i grant there begins_b in
        let first : touches (begins_in b.at) front (slice_get b.loads place) ≡ false = ap (touches (begins_in b.at) front) at.there ∙ front_untouched (begins_in b.at) grants i grant at.load u.apart.labelled there at.label in
        let absent = ap (λ c. cond c (Some (b.at * len)) (mid place)) first ∙ start.absent place at.load at.there at.label in
        let room = room_is world u.loads b.loads grants b.number b.at (b.at + 1) _ s grant place site (record { tile = done.tile; installed = done.holds; standing = done.standing }) (record { index = i; there = there; stands = start.stands; at = at; absent = absent }) in
        let made = made_alike world u.loads b s (alike_more b t s alike (starts_alike world u.loads (filter (begins_in b.at) front) t u.sound.catalog (made_alike world u.loads b t alike u.made))) u.made in
        let same : at.part ≡ part = same_Some at.part part (sym at.part_is ∙ its_part) in
        let C : Part → Type 0 = λ part. CanCome world s part in
        let low = number_inside slots parts _ s place at.part room.free in
        let frame : s.kernel.times.slots ≡ slots = ap (λ f. f.slots) made.frame in
        subst C same (record {
          some = room.free.some;
          below = subst (λ (n : ℕ). at.part.slots < 2 ^ n) (sym frame) room.free.below;
          free = room.free.free;
          inside = load_part_inside world u.loads s place at.part u.sound.catalog made (part_is ∙ ap (λ (p : Part). Some p) (sym same));
          image = room.image;
          numbered = let size = room.free.places in omega arith;
          ports = has_ports world u.loads s place at.part u.sound.catalog made (part_is ∙ ap (λ (p : Part). Some p) (sym same));
        }) in
        subst S (sym alike.at) come at_place part_is

-- the same in the words of the code's loops
pub end_ready_in : (world : World) (schedule : Schedule) (t now : TileState) (slot i : ℕ) (items : List Grant) (d : Grant) → items ≡ schedule.grants.items → slot ≡ t.at → now ≡ fold (after_end world) t (filter (ends_in t.at) (take i schedule.grants.items)) → IsUnderway world schedule t → i < length items → ends_in slot (get_or items i d) ≡ true → CanEnd world now (get_or items i d)
end_ready_in world schedule t now slot i items d are at is u inside ends =
    let g = get_or items i d in
    let own : g ≡ get_or schedule.grants.items i g = sym (get_or_from_slice_get items i g g (slice_get-get_or items i d inside)) ∙ ap (λ (xs : List Grant). get_or xs i g) are in
    let low : i < length schedule.grants.items = let size = ap (λ (xs : List Grant). length xs) are in omega arith in
    let P : TileState → Type 0 = λ s. CanEnd world s g in
    subst P (sym is) (end_ready world schedule t i g u low own (ap (λ (n : ℕ). ends_in n g) (sym at) ∙ ends))

pub begin_ready_in : (world : World) (schedule : Schedule) (t now : TileState) (slot i : ℕ) (items : List Grant) (d : Grant) → items ≡ schedule.grants.items → slot ≡ t.at → now ≡ fold (after_start world) t (filter (begins_in t.at) (take i schedule.grants.items)) → HasEnded world schedule t → i < length items → begins_in slot (get_or items i d) ≡ true → CanBegin world now (get_or items i d)
begin_ready_in world schedule t now slot i items d are at is h inside begins =
    let g = get_or items i d in
    let own : g ≡ get_or schedule.grants.items i g = sym (get_or_from_slice_get items i g g (slice_get-get_or items i d inside)) ∙ ap (λ (xs : List Grant). get_or xs i g) are in
    let low : i < length schedule.grants.items = let size = ap (λ (xs : List Grant). length xs) are in omega arith in
    let P : TileState → Type 0 = λ s. CanBegin world s g in
    subst P (sym is) (begin_ready world schedule t i g h low own (ap (λ (n : ℕ). begins_in n g) (sym at) ∙ begins))
