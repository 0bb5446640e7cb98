-- What is installed on a tile after a part has left, after one has come, and after words have changed.
use Rattle.std.proofs.Common.{◌≡◌, ◌≢◌, ℕ, ◌^◌, ◌<◌, ◌==◌, Bool, true, false, cond, ◌&&◌, nat_lt, List, get_or, slice_set, length, Option, Some, None, IsSome, refl, sym, subst, ap, ◌∙◌, inl, inr, arith}
use Rattle.std.specs.Int.{bit_at}
use Rattle.std.proofs.lemmas.Bool.{false≢true, cases_eq, cases_lt, cases_Bool, eq-eqb, ne_eqb, eqb-true, lt-ltb, and_parts}
use Rattle.std.proofs.lemmas.Nat.Bits.{bit_at_above}
use Rattle.std.proofs.lemmas.List.{get_or-set_same, get_or-set_other, get_or_past}
use Rattle.std.proofs.lemmas.Option.{same_Some, none-some}
use Rattle.bundle_model.specs.declared.bundle.Part.{Part}
use Rattle.bundle_model.specs.declared.world.World.{World}
use Rattle.comik.specs.Kernel.{AreFree, IsInstalled, owner_at, has, without}
use Rattle.comik.specs.Parts.{prepared}
use Rattle.comik.proofs.Laws.{claimed_at, freed_at, least_is_in, least_below, installed_apart, still_installed}
use Rattle.tile_core.specs.Tile.{TileState, number_of, place_at}
use Rattle.tile_core.specs.Slot.{removed, installed}
use Rattle.tile_core.specs.Fit.{IsPlaced, IsNumberOf, AreInstalled}

-- what is told of the places has a new value at one of them, and stays at all others
pub record IsChangedAt {X : Type 0} (old new : ℕ → X) (place : ℕ) (value : X) : Type 0 where
  pub now : new place ≡ value
  pub stay : (other : ℕ) → other ≢ place → new other ≡ old other

-- the load at a place has this part, and is granted from a cycle on
pub record IsGrantedPart (parts : ℕ → Option Part) (granted : ℕ → Option ℕ) (place : ℕ) (part : Part) (start : ℕ) : Type 0 where
  pub part_is : parts place ≡ Some part
  pub start_is : granted place ≡ Some start

-- the value that is there
pub the_value : (found : Option ℕ) → IsSome found → (value : ℕ) × (found ≡ Some value)
the_value None some = absurd (false≢true some)
the_value (Some value) some = (value, refl)

-- a tile that differs in what is in its memory, words and logs
pub installed_same : (slots : ℕ) (parts : ℕ → Option Part) (granted : ℕ → Option ℕ) (t after : TileState) → after.places ≡ t.places → after.kernel.owners ≡ t.kernel.owners → AreInstalled slots parts granted t → AreInstalled slots parts granted after
installed_same slots parts granted t after places owners i = record {
  each = λ place part start is begins.
      let one = i.each place part start is begins in
      record {
        known = ap (λ (ps : List (Option ℕ)). get_or ps (number_of part) None) places ∙ one.known;
        installed = ap (λ (os : List (Option ℕ)). get_or os (number_of part) None) owners ∙ one.installed;
        owns = λ slot low. ap (λ (os : List (Option ℕ)). has (number_of part) (get_or os slot None)) owners ∙ one.owns slot low;
      };
  known = λ number place is. i.known number place (sym (ap (λ (ps : List (Option ℕ)). get_or ps number None) places) ∙ is);
  owned = λ slot number is.
      subst (λ (o : Option ℕ). IsSome o) (sym (ap (λ (ps : List (Option ℕ)). get_or ps number None) places))
      (i.owned slot number (sym (ap (λ (os : List (Option ℕ)). get_or os slot None) owners) ∙ is));
}

-- the same cycles told by another function
pub installed_by : (slots : ℕ) (parts : ℕ → Option Part) (granted later : ℕ → Option ℕ) (t : TileState) → ((place : ℕ) → later place ≡ granted place) → AreInstalled slots parts granted t → AreInstalled slots parts later t
installed_by slots parts granted later t same i = record {
  each = λ place part start is begins. i.each place part start is (sym (same place) ∙ begins);
  known = λ number place is.
      let m = i.known number place is in
      record { part = m.part; start = m.start; part_is = m.part_is; start_is = same place ∙ m.start_is; number_is = m.number_is };
  owned = i.owned;
}

-- the part of an owner
pub record IsOwner (slots : ℕ) (parts : ℕ → Option Part) (granted : ℕ → Option ℕ) (t : TileState) (number : ℕ) : Type 0 where
  pub place : ℕ
  pub is : IsNumberOf parts granted place number
  pub at_place : place_at t number ≡ Some place
  pub placed : IsPlaced slots t place is.part

pub owner_is : (slots : ℕ) (parts : ℕ → Option Part) (granted : ℕ → Option ℕ) (t : TileState) (slot number : ℕ) → AreInstalled slots parts granted t → owner_at t.kernel slot ≡ Some number → IsOwner slots parts granted t number
owner_is slots parts granted t slot number i owns =
    let at = the_value (place_at t number) (i.owned slot number owns) in
    let m = i.known number at.0 at.1 in
    record { place = at.0; is = m; at_place = at.1; placed = i.each at.0 m.part m.start m.part_is m.start_is }

-- a part that stays keeps its slots
pub has_without : (n part : ℕ) (place : Option ℕ) → n ≢ part → has n (without part place) ≡ has n place
has_without n part None apart = refl
has_without n part (Some other) apart = elim (cases_eq other part) [
  | inl same ↦
      ap (λ b. has n (cond b None (Some other))) (eq-eqb other part same) ∙ sym (ne_eqb other n (λ e. apart (sym e ∙ same)))
  | inr differs ↦ ap (λ b. has n (cond b None (Some other))) (ne_eqb other part differs)
]

pub without_is : (part : ℕ) (place : Option ℕ) (number : ℕ) → without part place ≡ Some number → (place ≡ Some number) × (number ≢ part)
without_is part None number e = absurd (none-some number e)
without_is part (Some other) number e = elim (cases_eq other part) [
  | inl same ↦ absurd (none-some number (sym (ap (λ b. cond b None (Some other)) (eq-eqb other part same)) ∙ e))
  | inr differs ↦
      let kept : Some other ≡ Some number = sym (ap (λ b. cond b None (Some other)) (ne_eqb other part differs)) ∙ e in
      (kept, λ n. differs (same_Some other number kept ∙ n))
]

-- a place that was read is one of the list
pub read_inside : (places : List (Option ℕ)) (n place : ℕ) → get_or places n None ≡ Some place → n < length places
read_inside places n place is = elim (cases_lt n (length places)) [
  | inl inside ↦ inside
  | inr past ↦ absurd (none-some place (sym (get_or_past places n None past) ∙ is))
]

-- two installed loads have two numbers
pub numbers_apart : (slots : ℕ) (t : TileState) (i j : ℕ) (one other : Part) → IsPlaced slots t i one → IsPlaced slots t j other → j ≢ i → number_of other ≢ number_of one
numbers_apart slots t i j one other a b apart = λ same. apart (same_Some j i (sym b.known ∙ ap (place_at t) same ∙ a.known))

-- a part leaves
pub installed_removed : (world : World) (slots : ℕ) (parts : ℕ → Option Part) (granted later : ℕ → Option ℕ) (t : TileState) (i : ℕ) (part : Part) (start : ℕ) → AreInstalled slots parts granted t → IsGrantedPart parts granted i part start → IsChangedAt granted later i None → AreInstalled slots parts later (removed world t part)
installed_removed world slots parts granted later t i part start h own gone =
    let k = t.kernel in
    let p = number_of part in
    let one = h.each i part start own.part_is own.start_is in
    let inside : p < length t.places = read_inside t.places p i one.known in
    let apart_of : (place : ℕ) (s : ℕ) → later place ≡ Some s → place ≢ i = λ place s begins e. none-some s (sym gone.now ∙ ap later (sym e) ∙ begins) in
    record {
      each = λ place q s is begins.
          let apart = apart_of place s begins in
          let there = h.each place q s is (sym (gone.stay place apart) ∙ begins) in
          let n = number_of q in
          let differs = numbers_apart slots t i place part q one there apart in
          record {
            known = get_or-set_other t.places p n None None differs ∙ there.known;
            installed = freed_at p k.owners n ∙ ap (without p) there.installed ∙ ap (λ b. cond b None (Some n)) (ne_eqb n p differs);
            owns = λ slot low. ap (has n) (freed_at p k.owners slot) ∙ has_without n p (owner_at k slot) differs ∙ there.owns slot low;
          };
      known = λ number place is. elim (cases_eq number p) [
        | inl same ↦ absurd (none-some place (sym (get_or-set_same t.places p None None inside) ∙ ap (λ n. get_or (slice_set t.places p None) n None) (sym same) ∙ is))
        | inr differs ↦
            let was : place_at t number ≡ Some place = sym (get_or-set_other t.places p number None None differs) ∙ is in
            let m = h.known number place was in
            let apart : place ≢ i = λ e.
            let same : m.part ≡ part = same_Some m.part part (sym m.part_is ∙ ap parts e ∙ own.part_is) in
            differs (sym m.number_is ∙ ap number_of same) in
            record { part = m.part; start = m.start; part_is = m.part_is; start_is = gone.stay place apart ∙ m.start_is; number_is = m.number_is }
      ];
      owned = λ slot number is.
          let was = without_is p (owner_at k slot) number (sym (freed_at p k.owners slot) ∙ is) in
          subst (λ (o : Option ℕ). IsSome o) (sym (get_or-set_other t.places p number None None was.1)) (h.owned slot number was.0);
    }

-- what a part that comes needs of what is installed
pub record IsFree (slots : ℕ) (parts : ℕ → Option Part) (granted : ℕ → Option ℕ) (t : TileState) (place : ℕ) (part : Part) : Type 0 where
  pub part_is : parts place ≡ Some part
  pub absent : granted place ≡ None
  pub some : 0 < part.slots
  pub fits : part.slots < 65536
  pub below : part.slots < 2 ^ slots
  pub free : AreFree t.kernel part.slots
  pub owners : length t.kernel.owners ≡ slots
  pub places : length t.places ≡ slots

-- its number is below the number of slots
pub number_inside : (slots : ℕ) (parts : ℕ → Option Part) (granted : ℕ → Option ℕ) (t : TileState) (place : ℕ) (part : Part) → IsFree slots parts granted t place part → number_of part < slots
number_inside slots parts granted t place part room = least_below part.slots slots room.some room.fits room.below

-- an owner has another number
pub owner_apart : (slots : ℕ) (parts : ℕ → Option Part) (granted : ℕ → Option ℕ) (t : TileState) (place : ℕ) (part : Part) (slot number : ℕ) → AreInstalled slots parts granted t → IsFree slots parts granted t place part → owner_at t.kernel slot ≡ Some number → number ≢ number_of part
owner_apart slots parts granted t place part slot number h room owns =
    let owner = owner_is slots parts granted t slot number h owns in
    let here : IsInstalled t.kernel number = subst (IsInstalled t.kernel) owner.is.number_is owner.placed.installed in
    installed_apart t.kernel part.slots number room.some room.fits room.free here

nobody_has : (slots : ℕ) (parts : ℕ → Option Part) (granted : ℕ → Option ℕ) (t : TileState) (place : ℕ) (part : Part) (slot : ℕ) (owner : Option ℕ) → AreInstalled slots parts granted t → IsFree slots parts granted t place part → owner_at t.kernel slot ≡ owner → has (number_of part) owner ≡ false
nobody_has slots parts granted t place part slot None h room is = refl
nobody_has slots parts granted t place part slot (Some n) h room is =
    ne_eqb n (number_of part) (owner_apart slots parts granted t place part slot n h room is)

-- a part comes
pub installed_installed : (world : World) (slots : ℕ) (parts : ℕ → Option Part) (granted later : ℕ → Option ℕ) (t : TileState) (i : ℕ) (part : Part) (start : ℕ) → AreInstalled slots parts granted t → IsFree slots parts granted t i part → IsChangedAt granted later i (Some start) → AreInstalled slots parts later (installed world t i part)
installed_installed world slots parts granted later t i part start h room begun =
    let k = t.kernel in
    let p = number_of part in
    let kernel = prepared k part.slots part.entry in
    let low_p : p < slots = number_inside slots parts granted t i part room in
    let in_places : p < length t.places = let size = room.places in omega arith in
    let in_owners : (slot : ℕ) → slot < slots → nat_lt slot (length k.owners) ≡ true = λ slot low. lt-ltb slot (length k.owners) (let size = room.owners in omega arith) in
    let was_absent : (place s : ℕ) → granted place ≡ Some s → place ≢ i = λ place s begins e. none-some s (sym room.absent ∙ ap granted (sym e) ∙ begins) in
    let own_owns : (slot : ℕ) → slot < slots → has p (owner_at kernel slot) ≡ (bit_at part.slots slot == 1) = λ slot low.
    let none : has p (owner_at k slot) ≡ false = nobody_has slots parts granted t i part slot (owner_at k slot) h room refl in
    let both : (b : Bool) → has p (cond b (Some p) (owner_at k slot)) ≡ b = λ b. elim b as (λ b. has p (cond b (Some p) (owner_at k slot)) ≡ b) [ true ↦ eq-eqb p p refl | false ↦ none ] in
    ap (has p) (claimed_at part.slots p k.owners slot)
    ∙ ap (λ b. has p (cond (b && bit_at part.slots slot == 1) (Some p) (owner_at k slot))) (in_owners slot low)
    ∙ both (bit_at part.slots slot == 1) in
    let other_owns : (n slot : ℕ) → n ≢ p → has n (owner_at kernel slot) ≡ has n (owner_at k slot) = λ n slot differs.
    ap (has n) (claimed_at part.slots p k.owners slot)
    ∙ elim (cases_Bool (nat_lt slot (length k.owners) && bit_at part.slots slot == 1)) [
      | inl taken ↦
          let bit : bit_at part.slots slot ≡ 1 = eqb-true (bit_at part.slots slot) 1 (and_parts (nat_lt slot (length k.owners)) (bit_at part.slots slot == 1) taken).1 in
          ap (λ b. has n (cond b (Some p) (owner_at k slot))) taken ∙ ne_eqb p n (λ e. differs (sym e)) ∙ sym (ap (has n) (room.free slot bit))
      | inr left ↦ ap (λ b. has n (cond b (Some p) (owner_at k slot))) left
    ] in
    let bit_p : bit_at part.slots p ≡ 1 = least_is_in part.slots room.some room.fits in
    let own : IsPlaced slots (installed world t i part) i part = record {
      known = get_or-set_same t.places p (Some i) None in_places;
      installed = claimed_at part.slots p k.owners p ∙ ap (λ b. cond (b && bit_at part.slots p == 1) (Some p) (owner_at k p)) (in_owners p low_p) ∙ ap (λ b. cond b (Some p) (owner_at k p)) (eq-eqb (bit_at part.slots p) 1 bit_p);
      owns = own_owns;
    } in
    record {
      each = λ place q s is begins. elim (cases_eq place i) [
        | inl same ↦
            let q_is : part ≡ q = same_Some part q (sym room.part_is ∙ ap parts (sym same) ∙ is) in
            subst (λ (x : Part). IsPlaced slots (installed world t i part) place x) q_is (subst (λ (n : ℕ). IsPlaced slots (installed world t i part) n part) (sym same) own)
        | inr apart ↦
            let there = h.each place q s is (sym (begun.stay place apart) ∙ begins) in
            let n = number_of q in
            let differs : n ≢ p = installed_apart k part.slots n room.some room.fits room.free there.installed in
            record {
              known = get_or-set_other t.places p n (Some i) None differs ∙ there.known;
              installed = still_installed k part.slots part.entry n room.free there.installed;
              owns = λ slot low. other_owns n slot differs ∙ there.owns slot low;
            }
      ];
      known = λ number place is. elim (cases_eq number p) [
        | inl same ↦
            let here : i ≡ place = same_Some i place (sym (get_or-set_same t.places p (Some i) None in_places) ∙ ap (λ n. get_or (slice_set t.places p (Some i)) n None) (sym same) ∙ is) in
            record { part = part; start = start; part_is = ap parts (sym here) ∙ room.part_is; start_is = ap later (sym here) ∙ begun.now; number_is = sym same }
        | inr differs ↦
            let m = h.known number place (sym (get_or-set_other t.places p number (Some i) None differs) ∙ is) in
            record { part = m.part; start = m.start; part_is = m.part_is; start_is = begun.stay place (was_absent place m.start m.start_is) ∙ m.start_is; number_is = m.number_is }
      ];
      owned = λ slot number is. elim (cases_Bool (nat_lt slot (length k.owners) && bit_at part.slots slot == 1)) [
        | inl taken ↦
            let number_is : p ≡ number = same_Some p number (sym (ap (λ b. cond b (Some p) (owner_at k slot)) taken) ∙ sym (claimed_at part.slots p k.owners slot) ∙ is) in
            subst (λ (o : Option ℕ). IsSome o) (sym (ap (place_at (installed world t i part)) (sym number_is) ∙ get_or-set_same t.places p (Some i) None in_places)) refl
        | inr left ↦
            let was : owner_at k slot ≡ Some number = sym (ap (λ b. cond b (Some p) (owner_at k slot)) left) ∙ sym (claimed_at part.slots p k.owners slot) ∙ is in
            let differs = owner_apart slots parts granted t i part slot number h room was in
            subst (λ (o : Option ℕ). IsSome o) (sym (get_or-set_other t.places p number (Some i) None differs)) (h.owned slot number was)
      ];
    }

-- partition slots that no installed part has are free
free_at : (slots : ℕ) (parts : ℕ → Option Part) (granted : ℕ → Option ℕ) (t : TileState) (slot : ℕ) (owner : Option ℕ) → AreInstalled slots parts granted t → slot < slots → owner_at t.kernel slot ≡ owner → ((place : ℕ) (q : Part) (s : ℕ) → parts place ≡ Some q → granted place ≡ Some s → bit_at q.slots slot ≡ 1 → ⊥) → owner ≡ None
free_at slots parts granted t slot None h low is apart = refl
free_at slots parts granted t slot (Some n) h low is apart =
    let owner = owner_is slots parts granted t slot n h is in
    let q = owner.is.part in
    let owned : has (number_of q) (owner_at t.kernel slot) ≡ true = ap (has (number_of q)) is ∙ eq-eqb n (number_of q) (sym owner.is.number_is) in
    let bit : bit_at q.slots slot ≡ 1 = eqb-true (bit_at q.slots slot) 1 (sym (owner.placed.owns slot low) ∙ owned) in
    absurd (apart owner.place q owner.is.start owner.is.part_is owner.is.start_is bit)

pub room_free : (count : ℕ) (parts : ℕ → Option Part) (granted : ℕ → Option ℕ) (t : TileState) (slots : ℕ) → AreInstalled count parts granted t → slots < 2 ^ count → ((place : ℕ) (q : Part) (s slot : ℕ) → parts place ≡ Some q → granted place ≡ Some s → bit_at slots slot ≡ 1 → bit_at q.slots slot ≡ 1 → ⊥) → AreFree t.kernel slots
room_free count parts granted t slots h below apart = λ slot bit. elim (cases_lt slot count) [
  | inl low ↦ free_at count parts granted t slot (owner_at t.kernel slot) h low refl (λ place q s is begins there. apart place q s slot is begins bit there)
  | inr past ↦
      let none = bit_at_above slots count slot below past in
      absurd (omega arith)
]
