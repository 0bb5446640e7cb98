-- The ports of a part among those of its tile.
use Rattle.std.proofs.Common.{◌≡◌, ℕ, zero, suc, ◌<◌, ◌≤◌, ⊎_elim, nat_eq, List, [], ◌∷◌, length, map, get_or, replicate, slice_get, slice_set, Some, refl, sym, ap, ap₂, ◌∙◌, arith}
use Rattle.std.specs.List.{range_with_len}
use Rattle.std.proofs.lemmas.List.{set-set, set_comm, set-get_or, get_or-set_same, get_or-set_other, get_or-map, length-map, length-set, length-replicate, same_lists}
use Rattle.std.proofs.lemmas.List.FromFn.{fill_by_all}
use Rattle.std.proofs.lemmas.Map.Keys.{apart_from_distinct, IsDistinct-tail}
use Rattle.std.proofs.lemmas.Option.{none-some, same_Some, slice_get_within, get_or_from_slice_get}
use Rattle.std.proofs.lemmas.Bool.{cases_eq, cases_lt}
use Rattle.std.proofs.lemmas.Bool.Decides.{nat_tests}
use Rattle.ni_port.specs.SizedPort.{SizedPort}
use Rattle.tile_mmio.specs.Ports.{no_port, own_ports, put_ports, other_ports, AreOwn}

-- a port that is put at one of these numbers is lost when others are put at all of them
set_lost : (ports : List SizedPort) (numbers : List ℕ) (own : List SizedPort) (j number : ℕ) (port : SizedPort)
    → length own ≡ length numbers → slice_get numbers j ≡ Some number
    → put_ports (slice_set ports number port) numbers own ≡ put_ports ports numbers own
unfolding put_ports
set_lost ports [] own j number port size at = absurd (none-some number at)
set_lost ports (n ∷ numbers) [] j number port size at = absurd (omega (arith, size))
set_lost ports (n ∷ numbers) (own ∷ owns) zero number port size at =
    let here : number ≡ n = sym (same_Some n number at) in
    ap (λ (k : ℕ). put_ports (slice_set (slice_set ports k port) n own) numbers owns) here
    ∙ ap (λ (xs : List SizedPort). put_ports xs numbers owns) (set-set ports n port own)
set_lost ports (n ∷ numbers) (own ∷ owns) (suc j) number port size at =
    let same : number ≡ n → put_ports (slice_set (slice_set ports number port) n own) numbers owns ≡ put_ports (slice_set ports n own) numbers owns
    = λ here. ap (λ (k : ℕ). put_ports (slice_set (slice_set ports k port) n own) numbers owns) here ∙ ap (λ (xs : List SizedPort). put_ports xs numbers owns) (set-set ports n port own) in
    let other : (number ≡ n → ⊥) → put_ports (slice_set (slice_set ports number port) n own) numbers owns ≡ put_ports (slice_set ports n own) numbers owns
    = λ apart. ap (λ (xs : List SizedPort). put_ports xs numbers owns) (set_comm ports number n port own apart) ∙ set_lost (slice_set ports n own) numbers owns j number port (omega (arith, size)) at in
    ⊎_elim same other (cases_eq number n)

-- and so are ports at any of them
pub put_lost : (ports : List SizedPort) (inner : List ℕ) (placed : List SizedPort) (numbers : List ℕ) (own : List SizedPort)
    → length own ≡ length numbers
    → ((j number : ℕ) → slice_get inner j ≡ Some number → (k : ℕ) × (slice_get numbers k ≡ Some number))
    → put_ports (put_ports ports inner placed) numbers own ≡ put_ports ports numbers own
unfolding put_ports
put_lost ports [] placed numbers own size among = refl
put_lost ports (n ∷ inner) [] numbers own size among = refl
put_lost ports (n ∷ inner) (port ∷ placed) numbers own size among =
    let at = among 0 n refl in
    put_lost (slice_set ports n port) inner placed numbers own size (λ j number found. among (suc j) number found)
    ∙ set_lost ports numbers own at.0 n port size at.1

-- own ports put among the tile's others are put among its ports
pub put_others : (ports : List SizedPort) (numbers : List ℕ) (own : List SizedPort) → length own ≡ length numbers
    → put_ports (other_ports ports numbers) numbers own ≡ put_ports ports numbers own
unfolding other_ports
put_others ports numbers own size =
    put_lost ports numbers (replicate (length numbers) no_port) numbers own size (λ j number found. (j, found))

-- the part's own ports put where they are change nothing
pub put_same : (ports : List SizedPort) (numbers : List ℕ) → put_ports ports numbers (own_ports ports numbers) ≡ ports
unfolding put_ports own_ports
put_same ports [] = refl
put_same ports (n ∷ numbers) =
    ap (λ (xs : List SizedPort). put_ports xs numbers (map (λ number. get_or ports number no_port) numbers)) (set-get_or ports n no_port)
    ∙ put_same ports numbers

pub length-own_ports : (ports : List SizedPort) (numbers : List ℕ) → length (own_ports ports numbers) ≡ length numbers
unfolding own_ports
length-own_ports ports numbers = length-map numbers (λ number. get_or ports number no_port)

pub length-put_ports : (ports : List SizedPort) (numbers : List ℕ) (own : List SizedPort) → length (put_ports ports numbers own) ≡ length ports
unfolding put_ports
length-put_ports ports [] own = refl
length-put_ports ports (n ∷ numbers) [] = refl
length-put_ports ports (n ∷ numbers) (port ∷ own) = length-put_ports (slice_set ports n port) numbers own ∙ length-set ports n port

length-other_ports : (ports : List SizedPort) (numbers : List ℕ) → length (other_ports ports numbers) ≡ length ports
unfolding other_ports
length-other_ports ports numbers = length-put_ports ports numbers (replicate (length numbers) no_port)

-- where the tile's other ports are as before, all of its ports are as before but for the part's own
pub ports_after : (before after : List SizedPort) (numbers : List ℕ) → other_ports after numbers ≡ other_ports before numbers
    → after ≡ put_ports before numbers (own_ports after numbers)
ports_after before after numbers kept =
    let own = own_ports after numbers in
    let size = length-own_ports after numbers in
    sym (put_same after numbers) ∙ sym (put_others after numbers own size)
    ∙ ap (λ (xs : List SizedPort). put_ports xs numbers own) kept ∙ put_others before numbers own size

-- a port of the part's in another state leaves the tile's others
pub others_kept : (ports : List SizedPort) (numbers : List ℕ) (j number : ℕ) (port : SizedPort) → slice_get numbers j ≡ Some number
    → other_ports (slice_set ports number port) numbers ≡ other_ports ports numbers
unfolding other_ports
others_kept ports numbers j number port at =
    set_lost ports numbers (replicate (length numbers) no_port) j number port (length-replicate (length numbers) no_port) at

-- numbers of ports are so as long as the others are as they were
pub own_kept : (before after : List SizedPort) (numbers : List ℕ) → other_ports after numbers ≡ other_ports before numbers
    → AreOwn before numbers → AreOwn after numbers
own_kept before after numbers kept own =
    let size : length before ≡ length after = sym (length-other_ports before numbers) ∙ ap length (sym kept) ∙ length-other_ports after numbers in
    record { within = λ k d below. rw (← size) (own.within k d below); apart = own.apart }

-- no number stands at two places
no_twin : (ports : List SizedPort) (numbers : List ℕ) (k j : ℕ) → AreOwn ports numbers → k < length numbers → j < length numbers
    → (k ≡ j → ⊥) → get_or numbers k 0 ≡ get_or numbers j 0 → ⊥
no_twin ports numbers k j own below within apart same =
    let first : k < j → ⊥ = λ before. grind (arith, nat_tests, same, apart_from_distinct nat_eq numbers k j 0 own.apart before within) in
    let second : j < k → ⊥ = λ before. grind (arith, nat_tests, same, apart_from_distinct nat_eq numbers j k 0 own.apart before below) in
    ⊎_elim first (λ (after : j ≤ k). second (omega (arith, after, apart))) (cases_lt k j)

-- each of the part's ports, as the tile has it
pub own_at : (ports : List SizedPort) (numbers : List ℕ) (k : ℕ) (d : SizedPort) → k < length numbers
    → get_or (own_ports ports numbers) k d ≡ get_or ports (get_or numbers k 0) no_port
unfolding own_ports
own_at ports numbers k d below = get_or-map (λ number. get_or ports number no_port) numbers k 0 d below

-- a port of the part's in another state, as the part sees it
pub own_set : (ports : List SizedPort) (numbers : List ℕ) (j number : ℕ) (port : SizedPort) → AreOwn ports numbers
    → slice_get numbers j ≡ Some number
    → own_ports (slice_set ports number port) numbers ≡ slice_set (own_ports ports numbers) j port
own_set ports numbers j number port own at = same_lists (own_ports (slice_set ports number port) numbers) (slice_set (own_ports ports numbers) j port) size each
  where
    within : j < length numbers
    within = slice_get_within numbers j number at

    is : get_or numbers j 0 ≡ number
    is = get_or_from_slice_get numbers j number 0 at

    count : length (own_ports (slice_set ports number port) numbers) ≡ length numbers
    count = length-own_ports (slice_set ports number port) numbers

    size : length (own_ports (slice_set ports number port) numbers) ≡ length (slice_set (own_ports ports numbers) j port)
    size = count ∙ sym (length-own_ports ports numbers) ∙ sym (length-set (own_ports ports numbers) j port)

    inside : number < length ports
    inside = rw is at (own.within j 0 within)

    place : j < length (own_ports ports numbers)
    place = rw (length-own_ports ports numbers) within

    each : (k : ℕ) (d : SizedPort) → k < length (own_ports (slice_set ports number port) numbers)
        → get_or (own_ports (slice_set ports number port) numbers) k d ≡ get_or (slice_set (own_ports ports numbers) j port) k d
    each k d below = own_at (slice_set ports number port) numbers k d short ∙ ⊎_elim same other (cases_eq k j)
      where
        short : k < length numbers
        short = rw count at below

        same : k ≡ j → get_or (slice_set ports number port) (get_or numbers k 0) no_port ≡ get_or (slice_set (own_ports ports numbers) j port) k d
        same e = rw (e, is, get_or-set_same ports number port no_port inside, get_or-set_same (own_ports ports numbers) j port d place) refl

        other : (k ≡ j → ⊥) → get_or (slice_set ports number port) (get_or numbers k 0) no_port ≡ get_or (slice_set (own_ports ports numbers) j port) k d
        other apart =
            get_or-set_other ports number (get_or numbers k 0) port no_port (λ same. no_twin ports numbers k j own short within apart (same ∙ sym is))
            ∙ sym (own_at ports numbers k d short)
            ∙ sym (get_or-set_other (own_ports ports numbers) j k port d apart)

-- all ports of a tile, by their numbers, are its ports
pub own_all : (ports : List SizedPort) → own_ports ports (range_with_len 0 (length ports)) ≡ ports
unfolding own_ports
own_all ports =
    sym (fill_by_all (λ (number : ℕ). get_or ports number no_port) ports (length ports) no_port refl (λ k below. refl))

-- the tile's port of another number than these
pub put_elsewhere : (ports : List SizedPort) (numbers : List ℕ) (own : List SizedPort) (number : ℕ) (d : SizedPort)
    → ((k : ℕ) → k < length numbers → get_or numbers k 0 ≡ number → ⊥)
    → get_or (put_ports ports numbers own) number d ≡ get_or ports number d
unfolding put_ports
put_elsewhere ports [] own number d apart = refl
put_elsewhere ports (n ∷ numbers) [] number d apart = refl
put_elsewhere ports (n ∷ numbers) (port ∷ own) number d apart =
    put_elsewhere (slice_set ports n port) numbers own number d (λ k below. apart (suc k) (omega (arith, below)))
    ∙ get_or-set_other ports n number port d (λ same. apart 0 (omega arith) (sym same))

-- own ports that were put in their places are the part's
pub own_put : (ports : List SizedPort) (numbers : List ℕ) (own : List SizedPort) → AreOwn ports numbers → length own ≡ length numbers
    → own_ports (put_ports ports numbers own) numbers ≡ own
unfolding own_ports put_ports
own_put ports [] [] are size = refl
own_put ports [] (port ∷ own) are size = absurd (omega (arith, size))
own_put ports (n ∷ numbers) [] are size = absurd (omega (arith, size))
own_put ports (n ∷ numbers) (port ∷ own) are size =
    let inside : n < length ports = are.within 0 0 (omega arith) in
    let apart : (k : ℕ) → k < length numbers → get_or numbers k 0 ≡ n → ⊥
    = λ k below same. no_twin ports (n ∷ numbers) (suc k) 0 are (omega (arith, below)) (omega arith) (λ e. absurd (omega (arith, e))) same in
    let rest : AreOwn (slice_set ports n port) numbers = record {
      within = λ k d below. rw (length-set ports n port) (are.within (suc k) d (omega (arith, below)));
      apart = IsDistinct-tail nat_eq n numbers are.apart;
    } in
    let first = put_elsewhere (slice_set ports n port) numbers own n no_port apart ∙ get_or-set_same ports n port no_port inside in
    ap₂ (λ (p : SizedPort) (ps : List SizedPort). p ∷ ps) first (own_put (slice_set ports n port) numbers own rest (omega (arith, size)))

-- ports of another part of the tile
pub others_own : (ports : List SizedPort) (numbers : List ℕ) (own : List SizedPort) (theirs : List ℕ)
    → ((k j : ℕ) → k < length numbers → j < length theirs → get_or numbers k 0 ≡ get_or theirs j 0 → ⊥)
    → own_ports (put_ports ports numbers own) theirs ≡ own_ports ports theirs
unfolding own_ports
others_own ports numbers own [] apart = refl
others_own ports numbers own (n ∷ theirs) apart =
    let first = put_elsewhere ports numbers own n no_port (λ k below. apart k 0 below (omega arith)) in
    ap₂ (λ (p : SizedPort) (ps : List SizedPort). p ∷ ps) first (others_own ports numbers own theirs (λ k j below within. apart k (suc j) below (omega (arith, within))))
