-- Ports by their numbers.
use Rattle.std.proofs.Common.{◌≡◌, ℕ, zero, suc, ◌+◌, ◌<◌, ◌≤◌, Bool, true, false, cond, ◌==◌, List, [], ◌∷◌, ◌++◌, map, length, take, drop, get_or, slice_get, slice_set, Some, None, refl, sym, ap, ap₂, ◌∙◌, arith}
use Rattle.std.specs.List.{position, position_or_len, range_with_len}
use Rattle.std.proofs.lemmas.List.{map-id}
use Rattle.std.proofs.lemmas.List.FromFn.{map-range_with_len_more}
use Rattle.std.proofs.lemmas.List.{map_more}
use Rattle.std.proofs.lemmas.List.Sums.{fails_before_first}
use Rattle.std.proofs.lemmas.List.Quantifiers.{position-Some}
use Rattle.std.proofs.lemmas.Grind.{common_steps}
use Rattle.std.proofs.lemmas.Bool.{eq-eqb}
use Rattle.soc_base.specs.Port.{PortState, free_port, inject, inject_from}
use Rattle.ni_port.specs.SizedPort.{SizedPort, granted_sized}
use Rattle.alone_model.specs.Network.{AppPart, each_port, with_ports, port_among}

-- what a loop that changes ports one by one hasn't come to
rest_at : (f : ℕ → SizedPort → SizedPort) (numbers : List ℕ) (old : List SizedPort) (i : ℕ) (d : SizedPort)
    → length old ≡ length numbers → i < length old
    → get_or (each_port f (take i numbers) (take i old) ++ drop i old) i d ≡ get_or old i d
rest_at f [] [] i d long inside = absurd (omega arith)
rest_at f [] (q ∷ old) i d long inside = absurd (omega arith)
rest_at f (m ∷ numbers) [] i d long inside = absurd (omega arith)
rest_at f (m ∷ numbers) (q ∷ old) zero d long inside = refl
rest_at f (m ∷ numbers) (q ∷ old) (suc i) d long inside = rest_at f numbers old i d (omega arith) (omega arith)

-- and its next change
each_port_step : (f : ℕ → SizedPort → SizedPort) (numbers : List ℕ) (old : List SizedPort) (i : ℕ) (d : SizedPort)
    → length old ≡ length numbers → i < length old
    → slice_set (each_port f (take i numbers) (take i old) ++ drop i old) i (f (get_or numbers i 0) (get_or old i d))
    ≡ each_port f (take (suc i) numbers) (take (suc i) old) ++ drop (suc i) old
each_port_step f [] [] i d long inside = absurd (omega arith)
each_port_step f [] (q ∷ old) i d long inside = absurd (omega arith)
each_port_step f (m ∷ numbers) [] i d long inside = absurd (omega arith)
each_port_step f (m ∷ numbers) (q ∷ old) zero d long inside = refl
each_port_step f (m ∷ numbers) (q ∷ old) (suc i) d long inside =
    ap (λ (ports : List SizedPort). f m q ∷ ports) (each_port_step f numbers old i d (omega arith) (omega arith))

pub each_port_more : (f : ℕ → SizedPort → SizedPort) (numbers : List ℕ) (old ports : List SizedPort) (i : ℕ) (d q : SizedPort)
    → length old ≡ length numbers → i < length old → ports ≡ each_port f (take i numbers) (take i old) ++ drop i old
    → q ≡ f (get_or numbers i 0) (get_or ports i d)
    → slice_set ports i q ≡ each_port f (take (i + 1) numbers) (take (i + 1) old) ++ drop (i + 1) old
each_port_more f numbers old ports i d q long inside so_far changed =
    let e : suc i ≡ i + 1 = omega arith in
    let here : get_or ports i d ≡ get_or old i d = ap (λ (ps : List SizedPort). get_or ps i d) so_far ∙ rest_at f numbers old i d long inside in
    ap₂ (λ (ps : List SizedPort) (r : SizedPort). slice_set ps i r) so_far (changed ∙ ap (f (get_or numbers i 0)) here)
    ∙ each_port_step f numbers old i d long inside
    ∙ ap (λ k. each_port f (take k numbers) (take k old) ++ drop k old) e

-- changes that agree
pub each_port_same : (f g : ℕ → SizedPort → SizedPort) (numbers : List ℕ) (ports : List SizedPort)
    → ((n : ℕ) (p : SizedPort) → f n p ≡ g n p) → each_port f numbers ports ≡ each_port g numbers ports
each_port_same f g [] ports same = refl
each_port_same f g (n ∷ numbers) [] same = refl
each_port_same f g (n ∷ numbers) (p ∷ ports) same =
    ap₂ (λ (q : SizedPort) (qs : List SizedPort). q ∷ qs) (same n p) (each_port_same f g numbers ports same)

-- a change that changes nothing
pub each_port_still : (f : ℕ → SizedPort → SizedPort) (numbers : List ℕ) (ports : List SizedPort)
    → ((n : ℕ) (p : SizedPort) → f n p ≡ p) → length ports ≡ length numbers → each_port f numbers ports ≡ ports
each_port_still f [] [] still long = refl
each_port_still f [] (p ∷ ports) still long = absurd (omega arith)
each_port_still f (n ∷ numbers) [] still long = refl
each_port_still f (n ∷ numbers) (p ∷ ports) still long =
    ap₂ (λ (q : SizedPort) (qs : List SizedPort). q ∷ qs) (still n p) (each_port_still f numbers ports still (omega arith))

pub each_port_length : (f : ℕ → SizedPort → SizedPort) (numbers : List ℕ) (ports : List SizedPort) → length ports ≡ length numbers
    → length (each_port f numbers ports) ≡ length numbers
each_port_length f [] ports long = refl
each_port_length f (n ∷ numbers) [] long = long
each_port_length f (n ∷ numbers) (p ∷ ports) long = ap (λ (n : ℕ). suc n) (each_port_length f numbers ports (omega arith))

-- the same of a part
pub with_ports_same : (f g : ℕ → ℕ → SizedPort → SizedPort) (p : AppPart)
    → ((n : ℕ) (port : SizedPort) → f p.part.tile n port ≡ g p.part.tile n port) → with_ports f p ≡ with_ports g p
with_ports_same f g p same =
    ap (λ (ports : List SizedPort). record p { state = record p.state { ports = ports } }) (each_port_same (f p.part.tile) (g p.part.tile) p.part.ports p.state.ports same)

pub with_ports_still : (f : ℕ → ℕ → SizedPort → SizedPort) (p : AppPart)
    → ((n : ℕ) (port : SizedPort) → f p.part.tile n port ≡ port) → length p.state.ports ≡ length p.part.ports → with_ports f p ≡ p
with_ports_still f p still long =
    ap (λ (ports : List SizedPort). record p { state = record p.state { ports = ports } }) (each_port_still (f p.part.tile) p.part.ports p.state.ports still long)

-- what a port injects
pub injects_none : (p : PortState) → p.credit ≡ 0 → (inject p).0 ≡ record { word = None; credits = p.owed }
injects_none p none = ap (λ b. (inject_from (cond b [] p.send) p).0) (eq-eqb p.credit 0 none)

first_of : (words : List ℕ) (p : PortState) → (inject_from words p).0 ≡ record { word = slice_get words 0; credits = p.owed }
first_of [] p = refl
first_of (word ∷ words) p = refl

pub injects_word : (p : PortState) → (p.credit == 0) ≡ false → (inject p).0 ≡ record { word = slice_get p.send 0; credits = p.owed }
injects_word p some = ap (λ b. (inject_from (cond b [] p.send) p).0) some ∙ first_of p.send p

-- the port of a number is at the number's place
among_first : (numbers : List ℕ) (ports : List SizedPort) (number i d : ℕ) (p : SizedPort) → i < length numbers
    → (get_or numbers i d == number) ≡ true → ((k : ℕ) → k < i → (get_or numbers k d == number) ≡ false)
    → p ≡ get_or ports i p → length ports ≡ length numbers → port_among numbers ports number ≡ p.port
among_first [] ports number i d p inside found before there long = absurd (omega arith)
among_first (first ∷ numbers) [] number i d p inside found before there long = absurd (omega arith)
among_first (first ∷ numbers) (q ∷ ports) number zero d p inside found before there long =
    ap (λ b. cond b q.port (port_among numbers ports number)) found ∙ ap (λ (r : SizedPort). r.port) (sym there)
among_first (first ∷ numbers) (q ∷ ports) number (suc i) d p inside found before there long =
    ap (λ b. cond b q.port (port_among numbers ports number)) (before zero (omega arith))
    ∙ among_first numbers ports number i d p (omega arith) found (λ k low. before (suc k) (omega arith)) there (omega arith)

pub among_at : (numbers : List ℕ) (ports : List SizedPort) (number i : ℕ) (p : SizedPort)
    → position (λ own. own == number) numbers ≡ Some i → p ≡ get_or ports i p → length ports ≡ length numbers
    → port_among numbers ports number ≡ p.port
among_at numbers ports number i p found there long =
    let at = position-Some (λ own. own == number) numbers i 0 found in
    among_first numbers ports number i 0 p at.0 at.1 at.2 there long

-- where none has the number, the port is free
none_among : (numbers : List ℕ) (ports : List SizedPort) (number d : ℕ)
    → ((k : ℕ) → k < length numbers → (get_or numbers k d == number) ≡ false) → port_among numbers ports number ≡ free_port
none_among [] ports number d none = refl
none_among (first ∷ numbers) [] number d none = refl
none_among (first ∷ numbers) (q ∷ ports) number d none =
    ap (λ b. cond b q.port (port_among numbers ports number)) (none zero (omega arith))
    ∙ none_among numbers ports number d (λ k low. none (suc k) (omega arith))

position-None : (test : ℕ → Bool) (xs : List ℕ) → position test xs ≡ None → (k : ℕ) → k < length xs → test (get_or xs k 0) ≡ false
position-None test xs none k inside =
    let past : length xs ≤ position_or_len test xs = grind (arith, common_steps) in
    fails_before_first test xs k 0 (omega arith)

pub among_none : (numbers : List ℕ) (ports : List SizedPort) (number : ℕ) → position (λ own. own == number) numbers ≡ None
    → port_among numbers ports number ≡ free_port
among_none numbers ports number none = none_among numbers ports number 0 (position-None (λ own. own == number) numbers none)

-- so many numbers and one more
pub numbers_more : (n : ℕ) → range_with_len 0 (n + 1) ≡ range_with_len 0 n ++ n ∷ []
numbers_more n =
    let one = map-range_with_len_more (λ (k : ℕ). k) 0 n n (omega arith) in
    sym (map-id (range_with_len 0 (n + 1))) ∙ one ∙ ap (λ ns. ns ++ n ∷ []) (map-id (range_with_len 0 n))

-- the granted ports of so many numbers and one more
pub granted_more : (queue : ℕ) (numbers : List ℕ) (i : ℕ) (old new : List SizedPort) (port : SizedPort) → i < length numbers
    → old ≡ map (λ (n : ℕ). granted_sized queue) (take i numbers) → port ≡ granted_sized queue → new ≡ old ++ port ∷ []
    → new ≡ map (λ (n : ℕ). granted_sized queue) (take (i + 1) numbers)
granted_more queue numbers i old new port inside before granted pushed =
    pushed ∙ ap₂ (λ (ports : List SizedPort) (p : SizedPort). ports ++ p ∷ []) before granted ∙ sym (map_more (λ (n : ℕ). granted_sized queue) numbers i 0 inside)
