-- Words of two contexts, copied one by one.
use Rattle.std.proofs.Common.{◌≡◌, ℕ, ◌+◌, ◌<◌, ◌≤◌, ◌==◌, true, false, nat_lt, List, [], ◌∷◌, ◌++◌, take, drop, length, slice_set, slice_index, refl, sym, subst, ap, ap₂, ◌∙◌, inl, inr, arith}
use Rattle.std.proofs.lemmas.Bool.{cases_eq, cases_lt, ne_eqb, lt-ltb, le-ltb}
use Rattle.std.proofs.lemmas.List.{take_all, drop_all, take_more, take_more_set, drop_more, append_assoc, take_at, take-append-drop, append-nil, length-take-le}
use Rattle.rv_core.specs.Registers.{Registers}
use Rattle.comik.specs.declared.context.Context.{Context}
use Rattle.comik.specs.Context.{copied, IsContext}
use Rattle.comik.specs.Switching.{blend}

-- lists of which the first n items are the same
pub fronts_same : (xs ys : List ℕ) (n : ℕ) → length xs ≡ length ys → n < length xs → take n xs ++ drop n ys ≡ ys → take n ys ≡ take n xs
fronts_same xs ys n size inside same =
    let cut = take_at (take n xs) (drop n ys) n (length-take-le n xs (omega arith)) in
    ap (take n) (sym same) ∙ cut

-- one more item is copied to the second list
pub joined_to : (xs ys : List ℕ) (n : ℕ) → length xs ≡ length ys → n < length xs → take n xs ++ drop n ys ≡ ys → take (n + 1) xs ++ drop (n + 1) (slice_set ys n (slice_index xs n)) ≡ slice_set ys n (slice_index xs n)
joined_to xs ys n size inside same =
    let v = slice_index xs n in
    let zs = slice_set ys n v in
    let low : n < length ys = omega arith in
    let front : take (n + 1) zs ≡ take (n + 1) xs = take_more_set ys n v low ∙ ap (λ (t : List ℕ). t ++ v ∷ []) (fronts_same xs ys n size inside same) ∙ sym (take_more xs n 0 inside) in
    ap (λ (t : List ℕ). t ++ drop (n + 1) zs) (sym front) ∙ take-append-drop (n + 1) zs

-- one more item is copied to the first list
pub joined_from : (xs ys : List ℕ) (n : ℕ) → length xs ≡ length ys → n < length xs → take (n + 1) (slice_set xs n (slice_index ys n)) ++ drop (n + 1) ys ≡ take n xs ++ drop n ys
joined_from xs ys n size inside =
    let v = slice_index ys n in
    let low : n < length ys = omega arith in
    ap (λ (t : List ℕ). t ++ drop (n + 1) ys) (take_more_set xs n v inside)
    ∙ append_assoc (take n xs) (v ∷ []) (drop (n + 1) ys)
    ∙ ap (λ (t : List ℕ). take n xs ++ t) (sym (drop_more ys n 0 low))

-- all 33 words are those of the first
pub blend_all : (front back : Context) → IsContext front → IsContext back → blend 33 front back ≡ front
blend_all front back one other =
    let x : take 33 front.regs.x ++ drop 33 back.regs.x ≡ front.regs.x =
    ap₂ (λ (a : List ℕ) (b : List ℕ). a ++ b) (take_all 33 front.regs.x (omega (arith, one.count))) (drop_all 33 back.regs.x (omega (arith, other.count))) ∙ append-nil front.regs.x in
    ap (λ (x : List ℕ). let r : Registers = record { pc = front.regs.pc; x = x } in let k : Context = record { regs = r; left = front.left } in k) x

-- lists that begin alike
one_of : (xs ys : List ℕ) → length xs ≡ 32 → length ys ≡ 32 → slice_index xs 0 ≡ 0 → slice_index ys 0 ≡ 0 → take 1 xs ++ drop 1 ys ≡ ys
one_of xs [] a b p q = absurd (omega (arith, b))
one_of [] (y ∷ ys) a b p q = absurd (omega (arith, a))
one_of (x ∷ xs) (y ∷ ys) a b p q = ap (λ z. z ∷ ys) (p ∙ sym q)

with_parts : (pc pc' left left' : ℕ) (x x' : List ℕ) → pc ≡ pc' → x ≡ x' → left ≡ left' → (let r : Registers = record { pc = pc; x = x } in let k : Context = record { regs = r; left = left } in k) ≡ (let r : Registers = record { pc = pc'; x = x' } in let k : Context = record { regs = r; left = left' } in k)
with_parts pc pc' left left' x x' p e l = cc

-- copying a register
pub copied_register : (n : ℕ) (to from : Context) → (n ≡ 0 → ⊥) → n < 32 → copied to from n ≡ record to { regs = record to.regs { x = slice_set to.regs.x n (slice_index from.regs.x n) } }
copied_register n to from later register =
    let first : (n == 0) ≡ false = ne_eqb n 0 later in
    let within : nat_lt n 32 ≡ true = lt-ltb n 32 register in
    rw (first, within)

-- copying `left`
pub copied_left : (n : ℕ) (to from : Context) → 32 ≤ n → copied to from n ≡ record to { left = from.left }
copied_left n to from last =
    let first : (n == 0) ≡ false = ne_eqb n 0 (λ e. omega arith) in
    let past : nat_lt n 32 ≡ false = le-ltb n 32 last in
    rw (first, past)

-- where a register is copied next
pub blend_inside : (n : ℕ) (front back : Context) → (n ≡ 0 → ⊥) → n < 33 → blend n front back ≡ record { regs = record { pc = front.regs.pc; x = take n front.regs.x ++ drop n back.regs.x }; left = back.left }
blend_inside n front back later low =
    let first : (n == 0) ≡ false = ne_eqb n 0 later in
    let within : nat_lt n 33 ≡ true = lt-ltb n 33 low in
    rw (first, within)

-- a word is saved: the frame's words below the next are those of the file, if its words below this one were
saved_first : (file frame : Context) → IsContext file → IsContext frame → blend 1 file (copied frame file 0) ≡ copied frame file 0
saved_first file frame one other = with_parts file.regs.pc file.regs.pc frame.left frame.left _ frame.regs.x refl (one_of file.regs.x frame.regs.x one.count other.count one.zero other.zero) refl

saved_register : (n : ℕ) (file frame : Context) → (n ≡ 0 → ⊥) → n < 32 → IsContext file → IsContext frame → blend n file frame ≡ frame → blend (n + 1) file (copied frame file n) ≡ copied frame file n
saved_register n file frame later register one other same =
    let was : (let r : Registers = record { pc = file.regs.pc; x = take n file.regs.x ++ drop n frame.regs.x } in let k : Context = record { regs = r; left = frame.left } in k) ≡ frame = sym (blend_inside n file frame later (omega arith)) ∙ same in
    let pc : file.regs.pc ≡ frame.regs.pc = ap (λ (k : Context). k.regs.pc) was in
    let x : take n file.regs.x ++ drop n frame.regs.x ≡ frame.regs.x = ap (λ (k : Context). k.regs.x) was in
    rw (copied_register n frame file later register)
    (blend_inside (n + 1) file _ (λ e. omega arith) (omega arith)
    ∙ with_parts file.regs.pc frame.regs.pc frame.left frame.left _ _ pc (joined_to file.regs.x frame.regs.x n (one.count ∙ sym other.count) (omega (arith, one.count)) x) refl)

saved_left : (file frame : Context) → IsContext file → IsContext frame → blend 32 file frame ≡ frame → blend 33 file (copied frame file 32) ≡ copied frame file 32
saved_left file frame one other same =
    let pc : file.regs.pc ≡ frame.regs.pc = ap (λ (k : Context). k.regs.pc) same in
    let joined : take 32 file.regs.x ++ drop 32 frame.regs.x ≡ frame.regs.x = ap (λ (k : Context). k.regs.x) same in
    let whole : take 32 file.regs.x ++ drop 32 frame.regs.x ≡ file.regs.x = ap₂ (λ (a : List ℕ) (b : List ℕ). a ++ b) (take_all 32 file.regs.x (omega (arith, one.count))) (drop_all 32 frame.regs.x (omega (arith, other.count))) ∙ append-nil file.regs.x in
    blend_all file (copied frame file 32) one (record { count = other.count; zero = other.zero })
    ∙ with_parts file.regs.pc frame.regs.pc file.left file.left file.regs.x frame.regs.x pc (sym whole ∙ joined) refl

pub saved_more : (n : ℕ) (file frame : Context) → n < 33 → IsContext file → IsContext frame → blend n file frame ≡ frame → blend (n + 1) file (copied frame file n) ≡ copied frame file n
saved_more n file frame low one other same = elim (cases_eq n 0) [
  | inl first ↦
      let P : ℕ → Type 0 = λ m. blend (m + 1) file (copied frame file m) ≡ copied frame file m in
      subst P (sym first) (saved_first file frame one other)
  | inr later ↦ elim (cases_lt n 32) [
    | inl register ↦ saved_register n file frame later register one other same
    | inr last ↦
        let at : n ≡ 32 = omega arith in
        let P : ℕ → Type 0 = λ m. blend m file frame ≡ frame → blend (m + 1) file (copied frame file m) ≡ copied frame file m in
        subst P (sym at) (saved_left file frame one other) same
  ]
]

-- a word is restored: nothing is lost
restored_first : (file frame : Context) → IsContext file → IsContext frame → blend 1 (copied file frame 0) frame ≡ blend 0 file frame
restored_first file frame one other = with_parts frame.regs.pc frame.regs.pc frame.left frame.left _ frame.regs.x refl (one_of file.regs.x frame.regs.x one.count other.count one.zero other.zero) refl

restored_register : (n : ℕ) (file frame : Context) → (n ≡ 0 → ⊥) → n < 32 → IsContext file → IsContext frame → blend (n + 1) (copied file frame n) frame ≡ blend n file frame
restored_register n file frame later register one other =
    rw (copied_register n file frame later register)
    (blend_inside (n + 1) _ frame (λ e. omega arith) (omega arith)
    ∙ with_parts file.regs.pc file.regs.pc frame.left frame.left _ _ refl (joined_from file.regs.x frame.regs.x n (one.count ∙ sym other.count) (omega (arith, one.count))) refl
    ∙ sym (blend_inside n file frame later (omega arith)))

restored_left : (file frame : Context) → IsContext file → IsContext frame → blend 33 (copied file frame 32) frame ≡ blend 32 file frame
restored_left file frame one other =
    let whole : take 32 file.regs.x ++ drop 32 frame.regs.x ≡ file.regs.x = ap₂ (λ (a : List ℕ) (b : List ℕ). a ++ b) (take_all 32 file.regs.x (omega (arith, one.count))) (drop_all 32 frame.regs.x (omega (arith, other.count))) ∙ append-nil file.regs.x in
    blend_all (copied file frame 32) frame (record { count = one.count; zero = one.zero }) other
    ∙ with_parts file.regs.pc file.regs.pc frame.left frame.left file.regs.x _ refl (sym whole) refl

pub restored_more : (n : ℕ) (file frame : Context) → n < 33 → IsContext file → IsContext frame → blend (n + 1) (copied file frame n) frame ≡ blend n file frame
restored_more n file frame low one other = elim (cases_eq n 0) [
  | inl first ↦
      let P : ℕ → Type 0 = λ m. blend (m + 1) (copied file frame m) frame ≡ blend m file frame in
      subst P (sym first) (restored_first file frame one other)
  | inr later ↦ elim (cases_lt n 32) [
    | inl register ↦ restored_register n file frame later register one other
    | inr last ↦
        let at : n ≡ 32 = omega arith in
        let P : ℕ → Type 0 = λ m. blend (m + 1) (copied file frame m) frame ≡ blend m file frame in
        subst P (sym at) (restored_left file frame one other)
  ]
]
