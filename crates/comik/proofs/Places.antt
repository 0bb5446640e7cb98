-- The place of a later cycle.
use Rattle.std.proofs.Common.{◌≡◌, ℕ, ◌+◌, ◌%◌, ◌<◌, ◌≤◌, sym, ap, ◌∙◌, arith}
use Rattle.std.proofs.lemmas.Nat.{mod_below}
use Rattle.soc_base.specs.Time.{FrameTimes, instance_cycles, instance_at, offset_at, served_at}
use Rattle.soc_base.specs.Frame.{IsFrame}
use Rattle.comik.specs.declared.place.FramePlace.{FramePlace}
use Rattle.comik.specs.Places.{frame_place}
use Rattle.comik.proofs.Times.{inside, around}

same_place : (s s' o o' : ℕ) → s ≡ s' → o ≡ o' → (let p : FramePlace = record { served = s; offset = o } in p) ≡ (let p : FramePlace = record { served = s'; offset = o' } in p)
same_place s s' o o' p q = cc

-- the slot that is served in the next instance
served_next : (f : FrameTimes) (c n : ℕ) → IsFrame f → offset_at f c + n ≡ instance_cycles f → served_at f c + 1 < f.slots → served_at f (c + n) ≡ served_at f c + 1
served_next f c n frame last more =
    let least = frame.kernel_least in
    let next = (around (instance_cycles f) c n (omega arith) last).0 in
    ap (λ i. i % f.slots) next ∙ (inside f.slots (instance_at f c) 1 more).1

served_around : (f : FrameTimes) (c n : ℕ) → IsFrame f → offset_at f c + n ≡ instance_cycles f → f.slots ≤ served_at f c + 1 → served_at f (c + n) ≡ 0
served_around f c n frame last past =
    let least = frame.kernel_least in
    let some = frame.slots_least in
    let next = (around (instance_cycles f) c n (omega arith) last).0 in
    let low : served_at f c < f.slots = mod_below (instance_at f c) f.slots (omega arith) in
    ap (λ i. i % f.slots) next ∙ (around f.slots (instance_at f c) 1 (omega arith) (omega arith)).1

-- within an instance, at the next, and at the first of the frame
pub place_within : (f : FrameTimes) (at : FramePlace) (c n : ℕ) → at ≡ frame_place f c → at.offset + n < instance_cycles f → (let p : FramePlace = record { served = at.served; offset = at.offset + n } in p) ≡ frame_place f (c + n)
place_within f at c n is more =
    let offset : at.offset ≡ offset_at f c = ap (λ (p : FramePlace). p.offset) is in
    let served : at.served ≡ served_at f c = ap (λ (p : FramePlace). p.served) is in
    let low : offset_at f c + n < instance_cycles f = omega arith in
    let both = inside (instance_cycles f) c n low in
    same_place (at.served) (served_at f (c + n)) (at.offset + n) (offset_at f (c + n)) (served ∙ sym (ap (λ i. i % f.slots) both.0)) (ap (λ o. o + n) offset ∙ sym both.1)

pub place_next : (f : FrameTimes) (at : FramePlace) (c n : ℕ) → IsFrame f → at ≡ frame_place f c → at.offset + n ≤ instance_cycles f → instance_cycles f ≤ at.offset + n → at.served + 1 < f.slots → (let p : FramePlace = record { served = at.served + 1; offset = 0 } in p) ≡ frame_place f (c + n)
place_next f at c n frame is low last more =
    let least = frame.kernel_least in
    let offset : at.offset ≡ offset_at f c = ap (λ (p : FramePlace). p.offset) is in
    let served : at.served ≡ served_at f c = ap (λ (p : FramePlace). p.served) is in
    let end : offset_at f c + n ≡ instance_cycles f = omega arith in
    same_place (at.served + 1) (served_at f (c + n)) 0 (offset_at f (c + n)) (ap (λ n. n + 1) served ∙ sym (served_next f c n frame end (omega arith))) (sym (around (instance_cycles f) c n (omega arith) end).1)

pub place_around : (f : FrameTimes) (at : FramePlace) (c n : ℕ) → IsFrame f → at ≡ frame_place f c → at.offset + n ≤ instance_cycles f → instance_cycles f ≤ at.offset + n → f.slots ≤ at.served + 1 → (let p : FramePlace = record { served = 0; offset = 0 } in p) ≡ frame_place f (c + n)
place_around f at c n frame is low last past =
    let least = frame.kernel_least in
    let offset : at.offset ≡ offset_at f c = ap (λ (p : FramePlace). p.offset) is in
    let served : at.served ≡ served_at f c = ap (λ (p : FramePlace). p.served) is in
    let end : offset_at f c + n ≡ instance_cycles f = omega arith in
    same_place 0 (served_at f (c + n)) 0 (offset_at f (c + n)) (sym (served_around f c n frame end (omega arith))) (sym (around (instance_cycles f) c n (omega arith) end).1)
