-- What follows where no link is stuck and none is missing.
use Rattle.std.proofs.Common.{◌≡◌, ℕ, ◌+◌, ◌<◌, false, List, find, set, replicate, take, drop, get_or, length, Option, Some, None, option_map, is_some, is_none, IsSome, true≢false, refl, sym, ap, ◌∙◌, arith}
use Rattle.std.proofs.lemmas.Option.{none-some}
use Rattle.flit_link.specs.declared.ends.LinkOut.{LinkOut}
use Rattle.flit_link.specs.declared.ends.LinkIn.{LinkIn}
use Rattle.flit_link.specs.Link.{sending, receiving}
use Rattle.tile_core.specs.declared.wire.Wire.{Wire}
use Rattle.std.proofs.lemmas.List.Sums.{fold_more}
use Rattle.soc_base.specs.Port.{WordAndCredits, idle}
use Rattle.tile_core.specs.Wires.{first_stuck, first_missing, waiting, brought}
use Rattle.tile_core.proofs.Finding.{fails_at}
use Rattle.tile_core.proofs.Stepping.{next_same}

pub map_none : {X Y : Type 0} (f : X → Y) (o : Option X) → option_map f o ≡ None → o ≡ None
map_none f None is = refl
map_none f (Some x) is = absurd (none-some (f x) (sym is))

not_some : {X : Type 0} (o : Option X) → is_some o ≡ false → o ≡ None
not_some None is = refl
not_some (Some x) is = absurd (true≢false is)

not_none : {X : Type 0} (o : Option X) → is_none o ≡ false → IsSome o
not_none None is = absurd (true≢false is)
not_none (Some x) is = refl

-- nothing waits to be pushed on the next link
pub next_free : (outs now : List (Wire LinkOut)) (i : ℕ) (d : Wire LinkOut) → i < length now → length now ≡ length outs → drop i now ≡ drop i outs → first_stuck outs ≡ None → sending (get_or now i d).end ≡ None
next_free outs now i d inside same rest free =
    let p = λ (wire : Wire LinkOut). is_some (sending wire.end) in
    let there = fails_at p outs i d (omega (arith, inside, same)) (map_none (λ (wire : Wire LinkOut). wire.link) (find p outs) free) in
    not_some (sending (get_or now i d).end) (ap p (next_same outs now i d inside same rest) ∙ there)

-- a flit waits to be taken on the next link
pub next_waits : (ins now : List (Wire LinkIn)) (i : ℕ) (d : Wire LinkIn) → i < length now → length now ≡ length ins → drop i now ≡ drop i ins → first_missing ins ≡ None → IsSome (receiving (get_or now i d).end)
next_waits ins now i d inside same rest free =
    let p = λ (wire : Wire LinkIn). is_none (receiving wire.end) in
    let there = fails_at p ins i d (omega (arith, inside, same)) (map_none (λ (wire : Wire LinkIn). wire.link) (find p ins) free) in
    not_none (receiving (get_or now i d).end) (ap p (next_same ins now i d inside same rest) ∙ there)

pub some_waits : {X : Type 0} (o : Option X) → IsSome o → is_none o ≡ false
some_waits None is = absurd (true≢false (sym is))
some_waits (Some x) is = refl

-- what one link more brings
pub brought_more : (xs : List (Wire LinkIn)) (i : ℕ) (d : Wire LinkIn) (inputs : List WordAndCredits) (place : ℕ) (flit : WordAndCredits) → i < length xs → inputs ≡ brought (take i xs) → place ≡ (get_or xs i d).place → flit ≡ waiting (receiving (get_or xs i d).end) → set inputs place flit ≡ brought (take (i + 1) xs)
brought_more xs i d inputs place flit inside so_far at is =
    let lay = λ (inputs : List WordAndCredits) (wire : Wire LinkIn). set inputs wire.place (waiting (receiving wire.end)) in
    rw (so_far, at, is) (sym (fold_more lay (replicate 7 idle) xs i d inside))
