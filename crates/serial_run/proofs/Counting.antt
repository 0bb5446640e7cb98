-- How many flits are under way on a link.
use Rattle.std.proofs.Common.{◌≡◌, ◌+◌, ◌≤◌, List, [], ◌∷◌, ◌++◌, length, length-append, Option, Some, None, IsSome, true≢false, refl, sym, ap, ◌∙◌, arith}
use Rattle.soc_base.specs.Port.{WordAndCredits}
use Rattle.flit_link.specs.declared.ends.LinkOut.{LinkOut}
use Rattle.flit_link.specs.declared.ends.LinkIn.{LinkIn}
use Rattle.flit_link.specs.Flits.{latched}
use Rattle.flit_link.specs.Link.{flits_set, flits_taken, flits_known, AreInLine}

-- of ends in line: the flits that wait to be taken, that stand in the ring and that wait to be pushed are
-- as many as those set and not taken, and the idle flit of slot 0
pub counted : (out : LinkOut) (into : LinkIn) → AreInLine out into
    → length (flits_taken into) + length (latched into.latch) + length (flits_known into) + length (latched out.latch)
    ≡ 1 + length (flits_set out)
counted out into line =
    let taken = flits_taken into in
    let here = latched into.latch in
    let ring = flits_known into in
    let there = latched out.latch in
    let all : length (taken ++ here ++ ring ++ there) ≡ 1 + length (flits_set out) = ap length line ∙ omega arith in
    omega (
      arith,
      all,
      length-append (taken ++ here ++ ring) there,
      length-append (taken ++ here) ring,
      length-append taken here,
    )

-- a flit waits to be taken after `carry` where one was under way
pub carried : {F : Type 0} (here here_new there : Option F) (ring : List F) → (IsSome here → here_new ≡ here)
    → ((flit : F) (rest : List F) → here ≡ None → ring ≡ flit ∷ rest → here_new ≡ Some flit)
    → (here ≡ None → ring ≡ [] → here_new ≡ there) → (here ≡ None → ring ≡ [] → IsSome there) → IsSome here_new
carried (Some flit) here_new there ring full oldest past some = rw (full refl) refl
carried None here_new there (flit ∷ rest) full oldest past some = rw (oldest flit rest refl refl) refl
carried None here_new there [] full oldest past some = rw (past refl refl) (some refl refl)

-- nothing waits to be pushed after `carry` where at most one flit was under way
pub cleared : {F : Type 0} (here there there_new : Option F) (ring : List F) → (IsSome here → there_new ≡ there)
    → ((flit : F) (rest : List F) → here ≡ None → ring ≡ flit ∷ rest → there_new ≡ there)
    → (here ≡ None → ring ≡ [] → there_new ≡ None) → (IsSome here → there ≡ None)
    → ((flit : F) (rest : List F) → here ≡ None → ring ≡ flit ∷ rest → there ≡ None) → there_new ≡ None
cleared (Some flit) there there_new ring full oldest past one other = full refl ∙ one refl
cleared None there there_new (flit ∷ rest) full oldest past one other =
    oldest flit rest refl refl ∙ other flit rest refl refl
cleared None there there_new [] full oldest past one other = past refl refl

pub some_by_count : (o : Option WordAndCredits) → 1 ≤ length (latched o) → IsSome o
some_by_count None count = absurd (omega (arith, count))
some_by_count (Some flit) count = refl

pub none_by_count : (o : Option WordAndCredits) → length (latched o) ≤ 0 → o ≡ None
none_by_count None count = refl
none_by_count (Some flit) count = absurd (omega (arith, count))

pub latched_some : (o : Option WordAndCredits) → IsSome o → length (latched o) ≡ 1
latched_some None some = absurd (true≢false (sym some))
latched_some (Some flit) some = refl

pub latched_none : (o : Option WordAndCredits) → o ≡ None → length (latched o) ≡ 0
latched_none o none = rw none refl
