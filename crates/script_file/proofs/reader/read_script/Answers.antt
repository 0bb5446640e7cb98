use Rattle.std.proofs.Common.{rules, tests, sym, ◌∙◌, arith}
use Rattle.std.proofs.lemmas.List.{length_push}
use Rattle.std.proofs.lemmas.Iterator.Consumers.{YieldsList-at, YieldsList-turn, YieldsList-end}
use Rattle.std.proofs.lemmas.Iterator.Splits.{YieldsList-from_slice_split}
use Rattle.script_file.specs.Lines.{is_line_feed}
use Rattle.script_file.proofs.Reading.{read_more, read_fault, read_too_many, read_all}
use Rattle.script_file.proofs.Stated.{meant_stated}
use Rattle.script_file.proofs.reader.read_script.Goals as goal

pub returns-in-Err-clause-meaning : goal.returns-in-Err-clause-meaning
returns-in-Err-clause-meaning c =
    let next = YieldsList-turn
    (YieldsList-at c.into_iter-line-iterator.ensures.into_iter_gives
    (YieldsList-from_slice_split _ is_line_feed c.args.bytes.now c.split-line-items.ensures.rest
    c.split-line-items.ensures.done c.split-line-items.ensures.closure (λ x r q k. search (rules, tests))))
    c.loop-line.yielded _ c.loop-line.yielded_by _ _ c.in-Some.line c.in-Some.is c.next.ensures.steps in
    read_fault _ _ _ _ _ _ _ _ c.loop-line.invariant.2 next (sym c.in-Ok.ensures ∙ c.in-Err.is)

pub loop-line-preserved : goal.loop-line-preserved
loop-line-preserved c =
    let next = YieldsList-turn
    (YieldsList-at c.into_iter-line-iterator.ensures.into_iter_gives
    (YieldsList-from_slice_split _ is_line_feed c.args.bytes.now c.split-line-items.ensures.rest
    c.split-line-items.ensures.done c.split-line-items.ensures.closure (λ x r q k. search (rules, tests))))
    c.loop-line.yielded _ c.loop-line.yielded_by _ _ c.in-Some.line c.in-Some.is c.next.ensures.steps in
    let more = read_more _ _ _ _ _ _ _ _ c.loop-line.invariant.2 next (sym c.in-Ok.ensures ∙ c.in-Ok-meaning.is) in
    let long = length_push c.loop-line.yielded c.in-Some.line in
    (search rules, tt, rw (long, c.in-Ok-add.ensures.count, c.in-Ok-add.ensures.commands) more)

pub returns-then-kept-from-clause-meaning : goal.returns-then-kept-from-clause-meaning
returns-then-kept-from-clause-meaning c =
    let end = YieldsList-end
    (YieldsList-at c.into_iter-line-iterator.ensures.into_iter_gives
    (YieldsList-from_slice_split _ is_line_feed c.args.bytes.now c.split-line-items.ensures.rest
    c.split-line-items.ensures.done c.split-line-items.ensures.closure (λ x r q k. search (rules, tests))))
    c.loop-line.yielded _ c.loop-line.yielded_by _ _ c.in-None.is c.next.ensures.steps in
    read_too_many _ _ _ _ _ _ c.loop-line.invariant.2 end.1 (omega (arith, c.from.ensures, c.if-kept-from.true))

pub returns-clause-meaning : goal.returns-clause-meaning
returns-clause-meaning c =
    let end = YieldsList-end
    (YieldsList-at c.into_iter-line-iterator.ensures.into_iter_gives
    (YieldsList-from_slice_split _ is_line_feed c.args.bytes.now c.split-line-items.ensures.rest
    c.split-line-items.ensures.done c.split-line-items.ensures.closure (λ x r q k. search (rules, tests))))
    c.loop-line.yielded _ c.loop-line.yielded_by _ _ c.in-None.is c.next.ensures.steps in
    read_all _ _ _ _ _ _ c.loop-line.invariant.2 end.1 (omega (arith, c.from.ensures, c.if-kept-from.false))

pub returns-clause-stated : goal.returns-clause-stated
returns-clause-stated c =
    let end = YieldsList-end
    (YieldsList-at c.into_iter-line-iterator.ensures.into_iter_gives
    (YieldsList-from_slice_split _ is_line_feed c.args.bytes.now c.split-line-items.ensures.rest
    c.split-line-items.ensures.done c.split-line-items.ensures.closure (λ x r q k. search (rules, tests))))
    c.loop-line.yielded _ c.loop-line.yielded_by _ _ c.in-None.is c.next.ensures.steps in
    meant_stated _ _ _ (read_all _ _ _ _ _ _ c.loop-line.invariant.2 end.1 (omega (arith, c.from.ensures, c.if-kept-from.false)))
