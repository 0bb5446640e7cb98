use Rattle.std.proofs.Common.{◌≡◌, ◌+◌, ◌-◌, ◌*◌, ◌<◌, ◌++◌, append-nil, ap, sym, ◌∙◌, arith}
use Rattle.workload.specs.Draws.{drawn}
use Rattle.workload.specs.inner.Loads.{documents_of, bundles_from, lines_from}
use Rattle.workload.proofs.DrawLemmas.{state_none, state_on, drawn_next}
use Rattle.workload.proofs.LoadLemmas.{bundles_none, bundles_more, lines_none, lines_more}
use Rattle.workload.proofs.generation.push_session.Goals as goal

pub loop-load-init : goal.loop-load-init
loop-load-init c =
    let s0 = c.args.draws.now.state in
    record {
      draws = sym (state_none s0);
      bundles = sym (ap (λ fs. documents_of c.args.bundles.now ++ fs) (bundles_none s0 c.args.session) ∙ append-nil (documents_of c.args.bundles.now));
      script = c.new-script.ensures.bytes ∙ sym (lines_none s0 c.args.session);
    }

pub loop-load-preserved : goal.loop-load-preserved
loop-load-preserved c =
    let s0 = c.args.draws.now.state in
    let load = c.loop-load.load in
    let some : 0 < load = omega arith in
    let drawn_is : c.load-drawn.result ≡ drawn s0 1 load = c.load-drawn.ensures.drawn ∙ drawn_next s0 load _ c.loop-load.invariant.draws in
    record {
      draws = c.load-drawn.ensures.state ∙ state_on s0 (7 * (load - 1)) 7 (7 * (load + 1 - 1)) _ c.loop-load.invariant.draws (omega arith);
      bundles = c.in_ok-push_load.ensures.bundles ∙ bundles_more s0 c.args.session load _ _ _ some c.loop-load.invariant.bundles drawn_is;
      script = c.in_ok-push_load.ensures.script ∙ lines_more s0 c.args.session load _ _ some c.loop-load.invariant.script drawn_is;
    }

pub returns-clause-bundles : goal.returns-clause-bundles
returns-clause-bundles c =
    let all : c.loop-load.load - 1 ≡ 6 = omega arith in
    c.loop-load.invariant.bundles ∙ ap (λ n. documents_of c.args.bundles.now ++ bundles_from c.args.draws.now.state c.args.session n) all

pub returns-clause-script : goal.returns-clause-script
returns-clause-script c =
    let all : c.loop-load.load - 1 ≡ 6 = omega arith in
    c.from_string.ensures ∙ c.loop-load.invariant.script ∙ ap (λ n. lines_from c.args.draws.now.state c.args.session n) all
