use Rattle.std.proofs.Common.{◌≡◌, ◌+◌, ◌-◌, ◌*◌, ◌<◌, ap, sym, refl, ◌∙◌, arith, rules}
use Rattle.workload.specs.Texts.{script_name, script_text}
use Rattle.workload.specs.inner.Loads.{documents_of, bundles_until, scripts_until}
use Rattle.workload.proofs.DrawLemmas.{state_none, state_on}
use Rattle.workload.proofs.LoadLemmas.{bundles_start, bundles_on, bundles_all, scripts_start, scripts_on, scripts_all, script_is}
use Rattle.workload.proofs.generation.generate.Goals as goal

pub loop-session-init : goal.loop-session-init
loop-session-init c = record {
  draws = c.new-draws.ensures ∙ sym (state_none c.args.number);
  bundles = ap documents_of c.new-bundles.ensures ∙ sym (bundles_start c.args.number);
  scripts = c.new-scripts.ensures ∙ sym (scripts_start c.args.number);
}

pub loop-session-preserved : goal.loop-session-preserved
loop-session-preserved c =
    let number = c.args.number in
    let session = c.loop-session.session in
    let some : 0 < session = omega arith in
    let left = c.loop-session.invariant.draws in
    let text_is : c.in_ok-text.text ≡ script_text number session = c.in_ok-text.ensures.script ∙ script_is number session _ left in
    let name_is : c.in_ok-name.name ≡ script_name session = search rules in
    record {
      draws = c.in_ok-text.ensures.draws ∙ state_on number (42 * (session - 1)) 42 (42 * (session + 1 - 1)) _ left (omega arith);
      bundles = c.in_ok-text.ensures.bundles ∙ bundles_on number session _ _ some left c.loop-session.invariant.bundles;
      scripts = c.in_ok-push.ensures.ok ∙ scripts_on number session _ _ some c.loop-session.invariant.scripts (rw (text_is, name_is));
    }

pub returns : goal.returns
returns c =
    let all : c.loop-session.session - 1 ≡ 4 = omega arith in
    record {
      platform = search rules;
      bundles = c.loop-session.invariant.bundles ∙ ap (bundles_until c.args.number) all ∙ bundles_all c.args.number;
      scripts = c.loop-session.invariant.scripts ∙ ap (scripts_until c.args.number) all ∙ scripts_all c.args.number;
      budget = refl;
    }
