use Rattle.std.proofs.Common.{sym}
use Rattle.soc_top.specs.Wants.{HasBytes}
use Rattle.soc_top.proofs.Sources.{AreOf, found_kept, script_given, script_refused}
use Rattle.soc_top.proofs.script.next_script.Goals as goal

pub judge_script-requires : goal.judge_script-requires
judge_script-requires g c =
    let told = g.F.Files.holds c.args.files.now in
    let found : AreOf told c.args.name.now c.in-Some.source.now.bytes =
    found_kept told c.as_slice.result.now c.args.name.now c.in-Some.source.now (rw c.as_slice.ensures.value c.requires)
    (sym c.in-Some.ensures) in
    rw c.as_slice-in-Some.ensures found.1

pub returns-in-Some-clause-gives : goal.returns-in-Some-clause-gives
returns-in-Some-clause-gives g c =
    let told = g.F.Files.holds c.args.files.now in
    let found : AreOf told c.args.name.now c.in-Some.source.now.bytes =
    found_kept told c.as_slice.result.now c.args.name.now c.in-Some.source.now (rw c.as_slice.ensures.value c.requires)
    (sym c.in-Some.ensures) in
    let has : HasBytes told c.args.name.now c.as_slice-in-Some.result.now = rw c.as_slice-in-Some.ensures found.0 in
    script_given told c.args.name.now c.as_slice-in-Some.result.now c.args.room c.judge_script.result has
    c.judge_script.ensures.means

pub returns-in-Some-clause-refused : goal.returns-in-Some-clause-refused
returns-in-Some-clause-refused g c =
    let told = g.F.Files.holds c.args.files.now in
    let found : AreOf told c.args.name.now c.in-Some.source.now.bytes =
    found_kept told c.as_slice.result.now c.args.name.now c.in-Some.source.now (rw c.as_slice.ensures.value c.requires)
    (sym c.in-Some.ensures) in
    let has : HasBytes told c.args.name.now c.as_slice-in-Some.result.now = rw c.as_slice-in-Some.ensures found.0 in
    script_refused told _ _ c.args.name.now c.as_slice-in-Some.result.now c.args.room c.judge_script.result has
    c.judge_script.ensures.faults
