use Rattle.std.proofs.Common.{rules, ◌≡◌, ◌++◌, ◌∷◌, [], List, sym, subst, ◌∙◌, arith}
use Rattle.live_run.specs.declared.worker.Worker.{Worker}
use Rattle.live_run.specs.inner.Workers.{HasWorked, HaveWorked}
use Rattle.live_run.proofs.Coming.{one_more}
use Rattle.live_run.proofs.working.+fn-work_and_serve-scope+work_and_serve.Goals as goal

pub scope-returns : goal.scope-returns
scope-returns g t c =
    let setup = c.captures.setup.now in
    let part = c.match-started.part in
    let one : g.S.Service.share part.pass ≡ 1 = search rules in
    let worked : HasWorked setup (g.S.Service.seen part.pass) c.captures.worker part.worker = search rules in
    let below = c.work_and_serve-pass.ensures in
    let joined = c.join-2.ensures in
    let summed = joined.share in
    let kept = below.share in
    let more = g.S.Service.seen c.join-2.new.pass in
    let all = one_more setup (g.S.Service.seen c.work_and_serve-pass.result.pass) (g.S.Service.seen part.pass) more
    c.captures.crew.items c.work_and_serve-pass.result.crew.items c.captures.worker part.worker
    joined.begins joined.other_begins below.worked worked in (
      joined.rests,
      omega arith,
      subst (λ (l : List Worker). HaveWorked setup more (c.captures.crew.items ++ c.captures.worker ∷ []) l)
          (sym c.push_reserved.ensures.items) all,
      c.push_reserved.ensures.capacity ∙ below.capacity,
    )
