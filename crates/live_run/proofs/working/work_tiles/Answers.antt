use Rattle.std.proofs.Common.{◌∙◌}
use Rattle.live_run.proofs.Coming.{first_runs, come_told}
use Rattle.live_run.proofs.working.work_tiles.Goals as goal

pub work-requires-clause-run : goal.work-requires-clause-run
work-requires-clause-run g c =
    rw (c.requires.setup) (first_runs _ _ _ _ c.requires.fresh.first)

pub returns-clause-worked : goal.returns-clause-worked
returns-clause-worked g c = record {
  come = come_told c.args.setup.now (g.S.Service.setup c.work.new.feed.service.now)
      (g.S.Service.seen c.work.new.feed.pass) c.work.new.group.stations.items
      (c.work.ensures.setup ∙ c.requires.setup) c.work.ensures.run c.work.ensures.within;
  ends = c.work.ensures.ends;
}
