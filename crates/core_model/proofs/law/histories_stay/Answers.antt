use Rattle.core_model.proofs.Staying.{histories_stay, history_runs_stay}
use Rattle.core_model.proofs.law.histories_stay.Goals as goal

pub returns : goal.returns
returns g c = record {
  machine = histories_stay c.args._setup.now c.requires;
  tile = history_runs_stay c.args._setup.now c.requires;
}
