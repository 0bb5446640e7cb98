-- What contracts see of a manager.
use Rattle.std.specs.Prelude.{List}
use Rattle.vep_manager.specs.declared.setup.Setup.{Setup}
use Rattle.vep_manager.specs.declared.reply.Entry.{Entry}

-- the setup, and the entries that were committed
pub record ManagerState : Type 0 where
  pub setup : Setup
  pub history : List Entry
