-- What is true of the grants of a legal history of a sound setup.
use Rattle.std.specs.Prelude.{ℕ, ◌+◌, ◌*◌, ◌<◌, ◌≤◌, List, length, All, IfSome}
use Rattle.bundle_model.specs.declared.world.Grant.{Grant}
use Rattle.bundle_model.specs.Grants.{IsApart}
use Rattle.bundle_model.specs.World.{AreOfLoads}
use Rattle.vep_manager.specs.declared.setup.Setup.{Setup}
use Rattle.vep_manager.specs.declared.reply.Entry.{Entry}
use Rattle.vep_manager.specs.Setup.{StatesWithin}
use Rattle.vep_manager.specs.History.{grants_of}
use Rattle.vep_manager.specs.Legal.{IsLegal}

-- the slot begins less than a slot above the limit
abbrev pub IsEarly : Setup → ℕ → ℕ → Type 0
IsEarly setup limit slot = slot * setup.world.platform.slot_cycles < limit + setup.world.platform.slot_cycles

-- the grant ends early, where it has an end
abbrev pub EndsEarly : Setup → ℕ → Grant → Type 0
EndsEarly setup limit grant = IfSome grant.end (λ end. IsEarly setup limit end)

-- each grant is of one of the loads, there are no more grants than loads, and they begin and end less
-- than a slot above the limit of the stated cycles
pub record AreGranted (setup : Setup) (limit : ℕ) (history : List Entry) : Type 0 where
  pub of_loads : AreOfLoads setup.loads (grants_of setup history)
  pub few : length (grants_of setup history) ≤ length setup.loads
  pub begin_early : All (λ grant. IsEarly setup limit grant.start) (grants_of setup history)
  pub end_early : All (EndsEarly setup limit) (grants_of setup history)

-- the grants of every legal history can all be kept
abbrev pub GrantsStayApart : Setup → Type 0
GrantsStayApart setup = (history : List Entry) → IsLegal setup history → IsApart setup.world (grants_of setup history)

-- the grants of every legal history are of the loads, and begin and end as the commands allow
abbrev pub GrantsAreEarly : Setup → Type 0
GrantsAreEarly setup =
    (limit : ℕ) (history : List Entry) → StatesWithin setup limit → IsLegal setup history
    → AreGranted setup limit history
