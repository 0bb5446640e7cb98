-- What the manager answers to a session's next command.
use Rattle.std.specs.Prelude.{ℕ, ◌+◌, ◌==◌, nat_lt, max, List, [], ◌∷◌, length, take, find, slice_get, unwrap_or, if◌then◌else◌, option_map, Option, Some, None, Result, Ok, Err}
use Rattle.std.specs.Option.{option_map_or, option_and_then}
use Rattle.soc_base.specs.declared.label.Label.{Label}
use Rattle.bundle_model.specs.declared.bundle.Bundle.{Bundle}
use Rattle.bundle_model.specs.declared.rules.BRule.{BRule}
use Rattle.bundle_model.specs.declared.resource.Resource.{Resource}
use Rattle.bundle_model.specs.declared.world.World.{World}
use Rattle.bundle_model.specs.declared.world.Grant.{Grant}
use Rattle.bundle_model.specs.Resources.{resources_of}
use Rattle.bundle_model.specs.Grants.{conflicts}
use Rattle.bundle_model.specs.World.{same_label}
use Rattle.script_file.specs.declared.command.Command.{Command}
use Rattle.script_file.specs.declared.command.Command.TheVariants.{Load, Stop, Until}
use Rattle.vep_manager.specs.declared.setup.Setup.{Setup}
use Rattle.vep_manager.specs.declared.reply.Reply.{Reply}
use Rattle.vep_manager.specs.declared.reply.Reply.TheVariants.{Malformed, Past, Taken, Granted, NoLoad, Already, Stopped, Horizon}
use Rattle.vep_manager.specs.declared.reply.Entry.{Entry}
use Rattle.vep_manager.specs.Loads.{loaded_names}
use Rattle.vep_manager.specs.History.{numbered, granted_slot, commands_of, count_of, horizon_with, horizon_of, grants_of}

-- a resource that a grant holds: the slot after its end is the first in which it is free
abbrev pub taken_by : Resource → Grant → Reply
taken_by resource grant = Taken resource grant.label (option_map (λ end. end + 1) grant.end)

-- the first of the resources over which some grant conflicts, with the first such grant
abbrev pub first_conflict : World → List Grant → ℕ → List Resource → Option Reply
first_conflict world grants start [] = None
first_conflict world grants start (resource ∷ resources) =
    option_map_or (λ grant. Some (taken_by resource grant)) (find (conflicts world start resource) grants)
    (first_conflict world grants start resources)

-- the answer to a load of a bundle that breaks no rule and has these resources, in this order: the start
-- is below the horizon; a resource is held; or else it is granted
abbrev pub fits_reply : Setup → List Entry → Label → ℕ → List Resource → Reply
fits_reply setup history label start resources =
    let horizon = horizon_of setup history in
    if nat_lt start horizon then Past horizon
    else unwrap_or (first_conflict setup.world (grants_of setup history) start resources) (Granted label start)

-- the answer to a load: first of all, the bundle breaks a rule
abbrev pub load_reply : Setup → List Entry → Label → ℕ → Result Bundle BRule → Reply
load_reply setup history label start (Err rule) = Malformed rule
load_reply setup history label start (Ok bundle) = fits_reply setup history label start
    (resources_of setup.world.platform bundle)

-- the answer to a stop of a grant without an end: it ends at the slot, or at its start where that is later
abbrev pub open_reply : ℕ → Grant → ℕ → Reply
open_reply horizon grant slot = if nat_lt slot horizon then Past horizon else Stopped grant.label
    (max slot grant.start)

-- the answer to a stop, in this order: there is no such grant; it has an end; the slot is below the
-- horizon; or else it is stopped
abbrev pub stop_reply : ℕ → ℕ → Option Grant → Reply
stop_reply horizon slot None = NoLoad
stop_reply horizon slot (Some grant) = option_map_or (λ end. Already end) grant.end (open_reply horizon grant slot)

-- how the bundle was judged that a load names
abbrev pub judged_of : Setup → Label → Option (Result Bundle BRule)
judged_of setup label =
    option_and_then (λ load. option_map (λ named. named.judged) (slice_get setup.world.catalog load.bundle))
    (find (λ load. same_label load.label label) setup.loads)

-- the label of a session's next load, where so many of its commands stand in the history
abbrev pub next_label : Setup → ℕ → ℕ → Label
next_label setup session done = record
    { session = session; load = length (loaded_names (take done (commands_of setup session))) + 1 }

-- how many commands of each session stand in the history, with one more of the one session
abbrev pub one_more_of : ℕ → List Entry → ℕ → ℕ
one_more_of session history other = if other == session then count_of history other + 1 else count_of history other

-- the answer to the load of a label from a slot on; none where there is no such load
abbrev pub label_reply : Setup → List Entry → Label → ℕ → Option Reply
label_reply setup history label start = option_map (load_reply setup history label start) (judged_of setup label)

-- the answer to a stop of the load of a label at a slot
abbrev pub label_stop : Setup → List Entry → Label → ℕ → Reply
label_stop setup history label slot =
    stop_reply (horizon_of setup history) slot
    (find (λ grant. same_label grant.label label) (grants_of setup history))

-- the answer to a command of a session
abbrev pub reply_to : Setup → List Entry → ℕ → Command → Option Reply
reply_to setup history session (Load name cycle) =
    label_reply setup history (next_label setup session (count_of history session)) (granted_slot setup cycle)
reply_to setup history session (Stop load cycle) =
    Some (label_stop setup history (record { session = session; load = load }) (granted_slot setup cycle))
reply_to setup history session (Until cycle) = Some (Horizon (horizon_with setup (one_more_of session history)))

-- the entry that a session's next command adds to a history; none where the session's script is used up
unfoldable pub next_entry : Setup → List Entry → ℕ → Option Entry
next_entry setup history session =
    let index = count_of history session + 1 in
    option_map (λ reply. record { session = session; index = index; reply = reply })
    (option_and_then (reply_to setup history session) (numbered (commands_of setup session) index))
