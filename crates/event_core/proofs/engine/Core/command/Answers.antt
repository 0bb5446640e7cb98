use Rattle.std.proofs.Common.{◌∙◌, ap, map}
use Rattle.event_core.specs.declared.event.Event.TheVariants.{Command}
use Rattle.event_core.specs.Core.{Engaged, after_event}
use Rattle.event_core.specs.inner.Wires.{line_of}
use Rattle.event_core.proofs.Engaged.{command_on}
use Rattle.event_core.proofs.engine.Core.command.Goals as goal

pub invariant_of-self : goal.invariant_of-self
invariant_of-self c =
    let inside = c.self.inside in
    let commit = c.commit-entry.ensures in
    let copied = c.copy_since.ensures in
    (command_on inside.manager c.commit-entry.new.self inside.places.items (map line_of inside.wires.items) inside.schedule c.copy_since.new.into c.args.session c.commit-entry.result c.self.invariant
    (record { entry_is = commit.entry; appended = commit.appended; legal = commit.legal })
    (record { grants_are = copied.grants; horizon_is = copied.horizon; room_is = copied.room })).1

pub returns-clause-done : goal.returns-clause-done
returns-clause-done c =
    let inside = c.self.inside in
    let commit = c.commit-entry.ensures in
    let copied = c.copy_since.ensures in
    (command_on inside.manager c.commit-entry.new.self inside.places.items (map line_of inside.wires.items) inside.schedule c.copy_since.new.into c.args.session c.commit-entry.result c.self.invariant
    (record { entry_is = commit.entry; appended = commit.appended; legal = commit.legal })
    (record { grants_are = copied.grants; horizon_is = copied.horizon; room_is = copied.room })).0
    ∙ ap (λ (e : Engaged). after_event e (Command c.args.session)) c.self.view_is
