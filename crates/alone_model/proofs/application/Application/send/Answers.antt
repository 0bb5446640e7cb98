use Rattle.std.proofs.Common.{◌≡◌, ◌%◌, arith}
use Rattle.bundle_model.specs.Ways.{ways_of}
use Rattle.alone_model.specs.inner.Exchange.{senders_of}
use Rattle.alone_model.specs.inner.Told.{app_of}
use Rattle.alone_model.proofs.Steps.{none_leaves, some_leave}
use Rattle.alone_model.proofs.application.Application.send.Goals as goal

pub returns-then-is_empty : goal.returns-then-is_empty
returns-then-is_empty c =
    let app = app_of c.args.self.now in
    let platform = c.args.platform.now in
    let senders = c.list_senders.new.senders.items in
    let are : senders ≡ senders_of (c.args.slot % platform.table_slots) 0 (ways_of c.args.bundle.now) = rw (c.from.ensures) at c.in_ok-list_senders.ensures in
    none_leaves platform c.args.bundle.now c.args.slot senders app are (grind arith) c.requires

pub returns : goal.returns
returns c =
    let app = app_of c.args.self.now in
    let platform = c.args.platform.now in
    let senders = c.list_senders.new.senders.items in
    let are : senders ≡ senders_of (c.args.slot % platform.table_slots) 0 (ways_of c.args.bundle.now) = rw (c.from.ensures) at c.in_ok-list_senders.ensures in
    let made = rw (c.as_slice.ensures.value, c.as_slice-2.ensures.value) at c.in_ok-flying.ensures in
    let done = some_leave platform c.args.bundle.now c.args.slot senders c.in_ok-flying.flying.items app are made in
    rw (c.leave_all.ensures, c.as_slice-4.ensures.value, c.in_ok-extend_from_slice.ensures.items, c.as_slice-3.ensures.value) done
