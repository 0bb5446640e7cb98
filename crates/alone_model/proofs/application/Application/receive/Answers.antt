use Rattle.std.proofs.Common.{◌≡◌, arith}
use Rattle.alone_model.specs.inner.Exchange.{arrivals_of}
use Rattle.alone_model.specs.inner.Told.{app_of}
use Rattle.alone_model.proofs.Steps.{none_due, some_due}
use Rattle.alone_model.proofs.application.Application.receive.Goals as goal

pub returns-then-is_empty : goal.returns-then-is_empty
returns-then-is_empty c =
    let app = app_of c.args.self.now in
    let arrivals = c.list_arrivals.new.arrivals.items in
    let are : arrivals ≡ arrivals_of c.args.bundle.now c.args.slot app.flying = rw (c.as_slice.ensures.value) at c.in_ok-list_arrivals.ensures in
    none_due c.args.bundle.now c.args.slot arrivals app are (grind arith) c.requires

pub returns : goal.returns
returns c =
    let app = app_of c.args.self.now in
    let arrivals = c.list_arrivals.new.arrivals.items in
    let are : arrivals ≡ arrivals_of c.args.bundle.now c.args.slot app.flying = rw (c.as_slice.ensures.value) at c.in_ok-list_arrivals.ensures in
    let done = some_due c.args.bundle.now c.args.slot arrivals app are in
    rw (c.arrive_all.ensures, c.as_slice-2.ensures.value, c.keep_flying.ensures) done
