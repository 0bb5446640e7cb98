use Rattle.std.proofs.Common.{◌≡◌, ◌+◌, ◌-◌, List, length, set, drop, sym, ap, ◌∙◌, subst, arith, length-set, length-take, length-drop}
use Rattle.vep_manager.specs.declared.owners.held.Held.{Held}
use Rattle.vep_manager.specs.inner.Held.{IsInOrder, IsInOrderBut, held_count}
use Rattle.vep_manager.specs.inner.Rows.{row_in}
use Rattle.vep_manager.proofs.PoolRows.{added, order_added, held_added, row_written}
use Rattle.vep_manager.proofs.owners.rows.add.Goals as goal

pub settle-requires-clause-order : goal.settle-requires-clause-order
settle-requires-clause-order c =
    let head = c.args.head in
    let held : Held = record { resource = c.args.resource; grant = c.args.grant; reach = c.high-reach.result } in
    subst (λ (xs : List Held). IsInOrderBut (length xs - 1) xs)
    (sym (added c.args.pool.now head.begin head.len held c.requires.room))
    (order_added (row_in c.args.pool.now head) held c.requires.order)

pub returns-clause-order : goal.returns-clause-order
returns-clause-order c =
    let head = c.args.head in
    let held : Held = record { resource = c.args.resource; grant = c.args.grant; reach = c.high-reach.result } in
    let pool : List Held = set c.args.pool.now (head.begin + head.len) held in
    let low = length-set c.args.pool.now (head.begin + head.len) held in
    let size : length c.settle.new.row ≡ head.begin + head.len + 1 - head.begin =
    omega (
      arith,
      c.settle.auto.row,
      length-take (head.begin + head.len + 1 - head.begin) (drop head.begin pool),
      length-drop head.begin pool,
      low,
      c.requires.room,
    ) in
    subst IsInOrder
    (sym (row_written pool c.settle.new.row head.begin head.len head.room (omega (arith, low, c.requires.room)) size))
    c.settle.ensures.order

pub returns-clause-held : goal.returns-clause-held
returns-clause-held c = λ test.
    let head = c.args.head in
    let held : Held = record { resource = c.args.resource; grant = c.args.grant; reach = c.high-reach.result } in
    let pool : List Held = set c.args.pool.now (head.begin + head.len) held in
    let low = length-set c.args.pool.now (head.begin + head.len) held in
    let size : length c.settle.new.row ≡ head.begin + head.len + 1 - head.begin =
    omega (
      arith,
      c.settle.auto.row,
      length-take (head.begin + head.len + 1 - head.begin) (drop head.begin pool),
      length-drop head.begin pool,
      low,
      c.requires.room,
    ) in
    ap (held_count test)
    (row_written pool c.settle.new.row head.begin head.len head.room (omega (arith, low, c.requires.room)) size)
    ∙ c.settle.ensures.held test
    ∙ ap (held_count test) (added c.args.pool.now head.begin head.len held c.requires.room)
    ∙ held_added test (row_in c.args.pool.now head) held
