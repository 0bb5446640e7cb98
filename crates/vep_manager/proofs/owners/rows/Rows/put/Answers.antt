use Rattle.std.proofs.Common.{◌≡◌, ◌+◌, cond, List, [], ◌++◌, length, map, take, drop, get_or, set, sym, ap, ◌∙◌, subst, arith}
use Rattle.std.proofs.lemmas.List.{with_items_is}
use Rattle.vep_manager.specs.declared.owners.held.Held.{Held}
use Rattle.vep_manager.specs.declared.owners.rows.Head.{Head}
use Rattle.vep_manager.specs.inner.Shelf.{Shelf}
use Rattle.vep_manager.specs.inner.Held.{IsInOrder, held_count}
use Rattle.vep_manager.specs.inner.Rows.{IsLaidOut, IsSameAround, row_in}
use Rattle.vep_manager.proofs.PoolRows.{IsPut, there, read, was, has_room, laid_more, same_rooms, row_here, other_rows}
use Rattle.vep_manager.proofs.owners.rows.Rows.put.Goals as goal
use Rattle.vep_manager.proofs.owners.rows.Rows.put.Goals.{After-index_mut}

put : (c : After-index_mut)
    → IsPut c.self.inside.heads.items c.self.inside.pool.items c.add.new.pool c.args.number c.index-head.result.now
    c.longer.result
put c = record {
  laid = c.self.invariant;
  inside = there c.self.inside.heads.items c.self.inside.pool.items c.args.self.now c.args.number
      c.index-head.result.now c.self.view_is c.requires.there c.index-head.ensures;
  is = read c.self.inside.heads.items c.self.inside.pool.items c.args.self.now c.args.number c.index-head.result.now
      c.self.view_is c.requires.there c.index-head.ensures;
  room = has_room c.self.inside.heads.items c.self.inside.pool.items c.args.self.now c.args.number
      c.index-head.result.now c.self.view_is c.requires.there c.index-head.ensures c.self.invariant c.requires.room;
  around = subst (λ (l : List Held). IsSameAround c.index-head.result.now l c.add.new.pool) c.as_mut_slice.ensures.value
      c.add.ensures.around;
  is_longer = c.longer.ensures;
}

-- what is written back is what the call left
pool_is : (c : After-index_mut)
    → take c.self.inside.pool.len (c.add.new.pool ++ drop (length c.add.new.pool) c.self.inside.pool.items)
    ≡ c.add.new.pool
pool_is c =
    with_items_is c.self.inside.pool c.add.new.pool
    (omega (arith, (put c).around.len, c.self.inside.pool.ok))

new_row : (c : After-index_mut)
    → get_or (map (row_in (take c.self.inside.pool.len (c.add.new.pool
    ++ drop (length c.add.new.pool) c.self.inside.pool.items)))
    (set c.self.inside.heads.items c.args.number c.longer.result)) c.args.number []
    ≡ row_in c.add.new.pool (record c.index-head.result.now { len = c.index-head.result.now.len + 1 })
new_row c =
    let heads : List Head = set c.self.inside.heads.items c.args.number c.longer.result in
    ap (λ (l : List Held). get_or (map (row_in l) heads) c.args.number []) (pool_is c)
    ∙ row_here c.self.inside.heads.items c.self.inside.pool.items c.add.new.pool c.args.number c.index-head.result.now
    c.longer.result (put c)
    ∙ ap (row_in c.add.new.pool) c.longer.ensures

pub add-requires-clause-order : goal.add-requires-clause-order
add-requires-clause-order c =
    subst IsInOrder
    (was c.self.inside.heads.items c.self.inside.pool.items c.args.self.now c.args.number c.index-head.result.now
    c.self.view_is c.requires.there c.index-head.ensures
    ∙ ap (λ (l : List Held). row_in l c.index-head.result.now) (sym c.as_mut_slice.ensures.value))
    c.requires.order

pub longer-requires : goal.longer-requires
longer-requires c =
    has_room c.self.inside.heads.items c.self.inside.pool.items c.args.self.now c.args.number c.index-head.result.now
    c.self.view_is c.requires.there c.index-head.ensures c.self.invariant c.requires.room

pub invariant_of-self : goal.invariant_of-self
invariant_of-self c =
    let h = (goal.at.invariant_of-self c).After-index_mut in
    subst (λ (l : List Held). IsLaidOut (set h.self.inside.heads.items h.args.number h.longer.result) l)
    (sym (pool_is h))
    (laid_more h.self.inside.heads.items h.self.inside.pool.items h.add.new.pool h.args.number h.index-head.result.now
    h.longer.result (put h))

pub returns-clause-rooms : goal.returns-clause-rooms
returns-clause-rooms c =
    let h = (goal.at.returns-clause-rooms c).After-index_mut in
    same_rooms h.self.inside.heads.items h.self.inside.pool.items h.add.new.pool h.args.number h.index-head.result.now
    h.longer.result (put h)
    ∙ ap (λ (s : Shelf). s.rooms) h.self.view_is

pub returns-clause-others : goal.returns-clause-others
returns-clause-others c = λ other apart.
    let h = (goal.at.returns-clause-others c).After-index_mut in
    let heads : List Head = set h.self.inside.heads.items h.args.number h.longer.result in
    ap (λ (l : List Held). get_or (map (row_in l) heads) other []) (pool_is h)
    ∙ other_rows h.self.inside.heads.items h.self.inside.pool.items h.add.new.pool h.args.number
    h.index-head.result.now h.longer.result (put h) other apart
    ∙ ap (λ (s : Shelf). get_or s.rows other []) h.self.view_is

pub returns-clause-order : goal.returns-clause-order
returns-clause-order c =
    let h = (goal.at.returns-clause-order c).After-index_mut in
    subst IsInOrder (sym (new_row h)) h.add.ensures.order

pub returns-clause-held : goal.returns-clause-held
returns-clause-held c = λ test.
    let h = (goal.at.returns-clause-held c).After-index_mut in
    let old = was h.self.inside.heads.items h.self.inside.pool.items h.args.self.now h.args.number
    h.index-head.result.now h.self.view_is h.requires.there h.index-head.ensures
    ∙ ap (λ (l : List Held). row_in l h.index-head.result.now) (sym h.as_mut_slice.ensures.value) in
    ap (held_count test) (new_row h) ∙ h.add.ensures.held test
    ∙ ap (λ (l : List Held). held_count test l + cond (test h.args.resource h.args.grant) 1 0) (sym old)
