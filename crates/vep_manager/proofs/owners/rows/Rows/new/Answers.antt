use Rattle.std.proofs.Common.{ℕ, List, [], ap, ap₂, ◌∙◌, map}
use Rattle.vep_manager.specs.declared.owners.held.Held.{Held}
use Rattle.vep_manager.specs.inner.Shelf.{Shelf}
use Rattle.vep_manager.proofs.PoolRows.{empty_rows}
use Rattle.vep_manager.proofs.owners.rows.Rows.new.Goals as goal

pub returns : goal.returns
returns c =
    let made = c.in_ok-heads.ensures in
    let rows = empty_rows c.in_ok-heads.heads.items c.in_ok-pool.pool.items made.empty
    ∙ ap (λ rooms. map (λ room. []) rooms) made.rooms_are in
    ap₂ (λ (rs : List (List Held)) (rooms : List ℕ). let shelf : Shelf = record { rows = rs; rooms = rooms } in shelf)
    rows made.rooms_are
