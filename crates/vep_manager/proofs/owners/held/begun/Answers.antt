use Rattle.std.proofs.Common.{rules}
use Rattle.std.specs.Prelude.{nat_le}
use Rattle.std.proofs.lemmas.Bool.{leb-false}
use Rattle.std.proofs.lemmas.List.Sorted.{IsPartitionPoint-from_clause, IsPartitionedBy-leb}
use Rattle.vep_manager.specs.inner.Places.{low_of, high_of}
use Rattle.vep_manager.specs.declared.owners.held.Held.{Held}
use Rattle.vep_manager.proofs.owners.held.begun.Goals as goal

pub returns : goal.returns
returns c =
    let high = high_of c.args.resource.now in
    let parted = IsPartitionedBy-leb (λ (h : Held). low_of h.resource) c.args.row.now high
    (λ i j d le below. (c.requires i j d le below).begins) in
    let point = IsPartitionPoint-from_clause (λ (h : Held). nat_le (low_of h.resource) high) _ _
    c.partition_point.ensures.partitioned parted (λ a r q k. search rules) in
    record {
      within = c.partition_point.ensures.bound;
      later = λ k d from below. leb-false _ _ (point.1 k d from below);
    }
