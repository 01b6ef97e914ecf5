use Rattle.std.proofs.Common.{ltb, rules}
use Rattle.std.proofs.lemmas.Bool.{ltb-true, ltb-false}
use Rattle.std.proofs.lemmas.List.Sorted.{IsPartitionPoint-from_clause, IsPartitionedBy-ltb}
use Rattle.mirror_blame.specs.declared.places.Place.{Place}
use Rattle.mirror_blame.proofs.places.start_of.Goals as goal

pub returns-clause-before : goal.returns-clause-before
returns-clause-before c =
    let point = IsPartitionPoint-from_clause (λ (y : Place). ltb y.piece c.args.piece) c.args.places.now c.partition_point.result c.partition_point.ensures.partitioned
    (IsPartitionedBy-ltb (λ (y : Place). y.piece) c.args.places.now c.args.piece c.requires) (λ a r f' k. search rules) in
    λ k d low high. ltb-true _ _ (point.0 k d low high)

pub returns-clause-from : goal.returns-clause-from
returns-clause-from c =
    let point = IsPartitionPoint-from_clause (λ (y : Place). ltb y.piece c.args.piece) c.args.places.now c.partition_point.result c.partition_point.ensures.partitioned
    (IsPartitionedBy-ltb (λ (y : Place). y.piece) c.args.places.now c.args.piece c.requires) (λ a r f' k. search rules) in
    λ k d low high. ltb-false _ _ (point.1 k d low high)
