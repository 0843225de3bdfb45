use Rattle.std.proofs.Common.{rules}
use Rattle.std.proofs.lemmas.List.Sorted.{IsPartitionPoint-from_clause}
use Rattle.pair_tests.specs.Nearby.{within}
use Rattle.pair_tests.proofs.Nearing.{parted}
use Rattle.pair_tests.proofs.near.search.Goals as goal

pub returns : goal.returns
returns c = record {
  there = c.partition_point.ensures.bound;
  parts = IsPartitionPoint-from_clause (within c.args.bound) _ _ c.partition_point.ensures.partitioned
      (parted c.args.bound _ c.requires) (λ a r q k. search rules);
}
