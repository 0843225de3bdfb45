use Rattle.std.proofs.Common.{rules}
use Rattle.std.proofs.lemmas.List.Sorted.{IsPartitionPoint-from_clause}
use Rattle.pair_tests.specs.declared.near.Bound.TheVariants.{Below}
use Rattle.pair_tests.specs.Nearby.{within}
use Rattle.pair_tests.proofs.Nearing.{parted}
use Rattle.conflict_rows.proofs.skip.count_below.Goals as goal

pub returns : goal.returns
returns c = record {
  there = c.partition_point.ensures.bound;
  parts = IsPartitionPoint-from_clause (within (Below c.args.bound)) _ _ c.partition_point.ensures.partitioned
      (parted (Below c.args.bound) _ c.requires) (λ a r q k. search rules);
}
