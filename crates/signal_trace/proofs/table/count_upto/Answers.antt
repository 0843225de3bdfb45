use Rattle.std.proofs.Common.{rules}
use Rattle.std.specs.Ordering.{is_le}
use Rattle.std.proofs.lemmas.List.Sorted.{IsPartitionPoint-from_clause}
use Rattle.signal_trace.specs.declared.table.Row.{Row}
use Rattle.signal_trace.specs.Table.{start_order}
use Rattle.signal_trace.proofs.Tabling.{parted}
use Rattle.signal_trace.proofs.table.count_upto.Goals as goal

pub returns : goal.returns
returns c = record {
  there = c.partition_point.ensures.bound;
  parts = IsPartitionPoint-from_clause (λ (r : Row). is_le (start_order r.start c.args.start)) _ _
      c.partition_point.ensures.partitioned (parted c.args.start _ c.requires) (λ a r q k. search rules);
}
