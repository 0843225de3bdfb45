use Rattle.std.proofs.Common.{leb, rules}
use Rattle.std.proofs.lemmas.List.Sorted.{IsPartitionPoint-from_clause, IsPartitionedBy-leb}
use Rattle.store_layout.specs.declared.row.BlockRow.{BlockRow}
use Rattle.store_layout.proofs.Looking.{last_of}
use Rattle.store_layout.proofs.layout.last_block.Goals as goal

pub overflow_sub-result : goal.overflow_sub-result
overflow_sub-result c =
    let parted = IsPartitionedBy-leb (λ (r : BlockRow). r.first) c.args.rows.now c.args.word c.requires.sorted in
    let point = IsPartitionPoint-from_clause (λ (r : BlockRow). leb r.first c.args.word) c.args.rows.now
    c.partition_point.result c.partition_point.ensures.partitioned parted (λ a r q k. search rules) in
    (last_of (λ (r : BlockRow). r.first) c.args.rows.now c.args.word c.partition_point.result c.requires c.partition_point.ensures.bound point).0

pub returns : goal.returns
returns c =
    let parted = IsPartitionedBy-leb (λ (r : BlockRow). r.first) c.args.rows.now c.args.word c.requires.sorted in
    let point = IsPartitionPoint-from_clause (λ (r : BlockRow). leb r.first c.args.word) c.args.rows.now
    c.partition_point.result c.partition_point.ensures.partitioned parted (λ a r q k. search rules) in
    (last_of (λ (r : BlockRow). r.first) c.args.rows.now c.args.word c.partition_point.result c.requires c.partition_point.ensures.bound point).1
