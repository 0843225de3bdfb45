use Rattle.std.proofs.Common.{◌++◌, map}
use Rattle.entry_faults.specs.Exprs.{expr_seen}
use Rattle.entry_faults.specs.Fields.{pointers_in}
use Rattle.entry_faults.proofs.Faulting.{all_fields_more, all_fields_end}
use Rattle.entry_faults.proofs.statement.push_all_fields.Goals as goal

pub loop-one-preserved : goal.loop-one-preserved
loop-one-preserved c = all_fields_more c.args.exprs.now c.loop-one.one-index c.one-item.result c.loop-one.pointers
    c.push_fields.new.pointers (c.args.pointers.now ++ pointers_in (map expr_seen c.args.exprs.now))
    c.loop-one-test.true c.one-item.is c.in_ok-push_fields.ensures c.loop-one.invariant

pub returns : goal.returns
returns c = all_fields_end c.args.exprs.now c.loop-one.one-index c.loop-one.pointers
    (c.args.pointers.now ++ pointers_in (map expr_seen c.args.exprs.now)) c.loop-one-test.false c.loop-one.invariant
