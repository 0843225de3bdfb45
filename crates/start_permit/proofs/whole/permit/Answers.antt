use Rattle.std.proofs.Common.{◌∙◌}
use Rattle.start_permit.proofs.Rowing.{reads_told, writes_told}
use Rattle.start_permit.proofs.whole.permit.Goals as goal

pub returns-clause-reads : goal.returns-clause-reads
returns-clause-reads c =
    reads_told c.args.exchange.now c.args.summary.now c.args.start.now c.args.chains.now.chains
    c.as_slice-held.result.now c.as_slice-all.result.now (c.as_slice-held.ensures ∙ c.in_ok-records.ensures.records)
    c.as_slice-all.ensures
    c.in_ok-reads.reads c.in_ok-writes.writes c.in_ok-reads.ensures c.in_ok-writes.ensures

pub returns-clause-writes : goal.returns-clause-writes
returns-clause-writes c =
    writes_told c.args.exchange.now c.args.summary.now c.args.start.now c.args.chains.now.chains
    c.as_slice-held.result.now c.as_slice-all.result.now (c.as_slice-held.ensures ∙ c.in_ok-records.ensures.records)
    c.as_slice-all.ensures
    c.in_ok-writes.writes c.in_ok-writes.ensures
