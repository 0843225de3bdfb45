use Rattle.std.proofs.Common.{arith, sym, ◌∙◌}
use Rattle.pair_tests.proofs.Skipping.{both_idle, own_idle, reads_idle}
use Rattle.conflict_rows.proofs.skip.next_near.Goals as goal

pub returns-in-Own : goal.returns-in-Own
returns-in-Own c = own_idle c.args.ones.now c.args.others.now c.in-Some.one c.behind.result c.in-Own.write
    c.in-Own.number c.args.place c.passed.result c.requires.ones (sym c.access_at.ensures ∙ c.in-Some.is) c.in-Own.is
    c.behind.ensures c.passed.ensures

pub returns-then-passes_reads : goal.returns-then-passes_reads
returns-then-passes_reads c = reads_idle c.args.ones.now c.args.others.now c.in-Some.one c.args.place
    c.apart_from-writes.result (sym c.passes_reads.ensures ∙ c.if-passes_reads.true) c.apart_from-writes.ensures

pub returns-then-reads-writes : goal.returns-then-reads-writes
returns-then-reads-writes c =
    let lt = c.if-reads-writes.true in
    both_idle c.args.ones.now c.args.others.now c.in-Some.one c.args.place c.apart_from-reads.result c.apart_from-writes.result c.apart_from-reads.result
    c.apart_from-reads.ensures.up (omega arith) (omega (arith, lt)) c.apart_from-reads.ensures c.apart_from-writes.ensures

pub returns : goal.returns
returns c =
    let le = c.if-reads-writes.false in
    both_idle c.args.ones.now c.args.others.now c.in-Some.one c.args.place c.apart_from-reads.result c.apart_from-writes.result c.apart_from-writes.result
    c.apart_from-writes.ensures.up (omega (arith, le)) (omega arith) c.apart_from-reads.ensures c.apart_from-writes.ensures
