use Rattle.std.proofs.Common.{rules, refl}
use Rattle.entry_accesses.specs.Numbered.{field_count}
use Rattle.entry_accesses.proofs.Numbering.{sums_more, sums_small, sums_end, sums_next}
use Rattle.entry_accesses.proofs.numbers.push_firsts.Goals as goal

pub overflow_cast-first : goal.overflow_cast-first
overflow_cast-first c =
    let small = sums_small field_count c.args.files.now c.loop-file.file-index c.loop-file.first c.args.start
    c.len.result c.file-item.result c.args.firsts.now c.loop-file.firsts c.loop-file-test.true c.file-item.is
    c.len.ensures c.requires c.loop-file.invariant in
    search (rules, small)

pub overflow_add-first : goal.overflow_add-first
overflow_add-first c =
    let small = sums_small field_count c.args.files.now c.loop-file.file-index c.loop-file.first c.args.start
    c.len.result c.file-item.result c.args.firsts.now c.loop-file.firsts c.loop-file-test.true c.file-item.is
    c.len.ensures c.requires c.loop-file.invariant in
    search (rules, small)

pub loop-file-preserved : goal.loop-file-preserved
loop-file-preserved c =
    sums_more field_count c.args.files.now c.loop-file.file-index c.loop-file.first c.args.start _ c.len.result
    c.file-item.result c.args.firsts.now c.loop-file.firsts c.push.new.self c.loop-file-test.true c.file-item.is
    c.len.ensures refl c.in_ok-push.ensures c.loop-file.invariant

pub returns-clause-list : goal.returns-clause-list
returns-clause-list c = sums_end field_count c.args.files.now c.loop-file.file-index c.loop-file.first c.args.start
    c.args.firsts.now c.loop-file.firsts c.loop-file-test.false c.loop-file.invariant

pub returns-clause-next : goal.returns-clause-next
returns-clause-next c = sums_next field_count c.args.files.now c.loop-file.file-index c.loop-file.first c.args.start
    c.args.firsts.now c.loop-file.firsts c.loop-file-test.false c.loop-file.invariant
