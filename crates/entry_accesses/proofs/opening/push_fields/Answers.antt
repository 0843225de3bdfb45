use Rattle.std.proofs.Common.{rules, refl}
use Rattle.entry_accesses.proofs.Opened.{file_at, first_has, opened_small, opened_there}
use Rattle.entry_accesses.proofs.opening.push_fields.Goals as goal

pub field-first-requires : goal.field-first-requires
field-first-requires c =
    let there = file_at c.args.exchange.now c.args.file c.in-Some.found.block c.in-Some.found.first c.in-Some.found.file.now c.in-Some.ensures in
    first_has c.args.exchange.now c.args.file _ c.kept.ensures there c.args.numbers.now c.requires

pub overflow_cast-end : goal.overflow_cast-end
overflow_cast-end c =
    let there = file_at c.args.exchange.now c.args.file c.in-Some.found.block c.in-Some.found.first c.in-Some.found.file.now c.in-Some.ensures in
    let small = opened_small c.args.exchange.now c.args.file _ c.kept.ensures there c.field-first.result c.len.result
    (c.field-first.ensures c.args.exchange.now c.requires) c.len.ensures in
    search (rules, small)

pub overflow_add-end : goal.overflow_add-end
overflow_add-end c =
    let there = file_at c.args.exchange.now c.args.file c.in-Some.found.block c.in-Some.found.first c.in-Some.found.file.now c.in-Some.ensures in
    let small = opened_small c.args.exchange.now c.args.file _ c.kept.ensures there c.field-first.result c.len.result
    (c.field-first.ensures c.args.exchange.now c.requires) c.len.ensures in
    search (rules, small)

pub returns : goal.returns
returns c =
    let there = file_at c.args.exchange.now c.args.file c.in-Some.found.block c.in-Some.found.first c.in-Some.found.file.now c.in-Some.ensures in
    opened_there c.args.exchange.now c.args.file _ c.kept.ensures there c.field-first.result c.len.result _
    c.args.all.now c.push_written.new.all (c.field-first.ensures c.args.exchange.now c.requires) c.len.ensures refl
    c.in_ok-push_written.ensures
