use Rattle.least_facts.proofs.Filling.{all_given, one_given, one_number, seen_number, some_given}
use Rattle.least_facts.proofs.giving.give.Goals as goal

pub returns-in_ok-grown-in-Of : goal.returns-in_ok-grown-in-Of
returns-in_ok-grown-in-Of c = all_given c.args.rows.now c.join.new.self c.args.entry c.args.from c.args.to c.in-Of.own
    c.args.slot c.args.source c.in_ok-grown-in-Of.grown c.requires.entry c.in-Of.is c.in_ok-grown-in-Of.ensures.joins
    c.in_ok-grown-in-Of.ensures.counted

pub give_values-requires-clause-number : goal.give_values-requires-clause-number
give_values-requires-clause-number c = seen_number c.args.rows.now c.args.entry c.args.from c.args.slot c.args.source
    c.in_ok-values-in_default.values c.as_slice.result.now c.in_ok-values-in_default.ensures c.as_slice.ensures
    c.requires.number

pub returns-in_ok-grown-in_default : goal.returns-in_ok-grown-in_default
returns-in_ok-grown-in_default c = some_given c.args.rows.now c.give_values.new.rows c.args.entry c.args.from c.args.to
    c.args.slot c.args.source c.in_ok-values-in_default.values c.as_slice.result.now c.in_ok-grown-in_default.grown
    c.in_ok-values-in_default.ensures c.as_slice.ensures c.in_ok-grown-in_default.ensures

pub give_value-requires-clause-number : goal.give_value-requires-clause-number
give_value-requires-clause-number c = one_number c.args.rows.now c.args.entry c.args.from c.args.slot c.args.source c.in-Is.value c.in-Is.is c.requires.number

pub returns-in_ok-grown-in-Is : goal.returns-in_ok-grown-in-Is
returns-in_ok-grown-in-Is c = one_given c.args.rows.now c.give_value.new.rows c.args.entry c.args.from c.args.to
    c.args.slot c.args.source c.in-Is.value c.in_ok-grown-in-Is.grown c.in-Is.is c.in_ok-grown-in-Is.ensures
