use Rattle.entry_accesses.proofs.Selecting.{variable_given, own_given, seizes_given, frees_given}
use Rattle.entry_accesses.proofs.Selecting.{field_selected}
use Rattle.entry_accesses.proofs.accesses.push_one.Goals as goal

pub returns-in_ok-push-in-Variable : goal.returns-in_ok-push-in-Variable
returns-in_ok-push-in-Variable g c =
    let P = g.K.KnownFacts.knows c.args.known.now in
    variable_given P c.args.entry c.args.point c.in-Variable.write c.in-Variable.number c.args.used c.args.accesses.now
    c.push.new.self c.in-Variable.is c.in_ok-push-in-Variable.ensures

pub returns-in_ok-push_selected-in-Field : goal.returns-in_ok-push_selected-in-Field
returns-in_ok-push_selected-in-Field g c =
    let P = g.K.KnownFacts.knows c.args.known.now in
    field_selected P c.args.entry c.args.point c.in-Field.write c.in-Field.number c.in-Field.selector c.args.used
    c.in_ok-selectors-in-Field.selectors c.as_slice.result.now c.args.accesses.now c.push_selected.new.accesses
    c.in-Field.is c.in_ok-selectors-in-Field.ensures c.as_slice.ensures c.in_ok-push_selected-in-Field.ensures

pub returns-in_ok-push-in-Own : goal.returns-in_ok-push-in-Own
returns-in_ok-push-in-Own g c =
    let P = g.K.KnownFacts.knows c.args.known.now in
    own_given P c.args.entry c.args.point c.in-Own.write c.in-Own.number c.args.used c.args.accesses.now
    c.push-in-Own.new.self c.in-Own.is c.in_ok-push-in-Own.ensures

pub returns-in_ok-push-in-Seizes : goal.returns-in_ok-push-in-Seizes
returns-in_ok-push-in-Seizes g c =
    let P = g.K.KnownFacts.knows c.args.known.now in
    seizes_given P c.args.entry c.args.point c.in-Seizes.file c.args.used c.args.accesses.now c.push-in-Seizes.new.self
    c.in-Seizes.is c.in_ok-push-in-Seizes.ensures

pub returns-in_ok-push-in-Frees : goal.returns-in_ok-push-in-Frees
returns-in_ok-push-in-Frees g c =
    let P = g.K.KnownFacts.knows c.args.known.now in
    frees_given P c.args.entry c.args.point c.in-Frees.file c.args.used c.args.accesses.now c.push-in-Frees.new.self c.in-Frees.is c.in_ok-push-in-Frees.ensures
