use Rattle.std.proofs.Common.{rules, ◌≡◌}
use Rattle.exchange_model.specs.declared.stmt.When.{out-When}
use Rattle.source_interpreter.specs.Cases.{numbers_of}
use Rattle.source_interpreter.proofs.Choosing.{chosen_nowhere, chosen_there}
use Rattle.source_interpreter.proofs.control.chosen_by.Goals as goal

pub returns-in-Some : goal.returns-in-Some
returns-in-Some c =
    let same : c.as_slice.result.now ≡ (out-When c.in-Some.when.now).body = search rules in
    chosen_there c.args.whens.now c.args.number c.args.otherwise.now c.first_place.result
    (c.first_place.ensures (numbers_of c.args.whens.now) c.requires) c.in-Some.when.now c.as_slice.result.now
    c.in-Some.ensures same

pub returns-in-None : goal.returns-in-None
returns-in-None c =
    chosen_nowhere c.args.whens.now c.args.number c.args.otherwise.now c.first_place.result
    (c.first_place.ensures (numbers_of c.args.whens.now) c.requires) c.in-None.ensures
