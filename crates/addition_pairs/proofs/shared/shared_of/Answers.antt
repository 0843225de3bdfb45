use Rattle.addition_pairs.proofs.Sparing.{both_of}
use Rattle.addition_pairs.proofs.shared.shared_of.Goals as goal

pub returns-clause-shared : goal.returns-clause-shared
returns-clause-shared c = record {
  variables = both_of c.args.first.now.variables c.args.later.now.variables c.as_slice.result.now
      c.as_slice-2.result.now c.in_ok-variables.variables c.as_slice.ensures c.as_slice-2.ensures
      c.in_ok-variables.ensures.both;
  fields = both_of c.args.first.now.fields c.args.later.now.fields c.as_slice-3.result.now c.as_slice-4.result.now
      c.in_ok-fields.fields c.as_slice-3.ensures c.as_slice-4.ensures c.in_ok-fields.ensures.both;
}

pub returns-clause-rising : goal.returns-clause-rising
returns-clause-rising c = record { variables = c.in_ok-variables.ensures.rising; fields = c.in_ok-fields.ensures.rising }
