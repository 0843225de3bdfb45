use Rattle.std.proofs.Common.{length, ap, ◌∙◌, arith}
use Rattle.shared_store.proofs.Sampled.{adding_apart, beside_one, taken_cells}
use Rattle.shared_store.proofs.tests.add_in_two_threads.Goals as goal

pub lend-other-requires-clause-permit : goal.lend-other-requires-clause-permit
lend-other-requires-clause-permit g c = beside_one _ c.args.root.now.1 c.any_start-start.result c.args.first
    c.args.second (ap (λ r. r.1.loans) c.lend-one.ensures.root) c.requires.loans
    (adding_apart c.args.first c.args.second 2 0 1 c.requires.first c.requires.second (λ e. omega (arith, e)) (λ e. omega (arith, e)) (λ e. omega (arith, e)))

pub returns-clause-cells : goal.returns-clause-cells
returns-clause-cells g c = taken_cells _ _ c.take_back.new.root.1 c.join-one.result.0.1 c.take_back-2.ensures
    ∙ (taken_cells _ _ c.lend-other.new.root.1 c.join-one.result.1.1 c.take_back.ensures
    ∙ (ap (λ r. length r.1.values) c.lend-other.ensures.root ∙ (ap (λ r. length r.1.values) c.lend-one.ensures.root ∙ c.requires.cells)))
