use Rattle.interference_check.proofs.Staying.{all_exact, all_stay}
use Rattle.interference_check.proofs.granting.permit.Goals as goal

pub returns-clause-stays : goal.returns-clause-stays
returns-clause-stays c =
    all_stay c.args.exchange.now c.kept.ensures c.args.checked.now c.summary-summary.result.now c.args.start.now c.args.chains.now.chains
    c.summary-summary.ensures.it c.permit.result c.permit.ensures.reads c.permit.ensures.writes

pub returns-clause-exact : goal.returns-clause-exact
returns-clause-exact c =
    all_exact c.args.exchange.now c.args.checked.now c.summary-summary.result.now c.args.start.now c.args.chains.now.chains
    c.summary-summary.ensures.it c.permit.result c.permit.ensures.reads c.permit.ensures.writes
