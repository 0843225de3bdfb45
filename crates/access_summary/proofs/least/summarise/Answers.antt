use Rattle.flow_points.specs.Facts.{IsLeast}
use Rattle.least_facts.specs.Giving.{IsOwnLeast}
use Rattle.entry_summary.specs.Summaries.{IsSummary}
use Rattle.access_summary.proofs.Summed.{all_found, found_over, summary_found}
use Rattle.access_summary.proofs.least.summarise.Goals as goal

pub by_learned-requires-clause-learned : goal.by_learned-requires-clause-learned
by_learned-requires-clause-learned c = all_found (IsOwnLeast c.args.exchange.now c.args.entry) c.args.most
    c.in_ok-looked.looked c.in-Whole.looks c.in-Whole.is c.in_ok-looked.ensures.learned

pub all_by_learned-requires-clause-learned : goal.all_by_learned-requires-clause-learned
all_by_learned-requires-clause-learned c = all_found (IsOwnLeast c.args.exchange.now c.args.entry) c.args.most
    c.in_ok-looked.looked c.in-Whole.looks c.in-Whole.is c.in_ok-looked.ensures.learned

pub returns-in-Over-clause-summed : goal.returns-in-Over-clause-summed
returns-in-Over-clause-summed c = found_over _ (IsOwnLeast c.args.exchange.now c.args.entry) c.args.most
    c.in_ok-looked.looked c.in-Over.looks c.in-Over.is c.in_ok-looked.ensures.learned

pub returns-in_ok-looks-in-Whole-summed-clause-summed : goal.returns-in_ok-looks-in-Whole-summed-clause-summed
returns-in_ok-looks-in-Whole-summed-clause-summed c = (
  summary_found (IsSummary c.args.exchange.now (IsLeast c.args.exchange.now) c.args.entry) c.left-rest.result
      c.in_ok-summed.summed c.in-Whole-summed.summary c.in-Whole-summed.more c.in-Whole-summed.is
      c.in_ok-summed.ensures,
  c.in_ok-looks-in-Whole-summed.ensures c.args.exchange.now c.args.entry
      (all_found (IsOwnLeast c.args.exchange.now c.args.entry) c.args.most c.in_ok-looked.looked c.in-Whole.looks c.in-Whole.is c.in_ok-looked.ensures.learned),
)

pub returns-in_ok-summary-in-Over-summed-clause-summed : goal.returns-in_ok-summary-in-Over-summed-clause-summed
returns-in_ok-summary-in-Over-summed-clause-summed c = (
  c.in_ok-summary-in-Over-summed.ensures,
  c.in_ok-looks-in-Over-summed.ensures c.args.exchange.now c.args.entry
      (all_found (IsOwnLeast c.args.exchange.now c.args.entry) c.args.most c.in_ok-looked.looked c.in-Whole.looks c.in-Whole.is c.in_ok-looked.ensures.learned),
)
