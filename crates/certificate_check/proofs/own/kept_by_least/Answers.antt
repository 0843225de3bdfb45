use Rattle.std.proofs.Common.{subst, sym}
use Rattle.flow_points.specs.Facts.{IsLeast}
use Rattle.certificate_meaning.specs.Summaries.{AreSummaries}
use Rattle.certificate_check.proofs.Owning.{by_least, own_checked}
use Rattle.certificate_check.proofs.Summing.{few_summaries}
use Rattle.certificate_check.proofs.own.kept_by_least.Goals as goal

pub new-requires : goal.new-requires
new-requires c = few_summaries c.args.exchange.now (IsLeast c.args.exchange.now) c.args.summaries
    c.kept.ensures.limited.entries (by_least c.args.exchange.now c.args.summaries c.requires)

pub returns-clause-checked : goal.returns-clause-checked
returns-clause-checked c = own_checked c.args.exchange.now c.new.result (subst (AreSummaries c.args.exchange.now) (sym c.new.ensures) c.requires)

pub returns-clause-least : goal.returns-clause-least
returns-clause-least c = subst (AreSummaries c.args.exchange.now) (sym c.new.ensures) c.requires
