use Rattle.std.proofs.Common.{◌∙◌, ◌<◌, ap, length, subst}
use Rattle.exchange_model.specs.Parts.{Parts}
use Rattle.flow_points.specs.Facts.{IsLeast}
use Rattle.least_facts.specs.Giving.{IsOwnLeast}
use Rattle.entry_summary.specs.Summaries.{IsSummary}
use Rattle.access_summary.proofs.Summed.{is_past, passed_one, same_part, summaries_begin}
use Rattle.access_summary.proofs.Summed.{summaries_more, summaries_end, whole_by, work_begin}
use Rattle.access_summary.proofs.Summed.{work_more}
use Rattle.access_summary.proofs.least.summaries_within.Goals as goal

pub loop-entry-init : goal.loop-entry-init
loop-entry-init c = (
  summaries_begin c.args.exchange.now c.new-summaries.result c.new-summaries.ensures,
  c.in_ok-analyser.ensures,
  work_begin c.args.exchange.now,
)

pub excess_of-requires : goal.excess_of-requires
excess_of-requires c = (passed_one (IsOwnLeast c.args.exchange.now c.loop-entry.entry)
    (IsSummary c.args.exchange.now (IsLeast c.args.exchange.now) c.loop-entry.entry) c.args.most
    c.most_of_entry-bound.result c.loop-entry.before c.in_ok-summed.summed c.in-Over.looks c.most_of_entry-bound.ensures
    c.in-Over.is c.in_ok-summed.ensures.summed).0

pub returns-in-Over : goal.returns-in-Over
returns-in-Over c =
    is_past c.args.exchange.now c.args.most c.loop-entry.before c.in-Over.looks c.loop-entry.entry c.excess_of.result c.excess_of.ensures
    (subst (λ n. c.loop-entry.entry < n) (c.len-entry-end.ensures ∙ ap (λ (v : Parts). length v.entries) c.exchange.view_is) c.loop-entry-test.true)
    (passed_one (IsOwnLeast c.args.exchange.now c.loop-entry.entry)
    (IsSummary c.args.exchange.now (IsLeast c.args.exchange.now) c.loop-entry.entry) c.args.most
    c.most_of_entry-bound.result c.loop-entry.before c.in_ok-summed.summed c.in-Over.looks
    c.most_of_entry-bound.ensures c.in-Over.is c.in_ok-summed.ensures.summed).1
    c.loop-entry.invariant.2

pub loop-entry-preserved : goal.loop-entry-preserved
loop-entry-preserved c = (
  summaries_more c.args.exchange.now c.loop-entry.entry c.in-Whole.summary c.loop-entry.summaries c.push.new.self
      (whole_by (IsOwnLeast c.args.exchange.now c.loop-entry.entry)
      (IsSummary c.args.exchange.now (IsLeast c.args.exchange.now) c.loop-entry.entry) c.most_of_entry-bound.result
      c.in_ok-summed.summed c.in-Whole.summary c.in-Whole.looks c.in-Whole.is c.in_ok-summed.ensures.summed).0
      c.in_ok-push-in-Whole.ensures c.loop-entry.invariant.0,
  c.in_ok-summed.ensures.own,
  work_more c.args.exchange.now c.loop-entry.entry c.loop-entry.before c.in-Whole.looks c.with_more-before.result _
      (same_part c.len-points.result _ (c.len-points.ensures ∙ c.in_ok-table.ensures.rows.each_point))
      c.with_more-before.ensures
      (whole_by (IsOwnLeast c.args.exchange.now c.loop-entry.entry)
      (IsSummary c.args.exchange.now (IsLeast c.args.exchange.now) c.loop-entry.entry) c.most_of_entry-bound.result
      c.in_ok-summed.summed c.in-Whole.summary c.in-Whole.looks c.in-Whole.is c.in_ok-summed.ensures.summed).1
      c.loop-entry.invariant.2,
)

pub returns : goal.returns
returns c = summaries_end c.args.exchange.now c.loop-entry.entry c.len-entry-end.result c.loop-entry.summaries
    (c.len-entry-end.ensures ∙ ap (λ (v : Parts). length v.entries) c.exchange.view_is) c.loop-entry.auto.entry-end
    c.loop-entry-test.false c.loop-entry.invariant.0
