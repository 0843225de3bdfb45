use Rattle.std.proofs.Common.{◌∙◌, ◌++◌, ap, length}
use Rattle.exchange_model.specs.Parts.{Parts}
use Rattle.access_summary.proofs.Summed.{facts_begin, facts_more, facts_exact}
use Rattle.access_summary.proofs.least.least_facts.Goals as goal

pub loop-entry-init : goal.loop-entry-init
loop-entry-init c = (facts_begin c.args.exchange.now c.new-facts.result c.new-facts.ensures, c.in_ok-analyser.ensures)

pub loop-entry-preserved : goal.loop-entry-preserved
loop-entry-preserved c = (
  facts_more c.args.exchange.now c.loop-entry.entry c.loop-entry.facts c.in_ok-more.more
      c.push_all.new.self c.in_ok-more.ensures.exact c.in_ok-more.ensures.order
      (c.in_ok-push_all.ensures ∙ ap (λ l. c.loop-entry.facts ++ l) c.as_slice.ensures) c.loop-entry.invariant.0,
  c.in_ok-more.ensures.own,
)

pub returns-clause-exact : goal.returns-clause-exact
returns-clause-exact c = facts_exact c.args.exchange.now c.loop-entry.entry c.len-entry-end.result c.loop-entry.facts
    (c.len-entry-end.ensures ∙ ap (λ (v : Parts). length v.entries) c.exchange.view_is) c.loop-entry-test.false
    c.loop-entry.invariant.0
