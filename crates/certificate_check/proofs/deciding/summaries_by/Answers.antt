use Rattle.std.proofs.Common.{◌∙◌, ap, length}
use Rattle.std.specs.List.{Contains}
use Rattle.exchange_model.specs.Parts.{Parts}
use Rattle.certificate_check.proofs.Summing.{summaries_end, summaries_more}
use Rattle.certificate_check.proofs.deciding.summaries_by.Goals as goal

pub loop-entry-preserved : goal.loop-entry-preserved
loop-entry-preserved c = summaries_more c.args.exchange.now (Contains c.args.known.now) c.loop-entry.entry
    c.in_ok-one.one c.loop-entry.summaries c.in_ok-one.ensures c.loop-entry.invariant c.push.new.self
    c.in_ok-push.ensures

pub returns : goal.returns
returns c = summaries_end c.args.exchange.now (Contains c.args.known.now) c.loop-entry.entry c.len-entry-end.result
    c.loop-entry.summaries (c.len-entry-end.ensures ∙ ap (λ (v : Parts). length v.entries) c.exchange.view_is)
    c.loop-entry.auto.entry-end c.loop-entry-test.false c.loop-entry.invariant
