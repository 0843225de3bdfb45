use Rattle.std.proofs.Common.{drop, map}
use Rattle.report_text.specs.Report.{held_line}
use Rattle.report_text.proofs.Lines.{Left}
use Rattle.report_text.proofs.forlopps.add_chain.Given as goal

abbrev pub invariant-loop-held : goal.invariant-loop-held
invariant-loop-held l = Left l.fn.text l.text (map (held_line l.exchange.blocks l.forlopp) (drop l.held-index l.chain))
    (map (held_line l.exchange.blocks l.forlopp) l.chain)
