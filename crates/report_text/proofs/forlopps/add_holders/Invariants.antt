use Rattle.std.proofs.Common.{drop}
use Rattle.std.specs.List.{flat_map}
use Rattle.report_text.specs.Report.{chain_lines, held_lines}
use Rattle.report_text.proofs.Lines.{Left}
use Rattle.report_text.proofs.forlopps.add_holders.Given as goal

abbrev pub invariant-loop-number : goal.invariant-loop-number
invariant-loop-number l = Left l.fn.text l.text
    (flat_map (chain_lines l.exchange.blocks l.chains.chains) (drop l.number-index l.number-items))
    (held_lines l.exchange.blocks l.chains.chains)
