use Rattle.std.proofs.Common.{drop}
use Rattle.std.specs.List.{flat_map, range_with_len}
use Rattle.report_text.specs.Names.{placed}
use Rattle.report_text.specs.Report.{file_lines, record_lines}
use Rattle.report_text.proofs.Lines.{Left}
use Rattle.report_text.proofs.stored.add_file.Given as goal

abbrev pub invariant-loop-number : goal.invariant-loop-number
invariant-loop-number l = Left l.fn.text l.text
    (flat_map (record_lines l.exchange.blocks l.store (placed l.place))
    (drop l.number (range_with_len 0 l.place.file.now.size))) (file_lines l.exchange.blocks l.store (placed l.place))
