use Rattle.std.proofs.Common.{◌≡◌, ◌++◌, map, take}
use Rattle.std.specs.List.{flat_map}
use Rattle.certificate_text.specs.Text.{fact_line}
use Rattle.certificate_text.proofs.print.print_facts.Given as goal
use Rattle.text_lines.specs.Lines.{ended}

abbrev pub invariant-loop-fact : goal.invariant-loop-fact
invariant-loop-fact l = l.text ≡ l.fn.text ++ flat_map ended (map fact_line (take l.fact-index l.facts))
