use Rattle.entry_accesses.specs.Numbered.{field_count}
use Rattle.entry_accesses.proofs.Numbering.{SumsGo}
use Rattle.entry_accesses.proofs.numbers.push_firsts.Given as goal

abbrev pub invariant-loop-file : goal.invariant-loop-file
invariant-loop-file l = SumsGo field_count l.files l.file-index l.first l.start l.fn.firsts l.firsts
