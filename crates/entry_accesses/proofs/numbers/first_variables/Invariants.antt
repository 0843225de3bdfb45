use Rattle.std.proofs.Common.{[]}
use Rattle.entry_accesses.specs.Numbered.{variable_count}
use Rattle.entry_accesses.proofs.Numbering.{SumsGo}
use Rattle.entry_accesses.proofs.numbers.first_variables.Given as goal

abbrev pub invariant-loop-block : goal.invariant-loop-block
invariant-loop-block l = SumsGo variable_count l.blocks l.block-index l.first 0 [] l.firsts
