use Rattle.start_permit.proofs.Tabled.{WordsGo}
use Rattle.start_permit.proofs.table.words_of_variables.Given as goal

abbrev pub invariant-loop-block : goal.invariant-loop-block
invariant-loop-block l = WordsGo l.blocks l.block-index l.cell l.words
