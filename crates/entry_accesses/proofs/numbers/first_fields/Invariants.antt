use Rattle.entry_accesses.proofs.Numbering.{FieldsGo}
use Rattle.entry_accesses.proofs.numbers.first_fields.Given as goal

abbrev pub invariant-loop-block : goal.invariant-loop-block
invariant-loop-block l = FieldsGo l.blocks l.block-index l.first l.firsts
