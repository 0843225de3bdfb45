use Rattle.text_walk.proofs.BlockSteps.{FieldsLeft}
use Rattle.text_walk.proofs.declarations.walk_fields.Given as goal

abbrev pub invariant-loop-d : goal.invariant-loop-d
invariant-loop-d l = FieldsLeft l.fields l.d-index l.file l.field l.out l.fn.out
