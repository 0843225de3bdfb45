use Rattle.text_walk.proofs.BlockSteps.{DeclsLeft}
use Rattle.text_walk.proofs.declarations.walk_decls.Given as goal

abbrev pub invariant-loop-d : goal.invariant-loop-d
invariant-loop-d l = DeclsLeft l.decls l.d-index l.variables l.temporaries l.files l.out l.fn.out
