use Rattle.resolved_block.specs.Statements.{typed_stmt, typed_when}
use Rattle.block_resolver.specs.Tables.{env_in}
use Rattle.block_resolver.proofs.Lists.{Turns}
use Rattle.block_resolver.proofs.statements.+statements.Given as goal

abbrev pub invariant-make_list-loop-s : goal.invariant-make_list-loop-s
invariant-make_list-loop-s l = Turns (typed_stmt (env_in l.names)) l.stmts l.s-index l.made l.point l.fn.point

abbrev pub invariant-make_whens-loop-w : goal.invariant-make_whens-loop-w
invariant-make_whens-loop-w l = Turns (typed_when (env_in l.names)) l.whens l.w-index l.made l.point l.fn.point
