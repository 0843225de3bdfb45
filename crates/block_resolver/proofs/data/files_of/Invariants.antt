use Rattle.block_resolver.proofs.Files.{Filed}
use Rattle.block_resolver.proofs.data.files_of.Given as goal

abbrev pub invariant-loop-decl : goal.invariant-loop-decl
invariant-loop-decl l = Filed l.decls l.fn.first l.decl-index l.number l.list
