use Rattle.exchange_model.specs.declared.stmt.StmtKind.{out-StmtKind}
use Rattle.entry_accesses.proofs.Using.{names_numbered, all_uses}
use Rattle.entry_accesses.proofs.uses.push_uses.Goals as goal

pub push_reads-requires-clause-numbered : goal.push_reads-requires-clause-numbered
push_reads-requires-clause-numbered c =
    names_numbered c.args.here.now.exchange.now c.args.here.now.block (out-StmtKind c.args.kind.now) c.new-names.result
    c.push_layer.new.names c.as_slice.result.now c.kept.ensures c.requires.of_block c.new-names.ensures
    c.in_ok-push_layer.ensures c.as_slice.ensures

pub returns : goal.returns
returns c =
    all_uses c.args.here.now.exchange.now c.args.here.now.block (out-StmtKind c.args.kind.now) c.new-names.result
    c.push_layer.new.names c.as_slice.result.now c.args.uses.now c.push_reads.new.uses c.push_held.new.uses
    c.push_done.new.uses c.new-names.ensures c.in_ok-push_layer.ensures c.as_slice.ensures
    c.in_ok-push_reads.ensures c.in_ok-push_held.ensures c.in_ok-push_done.ensures
