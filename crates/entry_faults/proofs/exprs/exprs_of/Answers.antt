use Rattle.exchange_model.specs.declared.stmt.StmtKind.{out-StmtKind}
use Rattle.exchange_model.specs.Inside.{own_exprs}
use Rattle.entry_faults.specs.Exprs.{exprs_seen}
use Rattle.entry_faults.proofs.Listing.{adds_all}
use Rattle.entry_faults.proofs.exprs.exprs_of.Goals as goal

pub returns : goal.returns
returns c = adds_all c.new-exprs.result c.push_exprs.new.exprs (exprs_seen c.exprs_in.result)
    (own_exprs (out-StmtKind c.args.kind.now)) c.new-exprs.ensures c.exprs_in.ensures c.in_ok-push_exprs.ensures
