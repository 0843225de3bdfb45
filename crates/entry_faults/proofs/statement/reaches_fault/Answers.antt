use Rattle.std.proofs.Common.{◌≡◌, true}
use Rattle.std.specs.Prelude.{◌↔◌}
use Rattle.exchange_model.specs.declared.stmt.StmtKind.{out-StmtKind}
use Rattle.entry_summary.specs.Faults.{FaultsAt}
use Rattle.entry_faults.specs.Statements.{FaultsHere}
use Rattle.entry_faults.proofs.Faulting.{reached_faults, not_reached}
use Rattle.entry_faults.proofs.Rounding.{ok_as}
use Rattle.entry_faults.proofs.statement.reaches_fault.Goals as goal

pub returns-then-is_reached : goal.returns-then-is_reached
returns-then-is_reached g c =
    let P = g.K.KnownFacts.knows c.args.known.now in
    ok_as c.may_fault_at.result (λ b. (b ≡ true)
    ↔ FaultsAt c.args.exchange.now P c.args.entry c.args.at.now.block c.args.at.now.point
    (out-StmtKind c.args.at.now.kind.now))
    (λ b. (b ≡ true) ↔ FaultsHere c.args.exchange.now P c.args.entry c.args.at.now)
    (λ b h. reached_faults c.args.exchange.now P c.args.entry c.args.at.now b c.is_reached.result c.is_reached.ensures c.if-is_reached.true h)
    c.may_fault_at.ensures

pub returns : goal.returns
returns g c = not_reached c.args.exchange.now (g.K.KnownFacts.knows c.args.known.now) c.args.entry c.args.at.now
    c.is_reached.result c.is_reached.ensures c.if-is_reached.false
