-- Blocks, with all the statements in them, may cross threads; so may an exchange.
use denote.Param.Send.{IsSend, IsSync, view_send, view_sync, sendable}
use Rattle.std.proofs.option.Option.TheSendSync as Option
use Rattle.plex_num.proofs.name.Name.TheSendSync as Name
use Rattle.plex_num.proofs.seq.Seq.TheSendSync as Seq
use Rattle.exchange_model.proofs.block.Enter.TheSendSync as Enter
use Rattle.exchange_model.proofs.block.File.TheSendSync as File
use Rattle.exchange_model.proofs.block.Label.TheSendSync as Label
use Rattle.exchange_model.proofs.block.Variable.TheSendSync as Variable
use Rattle.exchange_model.proofs.entry.Entry.TheSendSync as Entry
use Rattle.exchange_model.proofs.entry.PointInfo.TheSendSync as PointInfo
use Rattle.exchange_model.proofs.index.Index.TheSendSync as Index
use Rattle.exchange_model.proofs.signal.SignalKind.TheSendSync as SignalKind
use Rattle.exchange_model.proofs.expr.FactorOp.TheSendSync as FactorOp
use Rattle.exchange_model.proofs.expr.Rel.TheSendSync as Rel
use Rattle.exchange_model.proofs.stmt.Receiver.TheSendSync as Receiver
use Rattle.exchange_model.proofs.expr.Factor.TheLaws.TheKnot as factor
use Rattle.exchange_model.proofs.stmt.StmtKind.TheLaws.TheKnot as knot
use Rattle.exchange_model.specs.contracts.expr.Expr as expr
use Rattle.exchange_model.specs.contracts.expr.Relation as relation
use Rattle.exchange_model.specs.contracts.expr.Cond as cond
use Rattle.exchange_model.specs.contracts.stmt.Stmt as stmt
use Rattle.exchange_model.specs.contracts.stmt.StmtKind as kind
use Rattle.exchange_model.specs.contracts.block.Block as block
use Rattle.exchange_model.specs.contracts.exchange.Exchange as exchange

ExprField-send : IsSend (expr.the_field).row
ExprField-send = search (factor.crosses, FactorOp.the_field_send, Seq.the_send, sendable) depth 20

Expr-send : IsSend expr.the_row
Expr-send = search (factor.crosses, FactorOp.the_field_send, Seq.the_send, sendable) depth 20

Relation-send : IsSend relation.the_row
Relation-send = search (factor.crosses, FactorOp.the_field_send, Seq.the_send, Rel.the_field_send, sendable) depth 20

CondField-send : IsSend (cond.the_field).row
CondField-send = search (Relation-send, Seq.the_send, sendable) depth 20

StmtKindField-send : IsSend (kind.the_field).row
StmtKindField-send =
    knot.send-StmtKind
    (search sendable)
    (search (Seq.the_send, sendable) depth 20)
    (search sendable)
    ExprField-send
    CondField-send
    Seq.the_send
    Rel.the_field_send
    (search (Option.the_field_send, Receiver.the_send, sendable) depth 20)
    (search (Seq.the_send, Expr-send, sendable) depth 20)
    (search sendable)

Stmt-send : IsSend stmt.the_row
Stmt-send = search (StmtKindField-send, sendable) depth 20

Block-send : IsSend block.the_row
Block-send = search (Stmt-send, Enter.the_send, File.the_send, Label.the_send, Variable.the_send, Name.the_send, Seq.the_send, sendable) depth 20

Inside-send : IsSend exchange.TheInside.the_row
Inside-send = search (Block-send, SignalKind.the_send, Entry.the_send, PointInfo.the_send, Index.the_field_send, Seq.the_send, sendable) depth 20

pub exchange_send : IsSend exchange.the_row
exchange_send = view_send _ _ _ _ _ Inside-send

ExprField-sync : IsSync (expr.the_field).row
ExprField-sync = search (factor.crosses, FactorOp.the_field_sync, Seq.the_sync, sendable) depth 20

Expr-sync : IsSync expr.the_row
Expr-sync = search (factor.crosses, FactorOp.the_field_sync, Seq.the_sync, sendable) depth 20

Relation-sync : IsSync relation.the_row
Relation-sync = search (factor.crosses, FactorOp.the_field_sync, Seq.the_sync, Rel.the_field_sync, sendable) depth 20

CondField-sync : IsSync (cond.the_field).row
CondField-sync = search (Relation-sync, Seq.the_sync, sendable) depth 20

StmtKindField-sync : IsSync (kind.the_field).row
StmtKindField-sync =
    knot.sync-StmtKind
    (search sendable)
    (search (Seq.the_sync, sendable) depth 20)
    (search sendable)
    ExprField-sync
    CondField-sync
    Seq.the_sync
    Rel.the_field_sync
    (search (Option.the_field_sync, Receiver.the_sync, sendable) depth 20)
    (search (Seq.the_sync, Expr-sync, sendable) depth 20)
    (search sendable)

Stmt-sync : IsSync stmt.the_row
Stmt-sync = search (StmtKindField-sync, sendable) depth 20

Block-sync : IsSync block.the_row
Block-sync = search (Stmt-sync, Enter.the_sync, File.the_sync, Label.the_sync, Variable.the_sync, Name.the_sync, Seq.the_sync, sendable) depth 20

Inside-sync : IsSync exchange.TheInside.the_row
Inside-sync = search (Block-sync, SignalKind.the_sync, Entry.the_sync, PointInfo.the_sync, Index.the_field_sync, Seq.the_sync, sendable) depth 20

pub exchange_sync : IsSync exchange.the_row
exchange_sync = view_sync _ _ _ _ _ Inside-sync
