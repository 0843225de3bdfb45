use Rattle.std.proofs.Common.{◌≡◌, Some}
use Rattle.exchange_model.specs.declared.stmt.Holder.TheVariants as holder
use Rattle.exchange_model.specs.declared.stmt.Receiver.TheVariants as receiver
use Rattle.exchange_model.specs.declared.stmt.StmtKind.{out-StmtKind}
use Rattle.source_meaning.specs.Deeds.{receiver_in}
use Rattle.entry_accesses.proofs.Using.{holder_numbered}
use Rattle.entry_accesses.proofs.uses.push_held.Goals as goal

pub push_operand-requires-clause-numbered : goal.push_operand-requires-clause-numbered
push_operand-requires-clause-numbered c =
    let read = c.receiver_of.ensures in
    let some = c.in-Some-Held-Variable.is in
    let held = c.in-Some-Held-Variable.field-0-is in
    let variable = c.in-Some-Held-Variable.field-0-0-is in
    let is : receiver_in (out-StmtKind c.args.kind.now) ≡ Some (receiver.Held (holder.Variable c.in-Some-Held-Variable.variable)) = cc in
    holder_numbered c.args.here.now.exchange.now c.args.here.now.block c.in-Some-Held-Variable.variable
    (out-StmtKind c.args.kind.now) c.kept.ensures c.requires.of_block is
