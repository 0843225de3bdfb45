use Rattle.std.proofs.Common.{ℕ, ◌≤◌, List, length, sym, subst}
use Rattle.plex_limits.specs.declared.limits.TheConstants.{MOST_VALUES}
use Rattle.exchange_model.specs.declared.stmt.StmtKind.TheOpen as stmt
use Rattle.exchange_model.specs.declared.stmt.StmtKind.TheVariants as kind
use Rattle.exchange_model.specs.declared.expr.Expr.{Expr}
use Rattle.source_interpreter.specs.Cases.{FindsOwn}
use Rattle.source_interpreter.specs.Leaves.{Does}
use Rattle.source_interpreter.specs.Kept.{AreExprsOfText, AreOfText, AreWhensOfText}
use Rattle.source_interpreter.proofs.Performing.{if_first_kept, if_other_kept, whens_kept}
use Rattle.source_interpreter.proofs.Performing.{otherwise_kept, table_kept, body_kept, few_sent}
use Rattle.source_interpreter.proofs.Performing.{few_returned, of_case, of_field, of_first, of_from}
use Rattle.source_interpreter.proofs.Performing.{of_if, of_if_goto, of_return, of_send, of_temp}
use Rattle.source_interpreter.proofs.Performing.{of_upto, of_variable, by_kind, exits}
use Rattle.source_interpreter.proofs.run.Run.perform.Goals as goal

pub choose-requires-clause-first : goal.choose-requires-clause-first
choose-requires-clause-first c = subst (AreOfText c.args.cases.now) (sym c.as_slice.ensures)
    (if_first_kept c.args.cases.now c.args.statement.now c.in-If.cond c.in-If.yes c.in-If.no c.requires c.in-If.is)

pub choose-requires-clause-other : goal.choose-requires-clause-other
choose-requires-clause-other c = subst (AreOfText c.args.cases.now) (sym c.as_slice-in-If.ensures)
    (if_other_kept c.args.cases.now c.args.statement.now c.in-If.cond c.in-If.yes c.in-If.no c.requires c.in-If.is)

pub choose_case-requires-clause-whens : goal.choose_case-requires-clause-whens
choose_case-requires-clause-whens c = subst (AreWhensOfText c.args.cases.now) (sym c.as_slice-in-Case.ensures)
    (whens_kept c.args.cases.now c.args.statement.now c.in-Case.value c.in-Case.whens c.in-Case.otherwise c.requires
    c.in-Case.is)

pub choose_case-requires-clause-otherwise : goal.choose_case-requires-clause-otherwise
choose_case-requires-clause-otherwise c = subst (AreOfText c.args.cases.now) (sym c.as_slice-in-Case-2.ensures)
    (otherwise_kept c.args.cases.now c.args.statement.now c.in-Case.value c.in-Case.whens c.in-Case.otherwise c.requires
    c.in-Case.is)

pub choose_case-requires-clause-table : goal.choose_case-requires-clause-table
choose_case-requires-clause-table c = subst (FindsOwn c.args.cases.now c.args.statement.now.point)
    (sym c.as_slice-in-Case.ensures) (table_kept c.args.cases.now c.args.statement.now c.in-Case.value c.in-Case.whens
    c.in-Case.otherwise c.requires c.in-Case.is)

pub begin_turns-requires-clause-body : goal.begin_turns-requires-clause-body
begin_turns-requires-clause-body c = subst (AreOfText c.args.cases.now) (sym c.as_slice-in-On.ensures)
    (body_kept c.args.cases.now c.args.statement.now c.in-On.temp c.in-On.from c.in-On.upto c.in-On.body c.requires
    c.in-On.is)

pub send-requires-clause-few : goal.send-requires-clause-few
send-requires-clause-few c = subst (λ (es : List Expr). length es ≤ MOST_VALUES) (sym c.as_slice-in-Send.ensures)
    (few_sent c.args.cases.now c.args.statement.now c.in-Send.signal c.in-Send.to c.in-Send.values c.in-Send.fresh
    c.requires c.in-Send.is)

pub answer-requires-clause-few : goal.answer-requires-clause-few
answer-requires-clause-few c = subst (λ (es : List Expr). length es ≤ MOST_VALUES) (sym c.as_slice-in-Return.ensures)
    (few_returned c.args.cases.now c.args.statement.now c.in-Return.answer c.in-Return.values c.requires c.in-Return.is)

pub send-requires-clause-values : goal.send-requires-clause-values
send-requires-clause-values c = subst AreExprsOfText (sym c.as_slice-in-Send.ensures)
    (of_send c.args.cases.now c.args.statement.now c.in-Send.signal c.in-Send.to c.in-Send.values c.in-Send.fresh
    c.requires c.in-Send.is)

pub answer-requires-clause-values : goal.answer-requires-clause-values
answer-requires-clause-values c = subst AreExprsOfText (sym c.as_slice-in-Return.ensures)
    (of_return c.args.cases.now c.args.statement.now c.in-Return.answer c.in-Return.values c.requires c.in-Return.is)

pub assign_temp-requires : goal.assign_temp-requires
assign_temp-requires c = of_temp c.args.cases.now c.args.statement.now c.in-SetTemp.temp c.in-SetTemp.value c.requires c.in-SetTemp.is

pub assign_variable-requires : goal.assign_variable-requires
assign_variable-requires c = of_variable c.args.cases.now c.args.statement.now c.in-SetVariable.variable c.in-SetVariable.value c.requires c.in-SetVariable.is

pub assign_field-requires : goal.assign_field-requires
assign_field-requires c = of_field c.args.cases.now c.args.statement.now c.in-SetField.file c.in-SetField.field
    c.in-SetField.pointer c.in-SetField.value c.requires c.in-SetField.is

pub choose_case-requires-clause-value : goal.choose_case-requires-clause-value
choose_case-requires-clause-value c = of_case c.args.cases.now c.args.statement.now c.in-Case.value c.in-Case.whens c.in-Case.otherwise c.requires c.in-Case.is

pub begin_turns-requires-clause-from : goal.begin_turns-requires-clause-from
begin_turns-requires-clause-from c = of_from c.args.cases.now c.args.statement.now c.in-On.temp c.in-On.from c.in-On.upto c.in-On.body c.requires c.in-On.is

pub begin_turns-requires-clause-upto : goal.begin_turns-requires-clause-upto
begin_turns-requires-clause-upto c = of_upto c.args.cases.now c.args.statement.now c.in-On.temp c.in-On.from c.in-On.upto c.in-On.body c.requires c.in-On.is

pub go_to_first-requires : goal.go_to_first-requires
go_to_first-requires c = of_first c.args.cases.now c.args.statement.now c.in-ForFirst.temp c.in-ForFirst.file
    c.in-ForFirst.field c.in-ForFirst.rel c.in-ForFirst.value c.in-ForFirst.label c.requires c.in-ForFirst.is

pub jump_if-requires : goal.jump_if-requires
jump_if-requires c = of_if_goto c.args.cases.now c.args.statement.now c.in-IfGoto.cond c.in-IfGoto.label c.requires c.in-IfGoto.is

pub choose-requires-clause-cond : goal.choose-requires-clause-cond
choose-requires-clause-cond c = of_if c.args.cases.now c.args.statement.now c.in-If.cond c.in-If.yes c.in-If.no c.requires c.in-If.is

pub returns-in-Goto : goal.returns-in-Goto
returns-in-Goto c =
    by_kind c.args.statement.now (kind.Goto c.in-Goto.label) (stmt.Goto c.in-Goto.label) c.args.self.now c.jump.new.self
    c.args.store.now c.args.store.now c.jump.result c.in-Goto.is (kind.outs-Goto c.in-Goto.label) c.jump.ensures

pub returns-in-Send : goal.returns-in-Send
returns-in-Send c =
    let done : Does (stmt.Send c.in-Send.signal c.in-Send.to c.in-Send.values c.in-Send.fresh) c.args.self.now
    c.args.store.now c.send.result c.send.new.self c.args.store.now =
    subst (λ (es : List Expr). Does (stmt.Send c.in-Send.signal c.in-Send.to es c.in-Send.fresh) c.args.self.now
    c.args.store.now c.send.result c.send.new.self c.args.store.now) c.as_slice-in-Send.ensures c.send.ensures in
    by_kind c.args.statement.now (kind.Send c.in-Send.signal c.in-Send.to c.in-Send.values c.in-Send.fresh)
    (stmt.Send c.in-Send.signal c.in-Send.to c.in-Send.values c.in-Send.fresh) c.args.self.now c.send.new.self
    c.args.store.now c.args.store.now c.send.result c.in-Send.is
    (kind.outs-Send c.in-Send.signal c.in-Send.to c.in-Send.values c.in-Send.fresh) done

pub returns-in-Retrieve : goal.returns-in-Retrieve
returns-in-Retrieve c =
    let done : Does (stmt.Retrieve c.in-Retrieve.answer c.in-Retrieve.temps) c.args.self.now c.args.store.now
    c.retrieve.result c.retrieve.new.self c.args.store.now =
    subst (λ (ts : List ℕ). Does (stmt.Retrieve c.in-Retrieve.answer ts) c.args.self.now c.args.store.now
    c.retrieve.result c.retrieve.new.self c.args.store.now) c.as_slice-in-Retrieve.ensures c.retrieve.ensures in
    by_kind c.args.statement.now (kind.Retrieve c.in-Retrieve.answer c.in-Retrieve.temps)
    (stmt.Retrieve c.in-Retrieve.answer c.in-Retrieve.temps) c.args.self.now c.retrieve.new.self c.args.store.now
    c.args.store.now c.retrieve.result c.in-Retrieve.is
    (kind.outs-Retrieve c.in-Retrieve.answer c.in-Retrieve.temps) done

pub returns-in-Transfer : goal.returns-in-Transfer
returns-in-Transfer c =
    by_kind c.args.statement.now (kind.Transfer c.in-Transfer.signal c.in-Transfer.to)
    (stmt.Transfer c.in-Transfer.signal c.in-Transfer.to) c.args.self.now c.transfer.new.self c.args.store.now
    c.args.store.now c.transfer.result c.in-Transfer.is (kind.outs-Transfer c.in-Transfer.signal c.in-Transfer.to)
    c.transfer.ensures

pub returns-in-Exit : goal.returns-in-Exit
returns-in-Exit c = exits c.args.statement.now c.args.self.now c.args.store.now c.end.result c.in-Exit.is c.end.ensures

pub returns-in-Free : goal.returns-in-Free
returns-in-Free c =
    by_kind c.args.statement.now (kind.Free c.in-Free.temp c.in-Free.file) (stmt.Free c.in-Free.temp c.in-Free.file)
    c.args.self.now c.free.new.self c.args.store.now c.free.new.store c.free.result c.in-Free.is
    (kind.outs-Free c.in-Free.temp c.in-Free.file) c.free.ensures
