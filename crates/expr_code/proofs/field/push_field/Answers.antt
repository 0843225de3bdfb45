use Rattle.std.proofs.Common.{rules, sym}
use Rattle.expr_code.proofs.FieldSteps.{field_grows}
use Rattle.expr_code.proofs.field.push_field.Goals as goal

pub returns-clause-code : goal.returns-clause-code
returns-clause-code c =
    let grows = field_grows c.args.layout.now c.args.block c.args.file c.args.field c.args.pointer c.args.r
    c.in-Some.row c.args.ops.now c.push_all-2.new.ops c.push_pointer.new.ops c.push_all-3.new.ops
    (sym (c.in-Some.ensures)) c.in_ok-push_all.ensures.code c.in_ok-push_pointer.ensures.code in
    search (rules, grows)
