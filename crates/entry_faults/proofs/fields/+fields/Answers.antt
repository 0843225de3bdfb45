use Rattle.std.proofs.Common.{rules, ◌≡◌, ◌++◌}
use Rattle.exchange_model.specs.declared.expr.Expr.{out-Expr}
use Rattle.exchange_model.specs.declared.expr.Term.{out-Term}
use Rattle.source_meaning.specs.Named.{named_in, named_in_term, named_in_joined}
use Rattle.source_meaning.proofs.Naming.{named_in-out, named_in_term-out}
use Rattle.entry_faults.specs.Fields.{pointers_named}
use Rattle.entry_faults.proofs.Reading.{fields_begin, fields_more, fields_end, field_pushed}
use Rattle.entry_faults.proofs.Reading.{bracket_pushed}
use Rattle.entry_faults.proofs.fields.+fields.Goals as goal

pub push_fields-loop-term-init : goal.push_fields-loop-term-init
push_fields-loop-term-init t c =
    let is : c.as_slice-term-items.result.now ≡ (out-Expr c.args.e.now).terms = search rules in
    fields_begin named_in_term (out-Expr c.args.e.now).terms c.as_slice-term-items.result.now (named_in c.args.e.now)
    c.args.pointers.now (named_in-out c.args.e.now) is

pub push_fields-loop-term-preserved : goal.push_fields-loop-term-preserved
push_fields-loop-term-preserved t c = fields_more named_in_term c.as_slice-term-items.result.now c.loop-term.term-index
    c.term-item.result c.loop-term.pointers c.push_fields_of_term.new.pointers
    (c.args.pointers.now ++ pointers_named (named_in c.args.e.now)) c.loop-term-test.true c.term-item.is
    c.in_ok-push_fields_of_term.ensures c.loop-term.invariant

pub push_fields-returns : goal.push_fields-returns
push_fields-returns t c = fields_end named_in_term c.as_slice-term-items.result.now c.loop-term.term-index
    c.loop-term.pointers (c.args.pointers.now ++ pointers_named (named_in c.args.e.now)) c.loop-term-test.false
    c.loop-term.invariant

pub push_fields_of_term-loop-joined-init : goal.push_fields_of_term-loop-joined-init
push_fields_of_term-loop-joined-init t c =
    let is : c.as_slice-joined-items.result.now ≡ (out-Term c.args.term.now).factors = search rules in
    fields_begin named_in_joined (out-Term c.args.term.now).factors c.as_slice-joined-items.result.now
    (named_in_term c.args.term.now) c.args.pointers.now (named_in_term-out c.args.term.now) is

pub push_fields_of_term-loop-joined-preserved : goal.push_fields_of_term-loop-joined-preserved
push_fields_of_term-loop-joined-preserved t c = fields_more named_in_joined c.as_slice-joined-items.result.now
    c.loop-joined.joined-index c.joined-item.result c.loop-joined.pointers c.push_fields_of_factor.new.pointers
    (c.args.pointers.now ++ pointers_named (named_in_term c.args.term.now)) c.loop-joined-test.true c.joined-item.is
    c.in_ok-push_fields_of_factor.ensures c.loop-joined.invariant

pub push_fields_of_term-returns : goal.push_fields_of_term-returns
push_fields_of_term-returns t c = fields_end named_in_joined c.as_slice-joined-items.result.now
    c.loop-joined.joined-index c.loop-joined.pointers
    (c.args.pointers.now ++ pointers_named (named_in_term c.args.term.now)) c.loop-joined-test.false
    c.loop-joined.invariant

pub push_fields_of_factor-returns-in_ok-push-in-Field : goal.push_fields_of_factor-returns-in_ok-push-in-Field
push_fields_of_factor-returns-in_ok-push-in-Field t c = field_pushed c.args.factor.now c.in-Field.file c.in-Field.field
    c.in-Field.pointer c.args.pointers.now c.push.new.self c.in-Field.is c.in_ok-push-in-Field.ensures

pub push_fields_of_factor-returns-in_ok-push_fields-in-Bracket : goal.push_fields_of_factor-returns-in_ok-push_fields-in-Bracket
push_fields_of_factor-returns-in_ok-push_fields-in-Bracket t c = bracket_pushed c.args.factor.now c.in-Bracket.inside
    c.args.pointers.now c.push_fields.new.pointers c.in-Bracket.is c.in_ok-push_fields-in-Bracket.ensures
