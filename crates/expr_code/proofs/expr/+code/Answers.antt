use Rattle.std.proofs.Common.{◌≡◌, suc, ◌<◌, length, get_or, rules, sym, ap, ◌∙◌, arith}
use Rattle.std.proofs.lemmas.Grind.{common_steps}
use Rattle.exchange_model.specs.declared.expr.Factor.{the_lemmas}
use Rattle.expr_code.proofs.Opened.{factor_code-Number, factor_code-Temporary, factor_code-Field}
use Rattle.expr_code.proofs.Opened.{factor_code-Bracket, factor_code-Reference}
use Rattle.expr_code.proofs.At.{first_term_at, next_term_at, first_factor_at, next_factor_at}
use Rattle.expr_code.proofs.At.{variable_at, field_at, bracket_at, reference_at}
use Rattle.expr_code.proofs.FieldSteps.{variable_grows}
use Rattle.expr_code.proofs.EmitSteps.{terms_begin, terms_none, factors_begin, factors_none}
use Rattle.expr_code.proofs.expr.+code.Goals as goal

pub push_factor-word_of-word-requires : goal.push_factor-word_of-word-requires
push_factor-word_of-word-requires t c = variable_at c.args.factor.now c.in-Variable.variable c.args.layout.now c.args.block c.requires.of_block c.in-Variable.is

pub push_factor-push_field-requires : goal.push_factor-push_field-requires
push_factor-push_field-requires t c = record {
  inside = field_at c.args.factor.now c.in-Field.file c.in-Field.field c.in-Field.pointer c.args.layout.now c.args.block c.requires.of_block c.in-Field.is;
}

pub push_factor-expr_code-requires : goal.push_factor-expr_code-requires
push_factor-expr_code-requires t c =
    let h = bracket_at c.args.factor.now c.in-Bracket.e c.args.layout.now c.args.block c.args.r c.requires.of_block c.requires.registers c.in-Bracket.is in
    (first_of (search (rules, the_lemmas), grind (the_lemmas, arith, common_steps)), (h.0, h.1))

pub push_factor-returns-in-Number-clause-code : goal.push_factor-returns-in-Number-clause-code
push_factor-returns-in-Number-clause-code t c = rw (c.in-Number.is, factor_code-Number) (search rules)

pub push_factor-returns-in-Temporary-clause-code : goal.push_factor-returns-in-Temporary-clause-code
push_factor-returns-in-Temporary-clause-code t c = rw (c.in-Temporary.is, factor_code-Temporary) (search rules)

pub push_factor-returns-in-Field-clause-code : goal.push_factor-returns-in-Field-clause-code
push_factor-returns-in-Field-clause-code t c = rw (c.in-Field.is, factor_code-Field) (search rules)

pub push_factor-returns-in-Bracket-clause-code : goal.push_factor-returns-in-Bracket-clause-code
push_factor-returns-in-Bracket-clause-code t c = rw (c.in-Bracket.is, factor_code-Bracket) (search rules)

pub push_factor-overflow_add-b : goal.push_factor-overflow_add-b
push_factor-overflow_add-b t c =
    let small = reference_at c.args.factor.now c.in-Reference.b c.args.layout.now c.args.block c.requires.of_block c.in-Reference.is in
    search (rules, small)

pub push_factor-returns-in-Reference-clause-code : goal.push_factor-returns-in-Reference-clause-code
push_factor-returns-in-Reference-clause-code t c = rw (c.in-Reference.is, factor_code-Reference) (search rules)

pub expr_code-returns-in_default-clause-code : goal.expr_code-returns-in_default-clause-code
expr_code-returns-in_default-clause-code t c =
    let none = terms_none c.args.e.now c.as_slice.result.now c.args.layout.now c.args.block c.args.first c.args.ops.now
    c.as_slice.ensures c.in_default.ensures.cases in
    search (rules, none)

pub expr_code-push_term-requires : goal.expr_code-push_term-requires
expr_code-push_term-requires t c =
    let first = c.in-Some.term.now in
    let is = c.in-Some.ensures.cases.0 in
    let item : first ≡ get_or c.as_slice.result.now 0 first = sym (ap (λ l. get_or l 0 first) is) in
    let within : 0 < length c.as_slice.result.now = omega (arith, ap length is) in
    let h = first_term_at c.args.e.now c.args.layout.now c.args.block c.as_slice.result.now first c.in-Some.rest.now
    c.args.first c.requires.of_block c.requires.registers c.as_slice.ensures is in
    (first_of (search (rules, the_lemmas, item, within), grind (the_lemmas, arith, common_steps, item, within)), (h.0, h.1))

pub expr_code-loop-term-init : goal.expr_code-loop-term-init
expr_code-loop-term-init t c =
    terms_begin c.args.e.now c.as_slice.result.now c.in-Some.term.now c.in-Some.rest.now c.args.layout.now c.args.block
    c.args.first c.args.ops.now c.push_term.new.ops c.as_slice.ensures c.in-Some.ensures.cases.0
    c.in_ok-push_term.ensures.code

pub expr_code-push_term-requires-in-loop-term : goal.expr_code-push_term-requires-in-loop-term
expr_code-push_term-requires-in-loop-term t c =
    let is = c.in-Some.ensures.cases.0 in
    let i = c.loop-term.term-index in
    let next = c.term-item.result in
    let item : next ≡ get_or c.as_slice.result.now (suc i) next = c.term-item.is ∙ sym (ap (λ l. get_or l (suc i) next) is) in
    let within : suc i < length c.as_slice.result.now = omega (arith, ap length is, c.loop-term-test.true) in
    let h = next_term_at c.args.e.now c.args.layout.now c.args.block c.as_slice.result.now c.in-Some.term.now
    c.in-Some.rest.now i next c.args.first c.requires.of_block c.requires.registers c.as_slice.ensures is
    c.loop-term-test.true c.term-item.is in
    (first_of (search (rules, the_lemmas, item, within), grind (the_lemmas, arith, common_steps, item, within)), (h.0, h.1))

pub push_term-returns-in_default-clause-code : goal.push_term-returns-in_default-clause-code
push_term-returns-in_default-clause-code t c =
    let none = factors_none c.args.term.now c.as_slice.result.now c.args.layout.now c.args.block c.args.r c.args.ops.now
    c.as_slice.ensures c.in_default.ensures.cases in
    search (rules, none)

pub push_term-push_factor-requires : goal.push_term-push_factor-requires
push_term-push_factor-requires t c =
    let first = c.in-Some.joined.now in
    let is = c.in-Some.ensures.cases.0 in
    let item : first ≡ get_or c.as_slice.result.now 0 first = sym (ap (λ l. get_or l 0 first) is) in
    let within : 0 < length c.as_slice.result.now = omega (arith, ap length is) in
    let h = first_factor_at c.args.term.now c.args.layout.now c.args.block c.as_slice.result.now first
    c.in-Some.rest.now c.args.r c.requires.of_block c.requires.registers c.as_slice.ensures is in
    (first_of (search (rules, the_lemmas, item, within), grind (the_lemmas, arith, common_steps, item, within)), (h.0, h.1))

pub push_term-loop-joined-init : goal.push_term-loop-joined-init
push_term-loop-joined-init t c =
    factors_begin c.args.term.now c.as_slice.result.now c.in-Some.joined.now c.in-Some.rest.now c.args.layout.now
    c.args.block c.args.r c.args.ops.now c.push_factor.new.ops c.as_slice.ensures c.in-Some.ensures.cases.0
    c.in_ok-push_factor.ensures.code

pub push_term-push_factor-requires-in-loop-joined : goal.push_term-push_factor-requires-in-loop-joined
push_term-push_factor-requires-in-loop-joined t c =
    let is = c.in-Some.ensures.cases.0 in
    let i = c.loop-joined.joined-index in
    let next = c.joined-item.result in
    let item : next ≡ get_or c.as_slice.result.now (suc i) next = c.joined-item.is ∙ sym (ap (λ l. get_or l (suc i) next) is) in
    let within : suc i < length c.as_slice.result.now = omega (arith, ap length is, c.loop-joined-test.true) in
    let h = next_factor_at c.args.term.now c.args.layout.now c.args.block c.as_slice.result.now c.in-Some.joined.now
    c.in-Some.rest.now i next c.args.r c.requires.of_block c.requires.registers c.as_slice.ensures is
    c.loop-joined-test.true c.joined-item.is in
    (first_of (search (rules, the_lemmas, item, within), grind (the_lemmas, arith, common_steps, item, within)), (h.0, h.1))

pub push_factor-returns-in-Variable-clause-code : goal.push_factor-returns-in-Variable-clause-code
push_factor-returns-in-Variable-clause-code t c =
    let grows = variable_grows c.args.factor.now c.in-Variable.variable c.args.r c.args.layout.now c.args.block
    c.word_of-word.result c.args.ops.now c.push_all-in-Variable.new.ops c.requires.of_block c.in-Variable.is
    c.word_of-word.ensures in
    search (rules, grows)
