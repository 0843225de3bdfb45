use Rattle.std.proofs.Common.{rules, arith, ap, ◌∙◌}
use Rattle.std.proofs.lemmas.Grind.{common_steps}
use Rattle.exchange_model.specs.declared.expr.Expr.{the_lemmas}
use Rattle.exchange_model.specs.declared.expr.Factor.{out-Factor}
use Rattle.exchange_model.specs.declared.expr.Factor.TheOpen as layer
use Rattle.exchange_model.specs.declared.expr.Factor.TheVariants as factor
use Rattle.flow_table.proofs.Sourcing.{one_term, one_factor, one_item, term_in, factor_in, expr_in}
use Rattle.flow_table.proofs.Sourcing.{block_below, factor_as}
use Rattle.flow_table.proofs.source.+source.Goals as goal

pub source_of-source_of_term-requires : goal.source_of-source_of_term-requires
source_of-source_of_term-requires t c =
    let one = one_item c.as_slice.result.now c.term-item.result c.in-len1.len_at_least c.in-len1.len_below c.term-item.is in (
      first_of (search (rules, the_lemmas), grind (the_lemmas, arith, common_steps)),
      term_in c.args.e.now
          c.as_slice.result.now c.term-item.result c.as_slice.ensures one c.requires,
    )

pub source_of-returns-in-len1 : goal.source_of-returns-in-len1
source_of-returns-in-len1 t c =
    let one = one_item c.as_slice.result.now c.term-item.result c.in-len1.len_at_least c.in-len1.len_below c.term-item.is in
    c.source_of_term.ensures ∙ one_term c.args.e.now c.as_slice.result.now c.term-item.result c.as_slice.ensures one

pub source_of_term-source_of_factor-requires : goal.source_of_term-source_of_factor-requires
source_of_term-source_of_factor-requires t c =
    let one = one_item c.as_slice.result.now c.joined-item.result c.in-len1.len_at_least c.in-len1.len_below c.joined-item.is in (
      first_of (search (rules, the_lemmas), grind (the_lemmas, arith, common_steps)),
      factor_in c.args.term.now
          c.as_slice.result.now c.joined-item.result c.as_slice.ensures one c.requires,
    )

pub source_of_term-returns-in-len1 : goal.source_of_term-returns-in-len1
source_of_term-returns-in-len1 t c =
    let one = one_item c.as_slice.result.now c.joined-item.result c.in-len1.len_at_least c.in-len1.len_below c.joined-item.is in
    c.source_of_factor.ensures ∙ one_factor c.args.term.now c.as_slice.result.now c.joined-item.result c.as_slice.ensures one

pub source_of_factor-source_of-requires : goal.source_of_factor-source_of-requires
source_of_factor-source_of-requires t c = (
  first_of (search (rules, the_lemmas), grind (the_lemmas, arith, common_steps)),
  expr_in c.args.factor.now
      c.in-Bracket.inside (ap out-Factor c.in-Bracket.is ∙ factor.outs-Bracket c.in-Bracket.inside) c.requires,
)

pub source_of_factor-overflow_add-result : goal.source_of_factor-overflow_add-result
source_of_factor-overflow_add-result t c =
    let small = block_below c.args.factor.now c.in-Reference.block (ap out-Factor c.in-Reference.is ∙ factor.outs-Reference c.in-Reference.block) c.requires in
    search (rules, small)

pub source_of_factor-returns-in-Number : goal.source_of_factor-returns-in-Number
source_of_factor-returns-in-Number t c = c.small.ensures
    ∙ factor_as c.args.factor.now (layer.Number c.in-Number.number)
    (ap out-Factor c.in-Number.is ∙ factor.outs-Number c.in-Number.number)

pub source_of_factor-returns-in-Temporary : goal.source_of_factor-returns-in-Temporary
source_of_factor-returns-in-Temporary t c = factor_as c.args.factor.now (layer.Temporary c.in-Temporary.temp)
    (ap out-Factor c.in-Temporary.is ∙ factor.outs-Temporary c.in-Temporary.temp)

pub source_of_factor-returns-in-Bracket : goal.source_of_factor-returns-in-Bracket
source_of_factor-returns-in-Bracket t c = c.source_of.ensures
    ∙ factor_as c.args.factor.now (layer.Bracket c.in-Bracket.inside)
    (ap out-Factor c.in-Bracket.is ∙ factor.outs-Bracket c.in-Bracket.inside)

pub source_of_factor-returns-in-Reference : goal.source_of_factor-returns-in-Reference
source_of_factor-returns-in-Reference t c = factor_as c.args.factor.now (layer.Reference c.in-Reference.block)
    (ap out-Factor c.in-Reference.is ∙ factor.outs-Reference c.in-Reference.block)

pub source_of_factor-returns-in-Variable : goal.source_of_factor-returns-in-Variable
source_of_factor-returns-in-Variable t c = factor_as c.args.factor.now (layer.Variable c.in-Variable.field-0)
    (ap out-Factor c.in-Variable.is ∙ factor.outs-Variable c.in-Variable.field-0)

pub source_of_factor-returns-in-Field : goal.source_of_factor-returns-in-Field
source_of_factor-returns-in-Field t c = factor_as c.args.factor.now
    (layer.Field c.in-Field.file c.in-Field.field c.in-Field.pointer)
    (ap out-Factor c.in-Field.is ∙ factor.outs-Field c.in-Field.file c.in-Field.field c.in-Field.pointer)
