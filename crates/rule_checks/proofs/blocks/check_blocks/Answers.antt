use Rattle.std.proofs.Common.{arith, sym, ◌∙◌, ap, ◌≡◌, get_or}
use Rattle.first_fault.proofs.Told.{parts_more, parts_all}
use Rattle.text_rules.specs.Blocks.{broken, all_rules, known_in_part}
use Rattle.text_rules.specs.Texts.{line_of}
use Rattle.rule_checks.proofs.RuleSteps.{part_fault}
use Rattle.rule_checks.proofs.blocks.check_blocks.Goals as goal

pub returns-in-Err : goal.returns-in-Err
returns-in-Err c =
    let own = c.as_slice.result.now in
    let there : own ≡ get_or c.args.parts.now c.loop-part.part-index own = c.as_slice.ensures ∙ c.part-item.is
    ∙ ap (λ d. get_or c.args.parts.now c.loop-part.part-index d) (sym c.as_slice.ensures) in
    part_fault (λ r k e. broken r k e.note) all_rules line_of
    (known_in_part c.args.signals.now.kinds.now c.args.blocks.now.blocks.now) c.args.parts.now _ own c.in-Err.fault
    (omega arith) there c.in-Err.ensures c.loop-part.invariant

pub loop-part-preserved : goal.loop-part-preserved
loop-part-preserved c =
    let own = c.as_slice.result.now in
    let there : own ≡ get_or c.args.parts.now c.loop-part.part-index own = c.as_slice.ensures ∙ c.part-item.is
    ∙ ap (λ d. get_or c.args.parts.now c.loop-part.part-index d) (sym c.as_slice.ensures) in
    parts_more (λ r k e. broken r k e.note) all_rules line_of
    (known_in_part c.args.signals.now.kinds.now c.args.blocks.now.blocks.now) c.args.parts.now _ own (omega arith)
    there c.in-Ok.ensures c.loop-part.invariant

pub returns : goal.returns
returns c = parts_all (λ r k e. broken r k e.note) all_rules line_of
    (known_in_part c.args.signals.now.kinds.now c.args.blocks.now.blocks.now) c.args.parts.now _ (omega arith)
    c.loop-part.invariant
