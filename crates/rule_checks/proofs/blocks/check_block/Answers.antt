use Rattle.std.proofs.Common.{arith, refl, sym, ◌∙◌, ap, subst, ◌<◌, length, take, Some}
use Rattle.first_fault.proofs.First.{more_events}
use Rattle.first_fault.proofs.Told.{passed_none, passed_more, passed_all, told_here}
use Rattle.text_rules.specs.Blocks.{known_of, broken, all_rules, Sees}
use Rattle.rule_checks.specs.Tables.{known_in}
use Rattle.text_rules.specs.Texts.{line_of}
use Rattle.text_rules.proofs.BlockSteps.{known_nothing, known_more}
use Rattle.rule_checks.proofs.blocks.check_block.Goals as goal

pub loop-event-init : goal.loop-event-init
loop-event-init c = record {
  known = known_nothing _ _ c.args.events.now _ (c.new-tables.ensures c.args.around.now) c.requires refl refl refl;
  passed = passed_none (λ r k e. broken r k e.note) all_rules line_of
      (known_of c.args.around.now.signals.now.kinds.now c.args.around.now.blocks.now.blocks.now c.args.events.now) _;
}

pub loop-event-preserved : goal.loop-event-preserved
loop-event-preserved c =
    let own = c.args.events.now in
    let known = known_of c.args.around.now.signals.now.kinds.now c.args.around.now.blocks.now.blocks.now own in
    let inside : c.loop-event.event-index < length own = omega arith in
    let sees : Sees (known_in c.loop-event.tables c.args.around.now) c.event-item.result.note
    (known_in c.see.new.self c.args.around.now) = subst
    (λ n. Sees (known_in c.loop-event.tables c.args.around.now) n (known_in c.see.new.self c.args.around.now))
    c.kind.ensures (c.in-Ok.ensures c.args.around.now) in
    record {
      known = known_more _ _ own _ _ (take c.loop-event.event-index own) c.event-item.result
          c.loop-event.invariant.known sees ∙ ap known
          (sym (more_events own _ c.event-item.result inside c.event-item.is));
      passed = passed_more (λ r k e. broken r k e.note) all_rules line_of known own _ _ _ inside c.event-item.is
          c.loop-event.invariant.known (sym c.in_default.is ∙ c.rule_at.ensures) c.loop-event.invariant.passed;
    }

pub returns-in-Some : goal.returns-in-Some
returns-in-Some c =
    let own = c.args.events.now in
    let known = known_of c.args.around.now.signals.now.kinds.now c.args.around.now.blocks.now.blocks.now own in
    told_here (λ r k e. broken r k e.note) all_rules line_of known own _ _ _ _ (omega arith) c.event-item.is
    c.loop-event.invariant.known (sym c.in-Some.is ∙ c.rule_at.ensures) c.loop-event.invariant.passed
    ∙ ap (λ l. Some (c.in-Some.rule, l)) (sym c.line-line.ensures)

pub returns : goal.returns
returns c = passed_all (λ r k e. broken r k e.note) all_rules line_of
    (known_of c.args.around.now.signals.now.kinds.now c.args.around.now.blocks.now.blocks.now c.args.events.now)
    c.args.events.now _ (omega arith) c.loop-event.invariant.passed
