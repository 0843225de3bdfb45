use Rattle.std.proofs.Common.{arith, sym, ◌∙◌, ap, subst, ◌≡◌, ◌<◌, ◌++◌, length, take, get_or}
use Rattle.std.proofs.Common.{Some}
use Rattle.exchange_model.specs.Inside.{joined}
use Rattle.first_fault.proofs.Told.{passed_none, passed_more, passed_all, told_here, parts_none}
use Rattle.first_fault.proofs.Told.{parts_more, parts_all, part_told}
use Rattle.text_rules.specs.Signals.{known_of, known_in_part, broken, all_rules, Sees}
use Rattle.rule_checks.specs.Tables.{names_in}
use Rattle.text_rules.specs.Texts.{line_of}
use Rattle.rule_checks.proofs.Parts.{so_far_begin, so_far_more, so_far_end}
use Rattle.text_rules.proofs.SignalSteps.{known_nothing, known_more}
use Rattle.rule_checks.proofs.signals.check_signals.Goals as goal

pub loop-part-init : goal.loop-part-init
loop-part-init c = record {
  known = known_nothing _ c.new-seen.ensures;
  passed = parts_none (λ r k e. broken r k e.note) all_rules line_of known_in_part _;
}

pub loop-event-init : goal.loop-event-init
loop-event-init c = record {
  known = c.loop-part.invariant.known ∙ ap known_of (so_far_begin (take c.loop-part.part-index c.args.parts.now) c.as_slice-event-items.result.now);
  passed = passed_none (λ r k e. broken r k e.note) all_rules line_of
      (known_in_part (take c.loop-part.part-index c.args.parts.now) c.as_slice-event-items.result.now) _;
}

pub loop-event-preserved : goal.loop-event-preserved
loop-event-preserved c =
    let own = c.as_slice-event-items.result.now in
    let done = take c.loop-part.part-index c.args.parts.now in
    let inside : c.loop-event.event-index < length own = omega arith in
    let sees : Sees (names_in c.loop-event.seen) c.event-item.result.note (names_in c.see.new.self) = subst
    (λ n. Sees (names_in c.loop-event.seen) n (names_in c.see.new.self)) c.kind.ensures c.in-Ok.ensures in
    record {
      known = known_more _ _ (joined done ++ take c.loop-event.event-index own) c.event-item.result
          c.loop-event.invariant.known sees ∙ ap known_of (so_far_more done own _ _ inside c.event-item.is);
      passed = passed_more (λ r k e. broken r k e.note) all_rules line_of (known_in_part done own) own _ _ _ inside
          c.event-item.is c.loop-event.invariant.known (sym c.in_default.is ∙ c.rule_at.ensures)
          c.loop-event.invariant.passed;
    }

pub returns-in-Some : goal.returns-in-Some
returns-in-Some c =
    let own = c.as_slice-event-items.result.now in
    let done = take c.loop-part.part-index c.args.parts.now in
    let there : own ≡ get_or c.args.parts.now c.loop-part.part-index own = c.as_slice-event-items.ensures
    ∙ c.part-item.is ∙ ap (λ d. get_or c.args.parts.now c.loop-part.part-index d)
    (sym c.as_slice-event-items.ensures) in
    part_told (λ r k e. broken r k e.note) all_rules line_of known_in_part c.args.parts.now _ own _ (omega arith) there
    (told_here (λ r k e. broken r k e.note) all_rules line_of (known_in_part done own) own _ _ _ _ (omega arith)
    c.event-item.is c.loop-event.invariant.known (sym c.in-Some.is ∙ c.rule_at.ensures)
    c.loop-event.invariant.passed ∙ ap (λ l. Some (c.in-Some.rule, l)) (sym c.line-line.ensures))
    c.loop-part.invariant.passed

pub loop-part-preserved : goal.loop-part-preserved
loop-part-preserved c =
    let own = c.as_slice-event-items.result.now in
    let done = take c.loop-part.part-index c.args.parts.now in
    let there : own ≡ get_or c.args.parts.now c.loop-part.part-index own = c.as_slice-event-items.ensures
    ∙ c.part-item.is ∙ ap (λ d. get_or c.args.parts.now c.loop-part.part-index d)
    (sym c.as_slice-event-items.ensures) in
    record {
      known = c.loop-event.invariant.known ∙ ap known_of (so_far_end c.args.parts.now _ own _ (omega arith) there (omega arith));
      passed = parts_more (λ r k e. broken r k e.note) all_rules line_of known_in_part c.args.parts.now _ own
          (omega arith) there (passed_all (λ r k e. broken r k e.note) all_rules line_of (known_in_part done own) own _
          (omega arith) c.loop-event.invariant.passed) c.loop-part.invariant.passed;
    }

pub returns : goal.returns
returns c = parts_all (λ r k e. broken r k e.note) all_rules line_of known_in_part c.args.parts.now _ (omega arith) c.loop-part.invariant.passed
