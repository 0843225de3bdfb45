use Rattle.std.proofs.Common.{arith, sym, ◌∙◌, ap, ◌≡◌, ◌+◌, ◌<◌, ◌||◌, ◌++◌, ◌∷◌, [], length, take}
use Rattle.std.proofs.Common.{get_or, Some}
use Rattle.std.specs.Str.{bytes_eq}
use Rattle.std.proofs.lemmas.List.{length-take-le}
use Rattle.indexmap.specs.IndexSet.{contains}
use Rattle.exchange_model.specs.Inside.{joined}
use Rattle.first_fault.proofs.First.{more_events}
use Rattle.first_fault.proofs.Told.{passed_none, passed_more, passed_all, told_here, parts_none}
use Rattle.first_fault.proofs.Told.{parts_more, parts_all, part_told}
use Rattle.signal_types.specs.Found.{kind_in}
use Rattle.text_events.specs.Note.{begun}
use Rattle.text_rules.specs.Surveys.{receiver_count, block_named, receives_at}
use Rattle.text_rules.specs.Links.{known_of, known_in_part, block_of, amounts_in, adds, plus}
use Rattle.text_rules.specs.Links.{head_enters, broken, all_rules}
use Rattle.rule_checks.specs.Tables.{amounts_of}
use Rattle.text_rules.specs.Texts.{line_of}
use Rattle.rule_checks.proofs.Parts.{so_far_begin, so_far_more, so_far_end}
use Rattle.text_rules.proofs.LinkSteps.{known_begin, known_more}
use Rattle.rule_checks.proofs.links.check_links.Goals as goal

pub loop-part-init : goal.loop-part-init
loop-part-init c = record {
  counted = c.none-counted.ensures (kind_in c.args.signals.now.kinds.now);
  passed = parts_none (λ r k e. broken r k e.note) all_rules line_of (known_in_part c.args.signals.now.kinds.now c.args.blocks.now.blocks.now) _;
}

pub loop-event-init : goal.loop-event-init
loop-event-init c =
    let own = c.as_slice-event-items.result.now in
    let done = take c.loop-part.part c.args.parts.now in
    let signals = c.args.signals.now.kinds.now in
    let blocks = c.args.blocks.now.blocks.now in
    record {
      known = known_begin _ signals blocks (block_of blocks c.loop-part.part) (joined done ++ take 0 own)
          (ap kind_in c.in-Ok.ensures.signals) (ap receiver_count c.in-Ok.ensures.blocks)
          (ap block_named c.in-Ok.ensures.blocks) (ap receives_at c.in-Ok.ensures.blocks)
          c.in-Ok.ensures.own.received c.in-Ok.ensures.own.sent c.in-Ok.ensures.own.entered (λ s. c.new.ensures s)
          (c.loop-part.invariant.counted ∙ ap (amounts_in (kind_in signals)) (so_far_begin done own));
      passed = passed_none (λ r k e. broken r k e.note) all_rules line_of (known_in_part signals blocks done own) own;
    }

pub loop-event-preserved : goal.loop-event-preserved
loop-event-preserved c =
    let own = c.as_slice-event-items.result.now in
    let done = take c.loop-part.part c.args.parts.now in
    let signals = c.args.signals.now.kinds.now in
    let blocks = c.args.blocks.now.blocks.now in
    let at = c.loop-event.event-index in
    let e = c.event-item.result in
    let inside : at < length own = omega arith in
    let far : c.loop-part.part ≡ length done = sym (length-take-le c.loop-part.part c.args.parts.now (omega arith)) in
    record {
      known = known_more _ (λ s. contains bytes_eq c.see.new.self.entered.names s) (amounts_of c.see.new.self.counted)
          signals blocks (block_of blocks c.loop-part.part) (joined done ++ take at own) (take at own) e
          c.loop-event.invariant.known
          (λ s. c.in-Ok-see.ensures.entered s ∙ ap (λ n. contains bytes_eq c.loop-event.before.entered.names s || head_enters s (begun n)) c.kind.ensures)
          (c.in-Ok-see.ensures.counted ∙ ap (λ n. plus (amounts_of c.loop-event.before.counted)
          (adds (kind_in c.in-Ok.links.signals.now.kinds.now) n)) c.kind.ensures
          ∙ ap (λ g. plus (amounts_of c.loop-event.before.counted) (adds (kind_in g) e.note))
          c.in-Ok.ensures.signals)
          ∙ ap (λ l. known_of signals blocks (block_of blocks c.loop-part.part) l (take at own ++ e ∷ [])) (so_far_more done own at e inside c.event-item.is)
          ∙ ap (λ l. known_of signals blocks (block_of blocks c.loop-part.part) (joined done ++ take (at + 1) own) l)
          (sym (more_events own at e inside c.event-item.is));
      passed = passed_more (λ r k e. broken r k e.note) all_rules line_of (known_in_part signals blocks done own) own _ _ e inside c.event-item.is
          (c.loop-event.invariant.known ∙ ap (λ n. known_of signals blocks (block_of blocks n)
          (joined done ++ take at own) (take at own)) far) (sym c.in_default.is ∙ c.rule_at.ensures)
          c.loop-event.invariant.passed;
    }

pub returns-in-Some : goal.returns-in-Some
returns-in-Some c =
    let own = c.as_slice-event-items.result.now in
    let done = take c.loop-part.part c.args.parts.now in
    let signals = c.args.signals.now.kinds.now in
    let blocks = c.args.blocks.now.blocks.now in
    let at = c.loop-event.event-index in
    let far : c.loop-part.part ≡ length done = sym (length-take-le c.loop-part.part c.args.parts.now (omega arith)) in
    let there : own ≡ get_or c.args.parts.now c.loop-part.part own = c.as_slice-event-items.ensures
    ∙ c.index-parts-part.is ∙ ap (λ d. get_or c.args.parts.now c.loop-part.part d)
    (sym c.as_slice-event-items.ensures) in
    part_told (λ r k e. broken r k e.note) all_rules line_of (known_in_part signals blocks) c.args.parts.now c.loop-part.part own _ (omega arith) there
    (told_here (λ r k e. broken r k e.note) all_rules line_of (known_in_part signals blocks done own) own _ _ _ _ (omega arith) c.event-item.is
    (c.loop-event.invariant.known ∙ ap (λ n. known_of signals blocks (block_of blocks n) (joined done ++ take at own)
    (take at own)) far) (sym c.in-Some.is ∙ c.rule_at.ensures) c.loop-event.invariant.passed
    ∙ ap (λ l. Some (c.in-Some.rule, l)) (sym c.line-line.ensures)) c.loop-part.invariant.passed

pub loop-part-preserved : goal.loop-part-preserved
loop-part-preserved c =
    let own = c.as_slice-event-items.result.now in
    let done = take c.loop-part.part c.args.parts.now in
    let signals = c.args.signals.now.kinds.now in
    let blocks = c.args.blocks.now.blocks.now in
    let at = c.loop-event.event-index in
    let there : own ≡ get_or c.args.parts.now c.loop-part.part own = c.as_slice-event-items.ensures
    ∙ c.index-parts-part.is ∙ ap (λ d. get_or c.args.parts.now c.loop-part.part d)
    (sym c.as_slice-event-items.ensures) in
    record {
      counted = ap (λ k. k.before) c.loop-event.invariant.known
          ∙ ap (amounts_in (kind_in signals)) (so_far_end c.args.parts.now c.loop-part.part own at (omega arith) there
          (omega arith));
      passed = parts_more (λ r k e. broken r k e.note) all_rules line_of (known_in_part signals blocks) c.args.parts.now
          c.loop-part.part own (omega arith) there
          (passed_all (λ r k e. broken r k e.note) all_rules line_of (known_in_part signals blocks done own) own at
          (omega arith) c.loop-event.invariant.passed) c.loop-part.invariant.passed;
    }

pub returns : goal.returns
returns c = parts_all (λ r k e. broken r k e.note) all_rules line_of
    (known_in_part c.args.signals.now.kinds.now c.args.blocks.now.blocks.now) c.args.parts.now _ (omega arith)
    c.loop-part.invariant.passed
