use Rattle.std.proofs.Common.{◌≡◌, take, ◌++◌}
use Rattle.exchange_model.specs.Inside.{joined}
use Rattle.first_fault.proofs.Told.{Passed, PartsPassed}
use Rattle.text_rules.specs.Signals.{known_of, known_in_part, broken, all_rules}
use Rattle.rule_checks.specs.Tables.{names_in}
use Rattle.text_rules.specs.Texts.{line_of}
use Rattle.rule_checks.proofs.signals.check_signals.Given as goal

abbrev pub invariant-loop-part : goal.invariant-loop-part
invariant-loop-part l = record {
  known : names_in l.seen ≡ known_of (joined (take l.part-index l.parts));
  passed : PartsPassed (λ r k e. broken r k e.note) all_rules line_of known_in_part l.parts l.part-index;
}

abbrev pub invariant-loop-event : goal.invariant-loop-event
invariant-loop-event l = record {
  known : names_in l.seen ≡ known_of (joined (take l.part-index l.parts) ++ take l.event-index l.event-items);
  passed : Passed (λ r k e. broken r k e.note) all_rules line_of (known_in_part (take l.part-index l.parts) l.event-items) l.event-items l.event-index;
}
