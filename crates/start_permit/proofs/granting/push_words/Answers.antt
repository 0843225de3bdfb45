use Rattle.start_permit.proofs.Rowing.{field_words}
use Rattle.start_permit.proofs.granting.push_words.Goals as goal

pub returns-in_ok-push_selected-in-Field : goal.returns-in_ok-push_selected-in-Field
returns-in_ok-push_selected-in-Field c = λ chains all.
    field_words c.args.by.now.exchange.now c.args.by.now.all.now c.args.by.now.start.now chains c.args.write _
    c.in-Field.number c.in-Field.selector c.args.access c.as_slice-values.result.now c.args.spans.now
    c.push_selected.new.spans c.in-Field.is c.as_slice-values.ensures.items c.in_ok-push_selected-in-Field.ensures
