use Rattle.run_books.proofs.Listed.{fielded_more}
use Rattle.run_books.proofs.stores.list_fields.Goals as goal

pub loop-field-preserved : goal.loop-field-preserved
loop-field-preserved c =
    fielded_more c.args.stores.now c.loop-field.stores c.push.new.self c.args.first c.loop-field.word c.args.fields.now
    c.loop-field.field-index c.field-item.result c.loop-field-test.true c.field-item.is c.in_ok-push.ensures
    c.loop-field.invariant
