use Rattle.report_text.specs.Names.{placed, record_name}
use Rattle.report_text.proofs.Cells.{field_told}
use Rattle.report_text.proofs.stored.add_field.Goals as goal

pub returns : goal.returns
returns c = field_told c.add_other.new.text c.args.text.now
    (record_name c.args.exchange.now.blocks (placed c.args.place.now) c.args.number) c.as_slice.result.now
    c.args.field.now c.args.value c.if-value-field.false c.as_slice.ensures.items c.in_ok-add_other.ensures
