use Rattle.entry_accesses.proofs.Using.{field_there}
use Rattle.entry_accesses.proofs.uses.push_field.Goals as goal

pub returns : goal.returns
returns c =
    field_there c.args.exchange.now c.args.file c.in-Some.found.block c.in-Some.found.first c.in-Some.found.file.now
    c.args.write c.args.number c.args.pointer c.field_use.result c.args.uses.now c.push.new.self c.in-Some.ensures
    c.field_use.ensures c.in_ok-push.ensures
