use Rattle.entry_accesses.proofs.Opened.{opens_fields}
use Rattle.entry_accesses.proofs.opening.push_if_freed.Goals as goal

pub returns-in_ok-push_fields-in-Frees : goal.returns-in_ok-push_fields-in-Frees
returns-in_ok-push_fields-in-Frees c = opens_fields c.args.exchange.now c.in-Frees.file c.args.access c.args.all.now
    c.push_fields.new.all c.in-Frees.is c.in_ok-push_fields-in-Frees.ensures
