use Rattle.flow_table.specs.Texts.{seen}
use Rattle.entry_accesses.specs.Adding.{HasAccess}
use Rattle.entry_accesses.proofs.Adding.{adds_alike}
use Rattle.entry_accesses.proofs.accesses.gather.Goals as goal

pub returns : goal.returns
returns g c =
    adds_alike c.args.found.accesses c.push_reached.new.accesses c.thinned.result.accesses
    (HasAccess c.args.exchange.now (g.K.KnownFacts.knows c.args.known.now) c.args.entry (seen c.args.at.now))
    c.thinned.ensures c.in_ok-push_reached.ensures
