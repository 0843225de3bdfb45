use Rattle.std.proofs.Common.{rules}
use Rattle.std.proofs.lemmas.Grind.{common_steps}
use Rattle.flow_points.specs.Facts.{Reached}
use Rattle.flow_table.specs.Texts.{seen}
use Rattle.flow_table.proofs.Rowing.{place_fits}
use Rattle.entry_accesses.proofs.Placing.{reached_adds}
use Rattle.entry_accesses.proofs.accesses.push_reached.Goals as goal

pub push_uses-requires-clause-of_block : goal.push_uses-requires-clause-of_block
push_uses-requires-clause-of_block g c = place_fits c.args.exchange.now (seen c.args.at.now) c.kept.ensures c.requires.place

pub returns : goal.returns
returns g c =
    let P = g.K.KnownFacts.knows c.args.known.now in
    let reached : Reached P c.args.entry c.args.at.now.point = search (rules, common_steps) in
    reached_adds c.args.exchange.now P c.args.entry (seen c.args.at.now) c.push_uses.new.uses c.each_once-uses.result
    c.as_slice.result.now c.new-uses.result c.args.accesses.now c.push_all.new.accesses reached c.new-uses.ensures
    c.in_ok-push_uses.ensures c.each_once-uses.ensures c.as_slice.ensures c.in_ok-push_all.ensures
