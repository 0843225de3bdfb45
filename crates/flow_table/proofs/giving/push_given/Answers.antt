use Rattle.std.proofs.Common.{◌≡◌, ◌++◌, map}
use Rattle.flow_points.specs.Facts.{fact}
use Rattle.flow_table.specs.Giving.{HasGiven, SlotGives}
use Rattle.flow_table.proofs.Handing.{on_ok_as, slot_given}
use Rattle.flow_table.proofs.giving.push_given.Goals as goal

pub returns : goal.returns
returns g c =
    let P = g.K.KnownFacts.knows c.args.known.now in
    on_ok_as c.push_facts.result
    (c.push_facts.new.facts ≡ c.args.facts.now ++ map (fact c.args.entry c.args.to c.args.slot) c.as_slice.result.now)
    (HasGiven c.args.facts.now c.push_facts.new.facts (SlotGives P c.args.entry c.args.from c.args.source c.args.to c.args.slot))
    (λ is. slot_given P c.args.entry c.args.from c.args.source c.args.to c.args.slot c.in_ok-values.values
    c.as_slice.result.now c.args.facts.now c.push_facts.new.facts c.in_ok-values.ensures c.as_slice.ensures is)
    c.push_facts.ensures
