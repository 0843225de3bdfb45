use Rattle.least_facts.specs.Growing.{search_of}
use Rattle.least_facts.proofs.Flowing.{added, own_entry, own_fits}
use Rattle.least_facts.proofs.finding.add.Goals as goal

pub add-requires-clause-entry : goal.add-requires-clause-entry
add-requires-clause-entry c = own_entry c.args.setting.now.exchange.now c.args.setting.now.table.now
    c.args.setting.now.entry (search_of c.args.rows.now c.args.marked.now) c.args.fact c.requires.stands
    c.requires.least

pub add-requires-clause-place : goal.add-requires-clause-place
add-requires-clause-place c = own_fits c.args.setting.now.exchange.now c.args.setting.now.table.now
    c.args.setting.now.entry (search_of c.args.rows.now c.args.marked.now) c.args.fact c.kept.ensures
    c.requires.setting.table c.requires.stands c.requires.least

pub returns : goal.returns
returns c =
    added c.args.setting.now.exchange.now c.args.setting.now.table.now c.args.setting.now.answers.now
    c.args.setting.now.entry c.kept.ensures c.requires.setting.answers (search_of c.args.rows.now c.args.marked.now)
    c.requires.stands c.args.fact c.requires.least c.in_ok-grown.grown c.is_noted-noted.result c.add.new.self _ _
    c.is_noted-noted.ensures c.in_ok-grown.ensures.adds c.in_ok-grown.ensures.counted c.in_ok-settle.ensures
