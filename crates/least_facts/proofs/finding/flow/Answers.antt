use Rattle.std.proofs.Common.{rules}
use Rattle.least_facts.specs.Growing.{search_of}
use Rattle.least_facts.proofs.Flowing.{can_flow, flowed, not_guarded}
use Rattle.least_facts.proofs.finding.flow.Goals as goal

pub returns-then-not-branch : goal.returns-then-not-branch
returns-then-not-branch c = not_guarded c.args.setting.now.exchange.now c.args.setting.now.table.now
    c.args.setting.now.answers.now c.args.setting.now.entry c.args.from c.args.how.now c.args.to
    (search_of c.args.rows.now c.args.marked.now) c.requires.stands c.in_ok-is_guarded.field-0
    c.in_ok-is_guarded.ensures (search rules)

pub give_point-requires-clause-can : goal.give_point-requires-clause-can
give_point-requires-clause-can c = can_flow c.args.setting.now.exchange.now c.args.setting.now.table.now
    c.args.setting.now.answers.now c.args.setting.now.entry c.args.from c.args.how.now c.args.to
    (search_of c.args.rows.now c.args.marked.now) c.requires.stands c.in_ok-is_guarded.field-0 c.requires.good
    c.in_ok-is_guarded.ensures (search rules)

pub returns : goal.returns
returns c =
    flowed c.args.setting.now.exchange.now c.args.setting.now.table.now c.args.setting.now.answers.now
    c.args.setting.now.entry c.args.from c.args.how.now c.args.to (search_of c.args.rows.now c.args.marked.now)
    c.requires.stands c.kept.ensures c.requires.setting.answers c.in_ok-grown.grown c.is_noted-noted.result
    c.give_point.new.rows _ _
    c.in_ok-grown.ensures c.is_noted-noted.ensures c.in_ok-settle.ensures
