use Rattle.std.proofs.Common.{◌∷◌, rules}
use Rattle.fact_flows.specs.Flows.{OneGives}
use Rattle.fact_rows.specs.Known.{Knows}
use Rattle.least_facts.specs.Growing.{WaySends, search_of, without}
use Rattle.least_facts.specs.Marks.{marks_of}
use Rattle.least_facts.proofs.Flowing.{row_answers, sent_by, ways_good}
use Rattle.least_facts.proofs.Growing.{restand, rowless_visit, unreached_visit, visited}
use Rattle.least_facts.proofs.finding.visit.Goals as goal

pub returns-then-not-is_reached : goal.returns-then-not-is_reached
returns-then-not-is_reached c = unreached_visit c.args.setting.now.exchange.now c.args.setting.now.table.now
    c.args.setting.now.answers.now c.args.setting.now.entry (search_of c.args.rows.now c.args.marked.now) c.args.point
    c.is_reached.result c.requires.searches c.is_reached.ensures (search rules)

pub send_ways-requires-clause-stands : goal.send_ways-requires-clause-stands
send_ways-requires-clause-stands c = restand c.args.setting.now.exchange.now c.args.setting.now.table.now
    c.args.setting.now.answers.now c.args.setting.now.entry
    (without (search_of c.args.rows.now c.args.marked.now) (c.args.point ∷ marks_of c.args.marked.now))
    (marks_of c.args.marked.now) c.requires.searches.stands

pub send_ways-requires-clause-good : goal.send_ways-requires-clause-good
send_ways-requires-clause-good c =
    ways_good c.args.setting.now.exchange.now c.args.setting.now.table.now c.args.setting.now.entry c.args.point
    c.kept.ensures c.requires.setting.table c.in-Some.row.now c.in-Some.ensures c.args.rows.now
    c.requires.searches.stands.least (c.is_reached.ensures.0 (search rules)) c.as_slice-ways.result.now
    c.as_slice-ways.ensures

pub hand_out-requires-clause-stands : goal.hand_out-requires-clause-stands
hand_out-requires-clause-stands c = c.in_ok-sent-in-Some.ensures.goes.stands

pub hand_out-requires-clause-count : goal.hand_out-requires-clause-count
hand_out-requires-clause-count c = row_answers c.args.setting.now.exchange.now c.args.setting.now.table.now
    c.args.setting.now.entry c.args.point c.kept.ensures c.requires.setting.table c.in-Some.row.now c.in-Some.ensures

pub returns-in_ok-handed-in-Some : goal.returns-in_ok-handed-in-Some
returns-in_ok-handed-in-Some c =
    visited c.args.setting.now.exchange.now c.args.setting.now.table.now c.args.setting.now.answers.now
    c.args.setting.now.entry c.requires.setting.answers (search_of c.args.rows.now c.args.marked.now)
    (search_of c.send_ways.new.rows c.send_ways.new.marked) (search_of c.hand_out.new.rows c.hand_out.new.marked)
    c.args.point
    (OneGives (WaySends c.args.setting.now.exchange.now c.args.marked.now.firsts.items (Knows c.args.rows.now)
    c.args.setting.now.entry c.args.point) c.as_slice-ways.result.now)
    c.requires.searches
    (sent_by c.args.setting.now.exchange.now c.args.setting.now.table.now c.args.setting.now.entry c.args.point
    c.kept.ensures c.requires.setting.table c.in-Some.row.now c.in-Some.ensures c.args.marked.now.firsts.items
    c.args.rows.now c.as_slice-ways.result.now c.as_slice-ways.ensures)
    c.in_ok-sent-in-Some.ensures c.in_ok-handed-in-Some.ensures

pub returns-in-None : goal.returns-in-None
returns-in-None c = rowless_visit c.args.setting.now.exchange.now c.args.setting.now.table.now
    c.args.setting.now.answers.now c.args.setting.now.entry (search_of c.args.rows.now c.args.marked.now) c.args.point
    c.requires.setting.table c.requires.searches c.in-None.ensures
