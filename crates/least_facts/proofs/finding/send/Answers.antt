use Rattle.std.proofs.Common.{◌∙◌, ap, slice_get, sym}
use Rattle.fact_rows.specs.Known.{Knows}
use Rattle.answer_table.specs.Answers.{known_answer}
use Rattle.least_facts.specs.Growing.{search_of}
use Rattle.least_facts.proofs.Flowing.{answers_good, first_good, none_first, points_good}
use Rattle.least_facts.proofs.Flowing.{sent_first, sent_points, sent_retrieves, to_first}
use Rattle.least_facts.proofs.finding.send.Goals as goal

pub flow_all-requires-clause-good : goal.flow_all-requires-clause-good
flow_all-requires-clause-good c = points_good c.args.setting.now.exchange.now c.args.setting.now.table.now
    c.args.setting.now.answers.now c.args.setting.now.entry c.args.point (search_of c.args.rows.now c.args.marked.now)
    (search_of c.args.rows.now c.args.marked.now) c.args.way.now c.in-Points.points c.as_slice-ends.result.now
    c.in-Points.is c.as_slice-ends.ensures c.requires.good

pub flow-requires-clause-good : goal.flow-requires-clause-good
flow-requires-clause-good c =
    first_good c.args.setting.now.exchange.now c.args.setting.now.table.now c.args.setting.now.answers.now
    c.args.setting.now.entry c.args.point c.args.way.now.how c.in-Retrieves.answer c.requires.setting.answers
    (search_of c.args.rows.now c.args.marked.now) c.requires.stands c.first_of.result c.in-Some.first
    (c.first_of.ensures ∙ ap (λ l. known_answer (slice_get l c.in-Retrieves.answer)) c.deref.ensures.value)
    c.in-Some.is
    (answers_good c.args.setting.now.exchange.now c.args.setting.now.table.now c.args.setting.now.answers.now
    c.args.setting.now.entry c.args.point (search_of c.args.rows.now c.args.marked.now)
    (search_of c.args.rows.now c.args.marked.now) c.args.way.now c.in-Retrieves.answer c.in-Retrieves.is
    c.requires.good)

pub flow_retrieves-requires-clause-good : goal.flow_retrieves-requires-clause-good
flow_retrieves-requires-clause-good c = answers_good c.args.setting.now.exchange.now c.args.setting.now.table.now
    c.args.setting.now.answers.now c.args.setting.now.entry c.args.point (search_of c.args.rows.now c.args.marked.now)
    (search_of c.args.rows.now c.args.marked.now) c.args.way.now c.in-Retrieves.answer c.in-Retrieves.is c.requires.good

pub returns-in_ok-more-in-Points : goal.returns-in_ok-more-in-Points
returns-in_ok-more-in-Points c = sent_points c.args.setting.now.exchange.now c.args.setting.now.table.now
    c.args.setting.now.answers.now c.args.setting.now.entry c.args.point (search_of c.args.rows.now c.args.marked.now)
    (search_of c.flow_all.new.rows c.flow_all.new.marked) c.args.way.now (Knows c.args.rows.now)
    c.args.marked.now.firsts.items c.in-Points.points c.as_slice-ends.result.now c.in-Points.is c.as_slice-ends.ensures
    c.in_ok-more-in-Points.ensures

pub returns-then-not-gives_answer : goal.returns-then-not-gives_answer
returns-then-not-gives_answer c = sent_retrieves c.args.setting.now.exchange.now c.args.setting.now.table.now
    c.args.setting.now.answers.now c.args.setting.now.entry c.args.point (search_of c.args.rows.now c.args.marked.now)
    (search_of c.flow_retrieves.new.rows c.flow_retrieves.new.marked) c.args.way.now (Knows c.args.rows.now)
    c.args.marked.now.firsts.items c.in-Retrieves.answer c.in-Retrieves.is c.in_ok-all-in-Retrieves.ensures

pub returns-in_default : goal.returns-in_default
returns-in_default c = sent_first c.args.setting.now.exchange.now c.args.setting.now.table.now
    c.args.setting.now.answers.now c.args.setting.now.entry c.args.point (search_of c.args.rows.now c.args.marked.now)
    (search_of c.args.rows.now c.args.marked.now) c.args.way.now (Knows c.args.rows.now) c.args.marked.now.firsts.items
    c.in-Retrieves.answer c.in-Retrieves.is (none_first c.args.setting.now.exchange.now c.args.setting.now.table.now
    c.args.setting.now.answers.now c.args.setting.now.entry c.args.point c.args.way.now.how c.in-Retrieves.answer
    c.requires.setting.answers (search_of c.args.rows.now c.args.marked.now) c.requires.stands c.first_of.result
    (c.first_of.ensures ∙ ap (λ l. known_answer (slice_get l c.in-Retrieves.answer)) c.deref.ensures.value)
    c.in_default.is (sym c.gives_answer.ensures ∙ c.if-not-gives_answer.false))

pub returns-in_ok-more-in-Retrieves : goal.returns-in_ok-more-in-Retrieves
returns-in_ok-more-in-Retrieves c = sent_first c.args.setting.now.exchange.now c.args.setting.now.table.now
    c.args.setting.now.answers.now c.args.setting.now.entry c.args.point (search_of c.args.rows.now c.args.marked.now)
    (search_of c.flow.new.rows c.flow.new.marked) c.args.way.now (Knows c.args.rows.now) c.args.marked.now.firsts.items
    c.in-Retrieves.answer c.in-Retrieves.is (to_first c.args.setting.now.exchange.now c.args.setting.now.table.now
    c.args.setting.now.answers.now c.args.setting.now.entry c.args.point c.args.way.now.how c.in-Retrieves.answer
    c.requires.setting.answers (search_of c.args.rows.now c.args.marked.now) c.requires.stands c.first_of.result
    c.in-Some.first (search_of c.flow.new.rows c.flow.new.marked)
    (c.first_of.ensures ∙ ap (λ l. known_answer (slice_get l c.in-Retrieves.answer)) c.deref.ensures.value) c.in-Some.is
    (sym c.gives_answer.ensures ∙ c.if-not-gives_answer.false) c.in_ok-more-in-Retrieves.ensures)
