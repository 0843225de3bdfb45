use Rattle.std.proofs.Common.{◌≡◌, ◌∷◌, ◌∙◌, ap, length, subst, sym}
use Rattle.exchange_model.specs.Parts.{Parts}
use Rattle.least_facts.specs.Growing.{Searches, search_of}
use Rattle.least_facts.specs.Marks.{marks_of}
use Rattle.least_facts.proofs.Growing.{begun_least, begun_searches, begun_stands, found_all}
use Rattle.least_facts.proofs.Growing.{visit_less}
use Rattle.least_facts.proofs.Telling.{least_over}
use Rattle.least_facts.proofs.Marking.{none_taken, taken}
use Rattle.least_facts.proofs.finding.find.Goals as goal

pub add_all-requires-clause-stands : goal.add_all-requires-clause-stands
add_all-requires-clause-stands c = (begun_stands c.args.setting.now.exchange.now c.args.setting.now.table.now
    c.args.setting.now.answers.now c.args.setting.now.entry c.begin.new.self c.args.rows.now.marks.slots c.begin.ensures
    (marks_of c.in_ok-marked.marked) c.in_ok-marked.marked.firsts.items c.len.result c.requires.slots
    c.in_ok-marked.ensures.firsts (c.len.ensures ∙ ap (λ (v : Parts). length v.signals) c.exchange.view_is))

pub add_all-requires-clause-least : goal.add_all-requires-clause-least
add_all-requires-clause-least c = begun_least c.args.setting.now.exchange.now c.args.setting.now.table.now
    c.args.setting.now.answers.now c.args.setting.now.entry c.begin.new.self c.args.rows.now.marks.slots c.begin.ensures
    c.new-facts.result c.push_given_at_start.new.facts c.as_slice-begun.result.now c.new-facts.ensures
    c.in_ok-push_given_at_start.ensures c.as_slice-begun.ensures

pub loop-point-init : goal.loop-point-init
loop-point-init c =
    begun_searches c.args.setting.now.exchange.now c.args.setting.now.table.now c.args.setting.now.answers.now
    c.args.setting.now.entry c.begin.new.self c.args.rows.now.marks.slots c.begin.ensures c.new-facts.result
    c.push_given_at_start.new.facts c.as_slice-begun.result.now c.new-facts.ensures
    c.in_ok-push_given_at_start.ensures c.as_slice-begun.ensures c.requires.setting.answers
    (marks_of c.in_ok-marked.marked) c.in_ok-marked.marked.firsts.items
    (search_of c.add_all.new.rows c.add_all.new.marked)
    (begun_stands c.args.setting.now.exchange.now c.args.setting.now.table.now c.args.setting.now.answers.now
    c.args.setting.now.entry c.begin.new.self c.args.rows.now.marks.slots c.begin.ensures
    (marks_of c.in_ok-marked.marked) c.in_ok-marked.marked.firsts.items c.len.result c.requires.slots
    c.in_ok-marked.ensures.firsts (c.len.ensures ∙ ap (λ (v : Parts). length v.signals) c.exchange.view_is))
    c.in_ok-marked.ensures.marks c.in_ok-add_all.ensures

pub visit-requires-clause-searches : goal.visit-requires-clause-searches
visit-requires-clause-searches c =
    let marks : marks_of c.loop-point.marked ≡ c.in-Some.point
    ∷ marks_of c.take.new.marked = (taken c.take.result c.in-Some.point (marks_of c.loop-point.marked)
    (marks_of c.take.new.marked) c.in-Some.is c.take.ensures.takes) in
    let firsts : c.loop-point.marked.firsts.items ≡ c.take.new.marked.firsts.items = sym c.take.ensures.firsts in
    subst (Searches c.args.setting.now.exchange.now c.args.setting.now.table.now c.args.setting.now.entry)
    (λ i. record { rows = c.loop-point.rows; marks = marks i; firsts = firsts i }) c.loop-point.invariant

pub loop-point-preserved : goal.loop-point-preserved
loop-point-preserved c = c.in_ok-more.ensures.searches

pub loop-point-smaller : goal.loop-point-smaller
loop-point-smaller c =
    visit_less c.args.setting.now.exchange.now c.args.setting.now.table.now c.args.setting.now.answers.now
    c.args.setting.now.entry (search_of c.loop-point.rows c.take.new.marked)
    (search_of c.visit.new.rows c.visit.new.marked) c.in-Some.point (marks_of c.loop-point.marked)
    (taken c.take.result c.in-Some.point (marks_of c.loop-point.marked) (marks_of c.take.new.marked) c.in-Some.is c.take.ensures.takes) c.in_ok-more.ensures

pub returns-in-Some-2-clause-found : goal.returns-in-Some-2-clause-found
returns-in-Some-2-clause-found c = least_over c.args.setting.now.exchange.now c.args.setting.now.table.now
    c.args.setting.now.entry (search_of c.loop-point.rows c.loop-point.marked) c.args.most _ c.in-Some-2.looks
    c.loop-point.invariant.stands c.in-Some-2.is c.in_ok-looks.ensures

pub returns-in-Some-2-clause-slots : goal.returns-in-Some-2-clause-slots
returns-in-Some-2-clause-slots c = c.loop-point.invariant.stands.of_slots

pub returns-clause-found : goal.returns-clause-found
returns-clause-found c =
    found_all c.args.setting.now.exchange.now c.args.setting.now.table.now c.args.setting.now.answers.now
    c.args.setting.now.entry c.requires.setting.answers (search_of c.loop-point.rows c.loop-point.marked)
    c.loop-point.invariant
    (none_taken c.take.result (marks_of c.loop-point.marked) (marks_of c.take.new.marked) c.in_default.not-Some c.take.ensures.takes)

pub returns-clause-slots : goal.returns-clause-slots
returns-clause-slots c = c.loop-point.invariant.stands.of_slots
