use Rattle.std.proofs.Common.{subst}
use Rattle.least_facts.specs.Growing.{IsHandedBy, search_of}
use Rattle.least_facts.proofs.Flowing.{hand_good, none_handed, to_handed}
use Rattle.least_facts.proofs.finding.hand_out.Goals as goal

pub returns-in_default : goal.returns-in_default
returns-in_default c = none_handed c.args.setting.now.exchange.now c.args.setting.now.table.now
    c.args.setting.now.answers.now c.args.setting.now.entry c.args.point c.requires.setting.answers
    (search_of c.args.rows.now c.args.marked.now) c.requires.stands c.handed_by.result
    (subst (λ l. IsHandedBy c.args.setting.now.answers.now l c.args.point c.handed_by.result) c.deref.ensures.value
    c.handed_by.ensures) c.in_default.is

pub flow_retrieves-requires-clause-good : goal.flow_retrieves-requires-clause-good
flow_retrieves-requires-clause-good c = hand_good c.args.setting.now.exchange.now c.args.setting.now.table.now
    c.args.setting.now.answers.now c.args.setting.now.entry c.args.point c.requires.setting.answers
    (search_of c.args.rows.now c.args.marked.now) c.requires.stands c.handed_by.result c.in-Some.answer c.args.count
    c.in_ok-values.values (subst (λ l. IsHandedBy c.args.setting.now.answers.now l c.args.point c.handed_by.result)
    c.deref.ensures.value c.handed_by.ensures) c.in-Some.is c.in_ok-values.ensures

pub returns : goal.returns
returns c = to_handed c.args.setting.now.exchange.now c.args.setting.now.table.now c.args.setting.now.answers.now
    c.args.setting.now.entry c.args.point c.requires.setting.answers (search_of c.args.rows.now c.args.marked.now)
    c.requires.stands c.handed_by.result c.in-Some.answer c.args.count c.in_ok-values.values
    (subst (λ l. IsHandedBy c.args.setting.now.answers.now l c.args.point c.handed_by.result) c.deref.ensures.value
    c.handed_by.ensures) c.in-Some.is c.in_ok-values.ensures
    (search_of c.flow_retrieves.new.rows c.flow_retrieves.new.marked) c.requires.count c.in_ok-handed.ensures
