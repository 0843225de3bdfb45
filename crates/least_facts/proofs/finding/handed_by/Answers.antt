use Rattle.least_facts.proofs.Flowing.{awaits_none, hands_itself, hands_none, hands_other}
use Rattle.least_facts.proofs.finding.handed_by.Goals as goal

pub returns-in_default : goal.returns-in_default
returns-in_default c = awaits_none c.args.answers.now c.args.firsts.now c.args.point c.awaited_in.result c.awaited_in.ensures c.in_default.is

pub returns-then-first-point : goal.returns-then-first-point
returns-then-first-point c = hands_itself c.args.answers.now c.args.firsts.now c.args.point c.awaited_in.result
    c.awaited_in.ensures c.in-Some.answer c.in-Some.is c.first_of.result c.first_of.ensures c.in-Some-first_of.first
    c.in-Some-first_of.is c.if-first-point.true

pub returns-else-first-point : goal.returns-else-first-point
returns-else-first-point c = hands_other c.args.answers.now c.args.firsts.now c.args.point c.awaited_in.result
    c.awaited_in.ensures c.in-Some.answer c.in-Some.is c.first_of.result c.first_of.ensures c.in-Some-first_of.first
    c.in-Some-first_of.is c.if-first-point.false

pub returns-in-None : goal.returns-in-None
returns-in-None c = hands_none c.args.answers.now c.args.firsts.now c.args.point c.awaited_in.result
    c.awaited_in.ensures c.in-Some.answer c.in-Some.is c.first_of.result c.first_of.ensures c.in-None.is
