use Rattle.std.proofs.Common.{◌≡◌, length, rules}
use Rattle.std.proofs.lemmas.Grind.{common_steps}
use Rattle.conflicts_program.proofs.Answering.{one_answers, one_makes, other_answers, other_makes}
use Rattle.conflicts_program.proofs.Answering.{three_answers, three_makes}
use Rattle.conflicts_program.proofs.program.answered.Goals as goal

pub returns-in-len1-clause-answers : goal.returns-in-len1-clause-answers
returns-in-len1-clause-answers g c =
    one_answers _ c.args.words.now _ _ _ c.name-item.result c.in-len1.len_at_least c.in-len1.len_below c.name-item.is c.tell_all.ensures.answers

pub returns-in-len1-clause-made : goal.returns-in-len1-clause-made
returns-in-len1-clause-made g c =
    one_makes (g.S.Shelf.held c.args.shelf.now) c.args.words.now 0 0 _ c.name-item.result c.in-len1.len_at_least
    c.in-len1.len_below c.name-item.is c.tell_all.ensures.made

pub returns-in-len3-clause-answers : goal.returns-in-len3-clause-answers
returns-in-len3-clause-answers g c =
    three_answers _ c.args.words.now _ _ _ c.exchange-item.result c.first-item.result c.later-item.result
    c.in-len3.len_at_least c.in-len3.len_below c.exchange-item.is c.first-item.is c.later-item.is
    c.tell_pair.ensures.answers

pub returns-in-len3-clause-made : goal.returns-in-len3-clause-made
returns-in-len3-clause-made g c =
    three_makes (g.S.Shelf.held c.args.shelf.now) c.args.words.now 0 0 _ c.exchange-item.result c.first-item.result
    c.later-item.result c.in-len3.len_at_least c.in-len3.len_below c.exchange-item.is c.first-item.is
    c.later-item.is c.tell_pair.ensures.made

pub returns-in_default-clause-answers : goal.returns-in_default-clause-answers
returns-in_default-clause-answers g c =
    let not_one : length c.args.words.now ≡ 1 → ⊥ = search (rules, common_steps) in
    let not_three : length c.args.words.now ≡ 3 → ⊥ = search (rules, common_steps) in
    other_answers (g.S.Shelf.held c.args.shelf.now) c.args.words.now (g.S.Shelf.faults c.args.shelf.now)
    c.usage_answer.result not_one not_three c.usage_answer.ensures

pub returns-in_default-clause-made : goal.returns-in_default-clause-made
returns-in_default-clause-made g c =
    let not_one : length c.args.words.now ≡ 1 → ⊥ = search (rules, common_steps) in
    let not_three : length c.args.words.now ≡ 3 → ⊥ = search (rules, common_steps) in
    other_makes c.args.words.now c.usage_answer.result not_one not_three c.usage_answer.ensures
