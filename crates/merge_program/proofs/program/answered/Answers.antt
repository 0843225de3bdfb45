use Rattle.std.proofs.Common.{rules}
use Rattle.std.proofs.lemmas.Grind.{common_steps}
use Rattle.merge_program.specs.Merge.{AreOthers}
use Rattle.merge_program.proofs.Merging.{answers_three, answers_usage, makes_three}
use Rattle.merge_program.proofs.program.answered.Goals as goal

pub returns-in-len3-clause-answers : goal.returns-in-len3-clause-answers
returns-in-len3-clause-answers g c =
    answers_three _ c.args.words.now c.exchange-item.result c.signals-item.result c.table-item.result _ _ _
    c.in-len3.len_at_least c.in-len3.len_below c.exchange-item.is c.signals-item.is c.table-item.is
    c.merge_files.ensures.comes

pub returns-in-len3-clause-made : goal.returns-in-len3-clause-made
returns-in-len3-clause-made g c =
    makes_three _ c.args.words.now c.exchange-item.result c.signals-item.result c.table-item.result _ _ _
    c.in-len3.len_at_least c.in-len3.len_below c.exchange-item.is c.signals-item.is c.table-item.is
    c.merge_files.ensures.comes c.merge_files.ensures.ending

pub returns-in_default-clause-answers : goal.returns-in_default-clause-answers
returns-in_default-clause-answers g c =
    let others : AreOthers c.args.words.now = search (rules, common_steps) in
    answers_usage (g.S.Shelf.held c.args.shelf.now) c.args.words.now (g.S.Shelf.faults c.args.shelf.now) c.usage_answer.result others c.usage_answer.ensures
