use Rattle.std.proofs.Common.{sym, ◌∙◌}
use Rattle.run_answers.proofs.Opened.{ends_at, limit_few}
use Rattle.worker_answers.proofs.Changed.{at_few, is_changed_so, not_changed, parts_few}
use Rattle.worker_answers.proofs.Changed.{parts_stand}
use Rattle.worker_answers.proofs.changing.reached_answer.Goals as goal

pub before_lines-requires-clause-limit : goal.before_lines-requires-clause-limit
before_lines-requires-clause-limit g c = limit_few _ _ c.from.ensures (at_few _ _ _ c.requires.reached c.requires.bounds.jobs)

pub go_on-requires-clause-limit : goal.go_on-requires-clause-limit
go_on-requires-clause-limit g c κs within = limit_few _ _ (c.in_ok-run.ensures.limit ∙ c.from.ensures) (at_few _ _ _ c.requires.reached c.requires.bounds.jobs)

pub returns-then-ends_before-clause-answer : goal.returns-then-ends_before-clause-answer
returns-then-ends_before-clause-answer g c =
    not_changed c.args.change.now.old.now c.args.change.now.new.now.exchange.now c.args.lines c.args.bounds.jobs
    c.args.change.now.at c.requires.reached c.in_ok-end.end
    (ends_at _ _ _ _ _ _ c.in_ok-run.ensures.state (c.in_ok-run.ensures.limit ∙ c.from.ensures) c.in_ok-end.ensures)
    c.end_answer.result (sym c.ends_before.ensures ∙ c.if-ends_before.true) c.end_answer.ensures.answer

pub changed_answer-requires-clause-few : goal.changed_answer-requires-clause-few
changed_answer-requires-clause-few g c κs within =
    parts_few c.args.change.now.old.now c.args.change.now.new.now.exchange.now c.args.lines c.args.bounds.jobs
    c.args.change.now.at c.requires.reached c.in_ok-end.end
    (ends_at _ _ _ _ _ _ c.in_ok-run.ensures.state (c.in_ok-run.ensures.limit ∙ c.from.ensures) c.in_ok-end.ensures)
    c.into_parts-parts.result c.into_parts-parts.ensures.books

pub changed_answer-requires-clause-standing : goal.changed_answer-requires-clause-standing
changed_answer-requires-clause-standing g c κs within =
    parts_stand c.args.change.now.old.now c.args.change.now.new.now.exchange.now c.args.lines c.args.bounds.jobs
    c.args.change.now.at c.requires.reached c.in_ok-end.end
    (ends_at _ _ _ _ _ _ c.in_ok-run.ensures.state (c.in_ok-run.ensures.limit ∙ c.from.ensures) c.in_ok-end.ensures)
    c.into_parts-parts.result c.into_parts-parts.ensures.books c.kept.ensures c.requires.lines
    c.into_parts-parts.ensures.parts

pub returns-clause-answer : goal.returns-clause-answer
returns-clause-answer g c =
    is_changed_so c.args.change.now.old.now c.args.change.now.new.now.exchange.now c.args.lines c.args.bounds.jobs
    c.args.change.now.at c.requires.reached c.in_ok-end.end
    (ends_at _ _ _ _ _ _ c.in_ok-run.ensures.state (c.in_ok-run.ensures.limit ∙ c.from.ensures) c.in_ok-end.ensures)
    c.into_parts-parts.result c.into_parts-parts.ensures.books c.changed_answer.result
    (sym c.ends_before.ensures ∙ c.if-ends_before.false) c.changed_answer.ensures.answer
