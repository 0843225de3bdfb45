use Rattle.std.proofs.Common.{ap, ◌∙◌}
use Rattle.source_meaning.specs.Job.{job}
use Rattle.run_engines.proofs.Starting.{begins, begins_there, leaves}
use Rattle.run_engines.proofs.by_code.ByCodeRunner.run.Goals as goal

pub run_to_end-requires-clause-begins : goal.run_to_end-requires-clause-begins
run_to_end-requires-clause-begins g c = begins c.args.exchange.now c.args.self.now.code.now c.args.start.now
    c.args.words.now c.begin.new.self c.kept.ensures c.requires.start c.begin.ensures

pub returns-clause-done : goal.returns-clause-done
returns-clause-done g c =
    let x = c.args.exchange.now in
    let code = c.args.self.now.code.now in
    let start = c.args.start.now in
    let words = c.args.words.now in
    let b = begins x code start words c.begin.new.self c.kept.ensures c.requires.start c.begin.ensures in
    leaves x start b.start words _ _ c.run_to_end.new.run c.run_to_end.new.words
    (begins_there x code start words c.begin.new.self c.kept.ensures c.requires.start c.begin.ensures)
    (c.run_to_end.ensures.meaning b)

pub returns-clause-words : goal.returns-clause-words
returns-clause-words g c =
    let x = c.args.exchange.now in
    let code = c.args.self.now.code.now in
    let start = c.args.start.now in
    let words = c.args.words.now in
    let b = begins x code start words c.begin.new.self c.kept.ensures c.requires.start c.begin.ensures in
    (c.run_to_end.ensures.meaning b).store_is ∙ ap (λ s. (job x s words).world.store)
    (begins_there x code start words c.begin.new.self c.kept.ensures c.requires.start c.begin.ensures)
