use Rattle.conflicts_program.specs.Words.{AreOthers, IsConflictsAnswer, usage_answer}
use Rattle.answer_meaning.proofs.Promises.{promised}
use Rattle.conflicts_program.proofs.program.plex_conflicts.Goals as goal

pub returns-clause-answers : goal.returns-clause-answers
returns-clause-answers g c =
    (promised (IsConflictsAnswer c.args.words.now) (AreOthers c.args.words.now) usage_answer _ _ _ _ _ _ _ _ c.answered.result
    c.end_with.result c.answered.ensures.answers c.answered.ensures.made c.end_with.ensures).answers

pub returns-clause-unshaped : goal.returns-clause-unshaped
returns-clause-unshaped g c =
    (promised (IsConflictsAnswer c.args.words.now) (AreOthers c.args.words.now) usage_answer _ _ _ _ _ _ _ _ c.answered.result
    c.end_with.result c.answered.ensures.answers c.answered.ensures.made c.end_with.ensures).unshaped

pub returns-clause-usage : goal.returns-clause-usage
returns-clause-usage g c =
    (promised (IsConflictsAnswer c.args.words.now) (AreOthers c.args.words.now) usage_answer _ _ _ _ _ _ _ _ c.answered.result
    c.end_with.result c.answered.ensures.answers c.answered.ensures.made c.end_with.ensures).usage

pub returns-clause-read : goal.returns-clause-read
returns-clause-read g c =
    (promised (IsConflictsAnswer c.args.words.now) (AreOthers c.args.words.now) usage_answer _ _ _ _ _ _ _ _ c.answered.result
    c.end_with.result c.answered.ensures.answers c.answered.ensures.made c.end_with.ensures).read

pub returns-clause-write : goal.returns-clause-write
returns-clause-write g c =
    (promised (IsConflictsAnswer c.args.words.now) (AreOthers c.args.words.now) usage_answer _ _ _ _ _ _ _ _ c.answered.result
    c.end_with.result c.answered.ensures.answers c.answered.ensures.made c.end_with.ensures).write

pub returns-clause-memory : goal.returns-clause-memory
returns-clause-memory g c =
    (promised (IsConflictsAnswer c.args.words.now) (AreOthers c.args.words.now) usage_answer _ _ _ _ _ _ _ _ c.answered.result
    c.end_with.result c.answered.ensures.answers c.answered.ensures.made c.end_with.ensures).memory

pub returns-clause-complete : goal.returns-clause-complete
returns-clause-complete g c =
    (promised (IsConflictsAnswer c.args.words.now) (AreOthers c.args.words.now) usage_answer _ _ _ _ _ _ _ _ c.answered.result
    c.end_with.result c.answered.ensures.answers c.answered.ensures.made c.end_with.ensures).complete

pub returns-clause-fault : goal.returns-clause-fault
returns-clause-fault g c =
    (promised (IsConflictsAnswer c.args.words.now) (AreOthers c.args.words.now) usage_answer _ _ _ _ _ _ _ _ c.answered.result
    c.end_with.result c.answered.ensures.answers c.answered.ensures.made c.end_with.ensures).fault
