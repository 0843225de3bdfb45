use Rattle.std.specs.Prelude.{◌≡◌, None}
use Rattle.answer_meaning.specs.Answer.{IsAnswer, usage_answer}
use Rattle.command_words.specs.Words.{shape}
use Rattle.answer_meaning.proofs.Promises.{promised}
use Rattle.plex_program.proofs.program.plex.Goals as goal

pub returns-clause-answers : goal.returns-clause-answers
returns-clause-answers g c =
    (promised (IsAnswer c.args.words.now) (shape c.args.words.now ≡ None) usage_answer _ _ _ _ _ _ _ _ c.answered.result
    c.end_with.result c.answered.ensures.answers c.answered.ensures.made c.end_with.ensures).answers

pub returns-clause-unshaped : goal.returns-clause-unshaped
returns-clause-unshaped g c =
    (promised (IsAnswer c.args.words.now) (shape c.args.words.now ≡ None) usage_answer _ _ _ _ _ _ _ _ c.answered.result
    c.end_with.result c.answered.ensures.answers c.answered.ensures.made c.end_with.ensures).unshaped

pub returns-clause-usage : goal.returns-clause-usage
returns-clause-usage g c =
    (promised (IsAnswer c.args.words.now) (shape c.args.words.now ≡ None) usage_answer _ _ _ _ _ _ _ _ c.answered.result
    c.end_with.result c.answered.ensures.answers c.answered.ensures.made c.end_with.ensures).usage

pub returns-clause-read : goal.returns-clause-read
returns-clause-read g c =
    (promised (IsAnswer c.args.words.now) (shape c.args.words.now ≡ None) usage_answer _ _ _ _ _ _ _ _ c.answered.result
    c.end_with.result c.answered.ensures.answers c.answered.ensures.made c.end_with.ensures).read

pub returns-clause-write : goal.returns-clause-write
returns-clause-write g c =
    (promised (IsAnswer c.args.words.now) (shape c.args.words.now ≡ None) usage_answer _ _ _ _ _ _ _ _ c.answered.result
    c.end_with.result c.answered.ensures.answers c.answered.ensures.made c.end_with.ensures).write

pub returns-clause-memory : goal.returns-clause-memory
returns-clause-memory g c =
    (promised (IsAnswer c.args.words.now) (shape c.args.words.now ≡ None) usage_answer _ _ _ _ _ _ _ _ c.answered.result
    c.end_with.result c.answered.ensures.answers c.answered.ensures.made c.end_with.ensures).memory

pub returns-clause-complete : goal.returns-clause-complete
returns-clause-complete g c =
    (promised (IsAnswer c.args.words.now) (shape c.args.words.now ≡ None) usage_answer _ _ _ _ _ _ _ _ c.answered.result
    c.end_with.result c.answered.ensures.answers c.answered.ensures.made c.end_with.ensures).complete

pub returns-clause-fault : goal.returns-clause-fault
returns-clause-fault g c =
    (promised (IsAnswer c.args.words.now) (shape c.args.words.now ≡ None) usage_answer _ _ _ _ _ _ _ _ c.answered.result
    c.end_with.result c.answered.ensures.answers c.answered.ensures.made c.end_with.ensures).fault
