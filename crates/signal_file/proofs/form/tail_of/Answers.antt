use Rattle.text_lines.specs.Words.{words}
use Rattle.signal_file.proofs.Tails.{tail_ended, tail_none, tail_strange}
use Rattle.signal_file.proofs.form.tail_of.Goals as goal

pub returns-in-Some-ending : goal.returns-in-Some-ending
returns-in-Some-ending c =
    tail_ended (words c.args.line.now) (words c.loop-word.rest.now) (words c.in-Some.after.now) c.in-Some.word.now
    c.in-Some-ending.kind c.loop-word.count c.loop-word.values c.loop-word.invariant.goes c.in-Some.ensures.cases
    c.in-Some-ending.ensures

pub returns-in_default-read_number : goal.returns-in_default-read_number
returns-in_default-read_number c =
    tail_strange (words c.args.line.now) (words c.loop-word.rest.now) (words c.in-Some.after.now) c.in-Some.word.now
    c.loop-word.count c.loop-word.values c.loop-word.invariant.goes c.in-Some.ensures.cases
    c.in_default-ending.ensures c.in_default-read_number.ensures

pub returns : goal.returns
returns c = tail_none (words c.args.line.now) (words c.loop-word.rest.now) c.loop-word.count c.loop-word.values
    c.loop-word.invariant.goes c.in_default.ensures.cases
