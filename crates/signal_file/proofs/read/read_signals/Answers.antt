use Rattle.signal_file.proofs.Behind.{read_end, read_stop}
use Rattle.signal_file.proofs.read.read_signals.Goals as goal

pub returns-in-Err : goal.returns-in-Err
returns-in-Err c =
    read_stop c.args.known.now.exchange.now c.args.text.now c.loop-line.rest.now c.in-Some.line.now c.in-Some.after.now
    c.loop-line.before c.loop-line.list c.in-Err.fault c.loop-line.invariant c.in-Some.ensures.cases
    c.in-Err.ensures

pub returns : goal.returns
returns c = read_end c.args.known.now.exchange.now c.args.text.now c.loop-line.rest.now c.loop-line.before
    c.loop-line.list c.loop-line.invariant c.in_default.ensures.cases
