use Rattle.std.proofs.Common.{[], arith}
use Rattle.load_maker.specs.Signals.{call_line}
use Rattle.load_maker.proofs.Rounds.{grown_more}
use Rattle.load_maker.proofs.signals.load_signals.Goals as goal

pub loop-call-preserved : goal.loop-call-preserved
loop-call-preserved c = grown_more call_line [] 0 c.loop-call.call c.loop-call.text c.add_call_line.new.text
    c.loop-call.invariant (omega arith) c.in_ok-add_call_line.ensures
