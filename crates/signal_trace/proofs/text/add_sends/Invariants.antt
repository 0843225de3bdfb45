use Rattle.std.proofs.Common.{◌≡◌, ◌++◌, take}
use Rattle.std.specs.List.{flat_map}
use Rattle.signal_trace.specs.Text.{send_text}
use Rattle.signal_trace.proofs.text.add_sends.Given as goal

abbrev pub invariant-loop-sent : goal.invariant-loop-sent
invariant-loop-sent l = l.text ≡ l.fn.text ++ flat_map (send_text l.exchange l.job.number l.job.start.job.forlopp) (take l.sent-index l.sent-items)
