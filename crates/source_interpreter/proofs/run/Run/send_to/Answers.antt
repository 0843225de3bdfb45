use Rattle.std.proofs.Common.{rules, ◌≡◌, Some, slice_get}
use Rattle.exchange_model.specs.declared.signal.SignalKind.{SignalKind}
use Rattle.source_interpreter.specs.Running.{Running}
use Rattle.source_interpreter.proofs.Sending.{sends_combined}
use Rattle.source_interpreter.proofs.run.Run.send_to.Goals as goal

pub returns-in-Some-Combined : goal.returns-in-Some-Combined
returns-in-Some-Combined c =
    let r : Running = c.args.self.now in
    let k : SignalKind = c.in-Some-Combined.field-0.now in
    let known : slice_get r.exchange.signals c.args.signal ≡ Some k = search rules in
    λ store. sends_combined r c.args.signal c.args.block c.args.fresh c.args.values k known store c.ask.new.self _ _
    c.in-Some-Combined.answer c.ask.result c.in-Some-Combined.field-0-is c.ask.ensures
