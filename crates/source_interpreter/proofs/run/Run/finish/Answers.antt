use Rattle.std.proofs.Common.{◌∙◌, ap, Err}
use Rattle.source_interpreter.proofs.Ending.{later_memory}
use Rattle.source_interpreter.proofs.run.Run.finish.Goals as goal

pub returns-in-Err-Memory-clause-memory : goal.returns-in-Err-Memory-clause-memory
returns-in-Err-Memory-clause-memory c =
    later_memory c.args.self.now c.loop-fault.self c.step.new.self c.args.store.now c.loop-fault.store c.step.new.store
    c.step.result (c.in-Err-Memory.is ∙ ap Err c.in-Err-Memory.field-0-is) c.step.ensures c.loop-fault.invariant
