use Rattle.std.proofs.Common.{drop}
use Rattle.code_gen.specs.Settings.{places_in}
use Rattle.code_gen.proofs.PassSteps.{TextLeft}
use Rattle.code_gen.proofs.passes.emit_text.Given as goal

abbrev pub invariant-loop-statement : goal.invariant-loop-statement
invariant-loop-statement l = TextLeft (places_in l.at) l.fn.ops l.ops l.places (drop l.statement-index l.statement-items) l.text
