use Rattle.std.proofs.Common.{◌≡◌, ◌+◌, drop, map}
use Rattle.exchange_model.specs.Inside.{total}
use Rattle.code_gen.specs.Unrolled.{some_places, stmt_unrolled, when_unrolled}
use Rattle.code_gen.proofs.unrolled.+unrolled.Given as goal

abbrev pub invariant-text_length-loop-statement : goal.invariant-text_length-loop-statement
invariant-text_length-loop-statement l =
    l.sum + total (map (stmt_unrolled (some_places l.exchange)) (drop l.statement-index l.statement-items))
    ≡ total (map (stmt_unrolled (some_places l.exchange)) l.text)

abbrev pub invariant-whens_length-loop-when : goal.invariant-whens_length-loop-when
invariant-whens_length-loop-when l =
    l.sum + total (map (when_unrolled (some_places l.exchange)) (drop l.when-index l.when-items)) ≡ total (map (when_unrolled (some_places l.exchange)) l.whens)
