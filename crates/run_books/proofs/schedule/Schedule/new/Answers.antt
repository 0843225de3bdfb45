use Rattle.std.proofs.Common.{length, nat_eq}
use Rattle.std.specs.HashMap.{get}
use Rattle.std.proofs.Common.{ap, arith, ◌∙◌}
use Rattle.std.specs.Map.{lookup}
use Rattle.run_books.specs.Lines.{arrived_of}
use Rattle.run_books.proofs.Lined.{known_begin, none_arrived}
use Rattle.run_books.proofs.schedule.Schedule.new.Goals as goal

-- src/schedule.rt:47:5
pub invariant_of-result : goal.invariant_of-result
invariant_of-result c = (
  omega (arith, ap length c.new.ensures.items),
  known_begin (get nat_eq c.new-2.result) c.args.lines
      c.new.result.items c.new.ensures.items (λ n. ap (lookup (nat_eq n)) c.new-2.ensures.empty),
)

-- src/schedule.rt:47:5
pub returns-clause-arrived : goal.returns-clause-arrived
returns-clause-arrived c = ap (arrived_of c.args.lines) c.new.ensures.items ∙ none_arrived c.args.lines
