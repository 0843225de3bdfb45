use Rattle.std.proofs.Common.{rules, ◌≡◌, Some, Ok, Err}
use Rattle.std.specs.Prelude.{nat_lt}
use Rattle.job_types.specs.declared.fault.Fault.{Fault}
use Rattle.job_types.specs.declared.fault.Fault.TheVariants as fault
use Rattle.job_types.specs.Own.{budget, counted}
use Rattle.source_meaning.specs.Config.{next_counted}
use Rattle.source_interpreter.specs.Running.{Running}
use Rattle.source_interpreter.specs.Taken.{before}
use Rattle.source_interpreter.specs.declared.stop.Stop.TheVariants as stop
use Rattle.source_interpreter.specs.declared.work.Next.TheVariants as next
use Rattle.source_interpreter.proofs.Follow.{checked}
use Rattle.source_interpreter.proofs.Stepping.{nothing_left, statement_done, statement_full}
use Rattle.source_interpreter.proofs.Stepping.{start_done, start_full, turn_done, turn_full}
use Rattle.source_interpreter.proofs.run.Run.step.Goals as goal

pub returns-in_err-count-in-Some-Do : goal.returns-in_err-count-in-Some-Do
returns-in_err-count-in-Some-Do c =
    let r : Running = c.args.self.now in
    let r1 : Running = c.take_next.new.self in
    let f : Fault = c.in_err-count-in-Some-Do.field-0.0 in
    let settled : next_counted r.todo ≡ before c.in_ok-take_next.field-0 r1.todo = search rules in
    let took : r1 ≡ record r { todo = r1.todo } = search rules in
    let found : c.in_ok-take_next.field-0 ≡ Some (next.Do c.in-Some-Do.statement c.in-Some-Do.cases) = search rules in
    let full : Err f ≡ checked (nat_lt r1.own.count budget) fault.Budget = search rules in
    let point_is : c.count.new.self ≡ record r1 { own = record r1.own { point = c.in-Some-Do.statement.now.point } } = search rules in
    let gave : c.from_residual-in_err-count-in-Some-Do.result ≡ Err (stop.Fault f) = search rules in
    statement_full r r1 c.args.store.now c.in_ok-take_next.field-0 settled took c.in-Some-Do.statement
    c.in-Some-Do.cases c.count.new.self f c.from_residual-in_err-count-in-Some-Do.result found full point_is gave

pub returns-in_err-count-in-Some-Start : goal.returns-in_err-count-in-Some-Start
returns-in_err-count-in-Some-Start c =
    let r : Running = c.args.self.now in
    let r1 : Running = c.take_next.new.self in
    let f : Fault = c.in_err-count-in-Some-Start.field-0.0 in
    let settled : next_counted r.todo ≡ before c.in_ok-take_next.field-0 r1.todo = search rules in
    let took : r1 ≡ record r { todo = r1.todo } = search rules in
    let found : c.in_ok-take_next.field-0 ≡ Some (next.Start c.in-Some-Start.statement) = search rules in
    let full : Err f ≡ checked (nat_lt r1.own.count budget) fault.Budget = search rules in
    let point_is : c.count-in-Some-Start.new.self ≡ record r1 { own = record r1.own { point = c.in-Some-Start.statement.now.point } } = search rules in
    let gave : c.from_residual-in_err-count-in-Some-Start.result ≡ Err (stop.Fault f) = search rules in
    start_full r r1 c.args.store.now c.in_ok-take_next.field-0 settled took c.in-Some-Start.statement
    c.count-in-Some-Start.new.self f c.from_residual-in_err-count-in-Some-Start.result found full point_is gave

pub returns-in_err-count-in-Some-Turn : goal.returns-in_err-count-in-Some-Turn
returns-in_err-count-in-Some-Turn c =
    let r : Running = c.args.self.now in
    let r1 : Running = c.take_next.new.self in
    let f : Fault = c.in_err-count-in-Some-Turn.field-0.0 in
    let settled : next_counted r.todo ≡ before c.in_ok-take_next.field-0 r1.todo = search rules in
    let took : r1 ≡ record r { todo = r1.todo } = search rules in
    let found : c.in_ok-take_next.field-0 ≡ Some
    (next.Turn c.in-Some-Turn.point c.in-Some-Turn.temp c.in-Some-Turn.this c.in-Some-Turn.last c.in-Some-Turn.body
    c.in-Some-Turn.cases) = search rules in
    let full : Err f ≡ checked (nat_lt r1.own.count budget) fault.Budget = search rules in
    let point_is : c.count-in-Some-Turn.new.self ≡ record r1 { own = record r1.own { point = c.in-Some-Turn.point } } = search rules in
    let gave : c.from_residual-in_err-count-in-Some-Turn.result ≡ Err (stop.Fault f) = search rules in
    turn_full r r1 c.args.store.now c.in_ok-take_next.field-0 settled took c.in-Some-Turn.point c.in-Some-Turn.temp
    c.in-Some-Turn.this c.in-Some-Turn.last c.in-Some-Turn.body c.in-Some-Turn.cases c.count-in-Some-Turn.new.self f
    c.from_residual-in_err-count-in-Some-Turn.result found full point_is gave

pub returns-in-None : goal.returns-in-None
returns-in-None c =
    let r : Running = c.args.self.now in
    let r1 : Running = c.take_next.new.self in
    let settled : next_counted r.todo ≡ before c.in_ok-take_next.field-0 r1.todo = search rules in
    let took : r1 ≡ record r { todo = r1.todo } = search rules in
    nothing_left r r1 c.args.store.now c.end.result c.in_ok-take_next.field-0 settled took c.in-None.is c.end.ensures

pub returns-in_ok-count-in-Some-Do : goal.returns-in_ok-count-in-Some-Do
returns-in_ok-count-in-Some-Do c =
    let r : Running = c.args.self.now in
    let r1 : Running = c.take_next.new.self in
    let settled : next_counted r.todo ≡ before c.in_ok-take_next.field-0 r1.todo = search rules in
    let took : r1 ≡ record r { todo = r1.todo } = search rules in
    let found : c.in_ok-take_next.field-0 ≡ Some (next.Do c.in-Some-Do.statement c.in-Some-Do.cases) = search rules in
    let room : Ok tt ≡ checked (nat_lt r1.own.count budget) fault.Budget = search rules in
    let counted_is : c.count.new.self ≡ record r1 { own = counted c.in-Some-Do.statement.now.point r1.own } = search rules in
    statement_done r r1 c.args.store.now c.in_ok-take_next.field-0 settled took c.in-Some-Do.statement
    c.in-Some-Do.cases c.count.new.self c.perform.new.self c.perform.new.store c.perform.result found room
    counted_is c.perform.ensures

pub returns-in_ok-count-in-Some-Start : goal.returns-in_ok-count-in-Some-Start
returns-in_ok-count-in-Some-Start c =
    let r : Running = c.args.self.now in
    let r1 : Running = c.take_next.new.self in
    let settled : next_counted r.todo ≡ before c.in_ok-take_next.field-0 r1.todo = search rules in
    let took : r1 ≡ record r { todo = r1.todo } = search rules in
    let found : c.in_ok-take_next.field-0 ≡ Some (next.Start c.in-Some-Start.statement) = search rules in
    let room : Ok tt ≡ checked (nat_lt r1.own.count budget) fault.Budget = search rules in
    let counted_is : c.count-in-Some-Start.new.self ≡ record r1 { own = counted c.in-Some-Start.statement.now.point r1.own } = search rules in
    start_done r r1 c.args.store.now c.in_ok-take_next.field-0 settled took c.in-Some-Start.statement
    c.count-in-Some-Start.new.self c.enter.new.self c.enter.result found room counted_is c.enter.ensures

pub returns-in_ok-count-in-Some-Turn : goal.returns-in_ok-count-in-Some-Turn
returns-in_ok-count-in-Some-Turn c =
    let r : Running = c.args.self.now in
    let r1 : Running = c.take_next.new.self in
    let settled : next_counted r.todo ≡ before c.in_ok-take_next.field-0 r1.todo = search rules in
    let took : r1 ≡ record r { todo = r1.todo } = search rules in
    let found : c.in_ok-take_next.field-0 ≡ Some
    (next.Turn c.in-Some-Turn.point c.in-Some-Turn.temp c.in-Some-Turn.this c.in-Some-Turn.last c.in-Some-Turn.body
    c.in-Some-Turn.cases) = search rules in
    let room : Ok tt ≡ checked (nat_lt r1.own.count budget) fault.Budget = search rules in
    let counted_is : c.count-in-Some-Turn.new.self ≡ record r1 { own = counted c.in-Some-Turn.point r1.own } = search rules in
    turn_done r r1 c.args.store.now c.in_ok-take_next.field-0 settled took c.in-Some-Turn.point c.in-Some-Turn.temp
    c.in-Some-Turn.this c.in-Some-Turn.last c.in-Some-Turn.body c.in-Some-Turn.cases c.count-in-Some-Turn.new.self
    c.take_turn.new.self c.take_turn.result found room counted_is c.take_turn.ensures
