use Rattle.std.proofs.Common.{rules, ◌≡◌, ℕ, List, [], Ok, Err, refl, ap, sym, ◌∙◌}
use Rattle.job_types.specs.declared.fault.Fault.{Fault}
use Rattle.exchange_model.specs.declared.stmt.StmtKind.TheOpen as stmt
use Rattle.source_meaning.specs.Value.{values_of}
use Rattle.source_meaning.specs.Config.{Caller}
use Rattle.job_types.specs.Own.{eight}
use Rattle.source_meaning.specs.Step.{does}
use Rattle.source_interpreter.specs.Running.{Running, sight_of}
use Rattle.source_interpreter.specs.declared.stop.Stop.TheVariants as stop
use Rattle.source_interpreter.proofs.Follow.{answered}
use Rattle.source_interpreter.proofs.Sending.{return_goes, return_alone, return_other, return_stops}
use Rattle.source_interpreter.proofs.run.Run.answer.Goals as goal

pub returns-in_err-values : goal.returns-in_err-values
returns-in_err-values c =
    let r : Running = c.args.self.now in
    let s : List ℕ = c.args.store.now in
    let f : Fault = c.in_err-values.field-0.0 in
    let values : Err f ≡ values_of c.args.values.now [] (sight_of r s) = search rules in
    let gave : c.from_residual.result ≡ Err (stop.Fault f) = search rules in
    answered (does r.exchange r.own.point (stmt.Return c.args.answer c.args.values.now) r.todo) r s c.from_residual.result (Err (stop.Fault f)) r s gave
    (return_stops r s c.args.answer c.args.values.now f (stop.Fault f) values refl)

pub returns-in_default : goal.returns-in_default
returns-in_default c =
    let r : Running = c.args.self.now in
    let r1 : Running = c.take_caller.new.self in
    let s : List ℕ = c.args.store.now in
    let vs : List ℕ = c.in_ok-values.values in
    let values : Ok vs ≡ values_of c.args.values.now [] (sight_of r s) = search rules in
    let none : r.callers ≡ [] = search rules in
    return_alone r r1 s c.args.answer c.args.values.now vs values r1.callers none c.take_caller.ensures.others

pub returns-then-frame-answer : goal.returns-then-frame-answer
returns-then-frame-answer c =
    let r : Running = c.args.self.now in
    let r1 : Running = c.take_caller.new.self in
    let s : List ℕ = c.args.store.now in
    let vs : List ℕ = c.in_ok-values.values in
    let k : Caller = c.in-Some.frame in
    let values : Ok vs ≡ values_of c.args.values.now [] (sight_of r s) = search rules in
    let awaits : c.frame.inside.awaits ≡ k.awaits = ap (λ (f : Caller). f.awaits) c.frame.view_is in
    return_other r r1 s c.args.answer c.args.values.now vs values c.take_caller.result k r1.callers c.in-Some.is
    c.take_caller.ensures.caller c.take_caller.ensures.others (λ e. c.if-frame-answer.true (awaits ∙ e))

pub returns : goal.returns
returns c =
    let r : Running = c.args.self.now in
    let r1 : Running = c.take_caller.new.self in
    let s : List ℕ = c.args.store.now in
    let vs : List ℕ = c.in_ok-values.values in
    let k : Caller = c.in-Some.frame in
    let values : Ok vs ≡ values_of c.args.values.now [] (sight_of r s) = search rules in
    let awaits : c.frame.inside.awaits ≡ k.awaits = ap (λ (f : Caller). f.awaits) c.frame.view_is in
    let resumed : c.resume.new.self ≡ record r1 {
      block = k.block;
      todo = k.todo;
      temps = k.temps;
      own = record r1.own { given = k.given; answers = eight vs };
    } = search rules in
    return_goes r r1 s c.args.answer c.args.values.now vs values c.resume.new.self c.take_caller.result k r1.callers
    c.in-Some.is c.take_caller.ensures.caller c.take_caller.ensures.others (sym awaits ∙ c.if-frame-answer.false)
    resumed
