use Rattle.std.proofs.Common.{rules, ◌≡◌, ℕ, List, [], Ok, Err, refl}
use Rattle.job_types.specs.declared.fault.Fault.{Fault}
use Rattle.exchange_model.specs.declared.stmt.StmtKind.TheOpen as stmt
use Rattle.source_meaning.specs.Value.{values_of}
use Rattle.source_meaning.specs.Step.{does}
use Rattle.source_interpreter.specs.Reached.{reached}
use Rattle.source_interpreter.specs.Running.{Running, sight_of}
use Rattle.source_interpreter.specs.declared.stop.Stop.TheVariants as stop
use Rattle.source_interpreter.proofs.Follow.{answered}
use Rattle.source_interpreter.proofs.Sending.{send_stops, send_goes}
use Rattle.source_interpreter.proofs.run.Run.send.Goals as goal

pub returns-in_err-values : goal.returns-in_err-values
returns-in_err-values c =
    let r : Running = c.args.self.now in
    let s : List ℕ = c.args.store.now in
    let f : Fault = c.in_err-values.field-0.0 in
    let there : Ok c.in_ok-block.block ≡ reached r.exchange c.args.signal c.args.to (sight_of r s) = search rules in
    let values : Err f ≡ values_of c.args.values.now [] (sight_of r s) = search rules in
    let gave : c.from_residual-in_err-values.result ≡ Err (stop.Fault f) = search rules in
    answered (does r.exchange r.own.point (stmt.Send c.args.signal c.args.to c.args.values.now c.args.fresh) r.todo) r s
    c.from_residual-in_err-values.result (Err (stop.Fault f)) r s gave
    (send_stops r s c.args.signal c.args.to c.args.values.now c.args.fresh c.in_ok-block.block f (stop.Fault f) there values refl)

pub returns : goal.returns
returns c =
    let r : Running = c.args.self.now in
    let s : List ℕ = c.args.store.now in
    let there : Ok c.in_ok-block.block ≡ reached r.exchange c.args.signal c.args.to (sight_of r s) = search rules in
    let values : Ok c.in_ok-values.values ≡ values_of c.args.values.now [] (sight_of r s) = search rules in
    send_goes r s c.args.signal c.args.to c.args.values.now c.args.fresh c.in_ok-block.block c.in_ok-values.values
    c.send_to.result c.send_to.new.self there values c.send_to.ensures
