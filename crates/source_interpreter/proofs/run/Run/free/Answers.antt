use Rattle.std.proofs.Common.{rules, ◌≡◌, Some, Ok, slice_get}
use Rattle.source_meaning.specs.Value.{pointer_fault}
use Rattle.source_interpreter.specs.Checks.{unless}
use Rattle.source_meaning.specs.Config.{files_of}
use Rattle.source_interpreter.proofs.Searching.{free_goes}
use Rattle.source_interpreter.proofs.run.Run.free.Goals as goal

pub returns : goal.returns
returns c =
    let r = c.args.self.now in
    let there : Some c.in-Some.place ≡ slice_get (files_of r.exchange) c.args.file = search rules in
    let right : Ok tt ≡ unless (pointer_fault r.own.chain c.args.file c.in-Some.place c.temp-number.result) = search rules in
    free_goes r c.let_go.new.self c.args.store.now c.open.new.store c.args.temp c.args.file c.temp-number.result
    c.in-Some.place there c.temp-number.ensures right c.open.ensures c.let_go.ensures
