use Rattle.std.proofs.Common.{◌≡◌, None, rules}
use Rattle.std.proofs.lemmas.Grind.{common_steps}
use Rattle.job_table.specs.Places.{noted}
use Rattle.job_table.proofs.Noting.{noted_comes}
use Rattle.job_table.proofs.places.Places.note.Goals as goal

pub returns-in-Ok : goal.returns-in-Ok
returns-in-Ok c =
    let none : noted c.args.self.now c.args.old ≡ None = search (rules, common_steps) in
    noted_comes c.args.self.now (record { numbers = c.insert.new.self }) c.args.old c.args.number none c.in-Ok.ensures.updates
