use Rattle.std.proofs.Common.{◌≡◌, None, rules}
use Rattle.std.proofs.lemmas.Grind.{common_steps}
use Rattle.exchange_model.specs.Index.{noted}
use Rattle.exchange_model.proofs.Noting.{noted_comes}
use Rattle.exchange_model.proofs.index.Noted.note.Goals as goal

pub returns-in-Ok : goal.returns-in-Ok
returns-in-Ok c =
    let none : noted c.args.self.now c.args.block c.args.signal ≡ None = search (rules, common_steps) in
    noted_comes c.args.self.now (record { numbers = c.insert.new.self }) c.args.block c.args.signal c.args.number none c.in-Ok.ensures.updates
