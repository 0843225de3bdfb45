use Rattle.std.proofs.Common.{◌<◌, ◌^◌, length, reverse, ap, arith}
use Rattle.std.proofs.lemmas.Grind.{common_steps}
use Rattle.std.proofs.lemmas.List.{length-reverse}
use Rattle.run_books.proofs.Told.{told_few}
use Rattle.run_books.proofs.event_log.EventQueue.are_few.Goals as goal

pub returns : goal.returns
returns c =
    let bytes = c.self.inside.last_first.items in
    let few : length bytes < 2 ^ 63 = grind (arith, common_steps) in
    omega (arith, told_few (reverse bytes) c.self.invariant, length-reverse bytes, ap length c.self.view_is, few)
