use Rattle.std.proofs.Common.{◌≡◌, length, vec_len, arith}
use Rattle.std.proofs.lemmas.Grind.{common_steps}
use Rattle.run_books.proofs.Numbered.{popped}
use Rattle.run_books.proofs.event_bytes.read_byte.Goals as goal

pub returns-clause-items : goal.returns-clause-items
returns-clause-items c =
    let same : length c.args.bytes.now.items ≡ vec_len c.args.bytes.now = grind (arith, common_steps) in
    popped c.args.bytes.now.items c.pop.new.self.items c.pop.result (vec_len c.args.bytes.now) (vec_len c.pop.new.self)
    c.pop.ensures.items c.pop.ensures.cases same
