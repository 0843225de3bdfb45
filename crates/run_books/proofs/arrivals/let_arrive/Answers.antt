use Rattle.std.proofs.Common.{◌≡◌, true, false, rules}
use Rattle.std.proofs.lemmas.Grind.{common_steps}
use Rattle.run_books.specs.Accounts.{after_arrival, is_next_due}
use Rattle.run_books.proofs.Arriving.{arriving_end, arriving_more}
use Rattle.run_books.proofs.arrivals.let_arrive.Goals as goal

pub returns-then-not-branch : goal.returns-then-not-branch
returns-then-not-branch c =
    let none : is_next_due c.lines.books.state.lines c.lines.books.state ≡ false = search (rules, common_steps) in
    let is : c.arrive.new.self ≡ after_arrival c.args.exchange.now c.lines.books = search (rules, common_steps) in
    arriving_end c.args.exchange.now c.args.books.now c.lines.books c.arrive.new.self none is c.lines.invariant.arriving

pub lines-preserved : goal.lines-preserved
lines-preserved c =
    let due : is_next_due c.lines.books.state.lines c.lines.books.state ≡ true = search (rules, common_steps) in
    let is : c.arrive.new.self ≡ after_arrival c.args.exchange.now c.lines.books = search (rules, common_steps) in
    record { arriving = arriving_more c.args.exchange.now c.args.books.now c.lines.books c.arrive.new.self due is c.lines.invariant.arriving }
