-- What of the parts of books is carried over, and how.
use Rattle.std.specs.Prelude.{◌≡◌, [], map}
use Rattle.exchange_model.specs.declared.exchange.Exchange.{Exchange}
use Rattle.run_books.specs.declared.parts.BookParts.{BookParts}
use Rattle.block_change.specs.Carried.{carried_chains, carried_waiting, new_entries}
use Rattle.block_change.specs.Renamed.{line_with}

-- these parts are those, carried over
pub record AreMoved (x y : Exchange) (p q : BookParts) : Type 0 where
  pub waiting : q.buffers.waiting ≡ carried_waiting x y p.buffers.waiting
  pub chains : q.chains.chains ≡ carried_chains x y p.chains.chains
  pub dead : q.chains.dead ≡ p.chains.dead
  pub lines : q.lines ≡ map (line_with (new_entries x y)) p.lines
  pub next_line : q.next_line ≡ p.next_line
  pub given : q.given ≡ p.given
  pub numbers : q.numbers ≡ p.numbers
  pub next : q.next_forlopp ≡ p.next_forlopp
  pub ended : q.ended ≡ p.ended
  pub restarts : q.restarts ≡ p.restarts
  pub limit : q.limit ≡ p.limit
  pub events : q.events.events ≡ []
