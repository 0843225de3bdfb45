-- That the statements of an exchange are known, so that it can be told which facts it has.
use Rattle.std.specs.Prelude.{List}
use Rattle.exchange_model.specs.declared.exchange.Exchange.{Exchange}
use Rattle.flow_points.specs.Places.{Place}
use Rattle.flow_table.specs.Texts.{ArePlaces}

-- all statements of the exchange are known
pub record AreListed (x : Exchange) : Type 0 where
  pub places : List Place
  pub all : ArePlaces x places
