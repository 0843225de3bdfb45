-- What is computed once per exchange.
use Rattle.std.specs.Prelude.{List, map}
use Rattle.exchange_model.specs.declared.exchange.Exchange.{Exchange}
use Rattle.flow_table.specs.declared.place.PlaceAt.{PlaceAt}
use Rattle.flow_table.specs.declared.row.FlowTable.{FlowTable}
use Rattle.flow_table.specs.Rows.{IsFlowTable}
use Rattle.flow_table.specs.Texts.{ArePlaces, seen}
use Rattle.entry_summary.specs.declared.summary.Summary.{Summary}
use Rattle.entry_accesses.specs.declared.numbers.CellNumbers.{CellNumbers}
use Rattle.entry_accesses.specs.Numbered.{AreNumbers}
use Rattle.certificate_meaning.specs.Summaries.{AreSummaries}

-- all of these are those of the exchange
pub record AreOf (x : Exchange) (table : FlowTable) (places : List PlaceAt) (numbers : CellNumbers)
    (summaries : List Summary) : Type 0 where
  pub rows : IsFlowTable x table
  pub places_are : ArePlaces x (map seen places)
  pub numbers_are : AreNumbers x numbers
  pub summaries_are : AreSummaries x summaries
