-- What the least facts of entries are found with.
use Rattle.std.specs.Prelude.{◌≡◌, ◌↔◌, ℕ}
use Rattle.exchange_model.specs.declared.exchange.Exchange.{Exchange}
use Rattle.flow_table.specs.declared.row.FlowTable.{FlowTable}
use Rattle.flow_points.specs.declared.fact.Fact.{Fact}
use Rattle.flow_points.specs.Facts.{IsLeast}
use Rattle.fact_rows.specs.Known.{BitRows, Knows, slots_of}
use Rattle.least_facts.specs.declared.analyser.Analyser.{Analyser}
use Rattle.answer_table.specs.Answers.{AreAnswers}

-- it is made for the exchange and its table
pub record IsFor (x : Exchange) (t : FlowTable) (a : Analyser) : Type 0 where
  pub answers : AreAnswers x a.answers
  pub slots : a.rows.marks.slots ≡ slots_of t

-- exactly the least facts of the entry are known
pub record KnowLeast (x : Exchange) (e : ℕ) (k : BitRows) : Type 0 where
  pub exact : (f : Fact) → Knows k f ↔ ((f.entry ≡ e) × IsLeast x f)

-- it has learned those of the entry
pub record HasLearned (x : Exchange) (e : ℕ) (a : Analyser) : Type 0 where
  pub rows : KnowLeast x e a.rows
