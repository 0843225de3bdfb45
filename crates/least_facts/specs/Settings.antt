-- What a search looks things up in, and how far it is there.
use Rattle.std.specs.Prelude.{ℕ}
use Rattle.flow_points.specs.declared.fact.Fact.{Fact}
use Rattle.flow_points.specs.declared.flow.Passing.{Passing}
use Rattle.flow_table.specs.Rows.{IsFlowTable}
use Rattle.least_facts.specs.declared.setting.Setting.{Setting}
use Rattle.answer_table.specs.Answers.{AreAnswers}
use Rattle.least_facts.specs.Giving.{IsGood}
use Rattle.least_facts.specs.Growing.{IsLeastSoFar, Search, Went}

-- the table and the answers are those of the exchange
pub record IsSetting (s : Setting) : Type 0 where
  pub table : IsFlowTable s.exchange.now s.table.now
  pub answers : AreAnswers s.exchange.now s.answers.now

-- all that is known there is least
abbrev pub StandsIn : Setting → Search → Type 0
StandsIn s at = IsLeastSoFar s.exchange.now s.table.now s.entry at

-- the search went on there, so that all these facts are known
abbrev pub WentIn : Setting → (Fact → Type 0) → Search → Search → Type 0
WentIn s G at new = Went s.exchange.now s.table.now s.answers.now s.entry G at new

-- what goes along so in a job of the entry is least, and has numbers
abbrev pub IsGoodIn : Setting → ℕ → Passing → ℕ → Type 0
IsGoodIn s p how q = IsGood s.exchange.now s.entry p how q
