-- The text of an analysis: what the jobs of each entry may do, which pairs of entries never run at
-- once, and on which tests others do.
use Rattle.std.specs.Prelude.{◌≡◌, ℕ, List, ◌++◌, codes}
use Rattle.exchange_model.specs.declared.exchange.Exchange.{Exchange}
use Rattle.entry_summary.specs.declared.summary.Summary.{Summary}
use Rattle.analysis_text.specs.Lines.{entries_text, written}
use Rattle.analysis_text.specs.Names.{names_of}
use Rattle.analysis_text.specs.Pairs.{ArePairs}

pub record IsAnalysis (x : Exchange) (summaries : List Summary) (text : List ℕ) : Type 0 where
  pub pairs : List ℕ
  pub tells : ArePairs (names_of x.blocks) summaries pairs
  pub is : text ≡ entries_text x (names_of x.blocks) summaries ++ pairs
      ++ written (codes "END PAIRS")
