-- The parts of an analysis, joined.
use Rattle.std.proofs.Common.{◌≡◌, ℕ, List, [], ◌++◌, codes, ap, ◌∙◌, subst}
use Rattle.std.specs.List.{concat}
use Rattle.exchange_model.specs.declared.exchange.Exchange.{Exchange}
use Rattle.entry_summary.specs.declared.summary.Summary.{Summary}
use Rattle.analysis_text.specs.declared.names.Names.{Names}
use Rattle.analysis_text.specs.Analysis.{IsAnalysis}
use Rattle.analysis_text.specs.Lines.{entries_text, written}
use Rattle.analysis_text.specs.Names.{names_of}
use Rattle.analysis_text.specs.Pairs.{ArePairs, GainsText}

joined : (x : Exchange) (summaries : List Summary) (empty entries pairs all : List ℕ) → empty ≡ []
    → entries ≡ empty ++ entries_text x (names_of x.blocks) summaries
    → GainsText (ArePairs (names_of x.blocks) summaries) entries pairs → all ≡ pairs ++ written (codes "END PAIRS") → IsAnalysis x summaries all
joined x summaries empty entries pairs all none first grown last =
    let told = entries_text x (names_of x.blocks) summaries in
    let begun : entries ≡ told = first ∙ ap (λ t. t ++ told) none in
    record {
      pairs = grown.added;
      tells = grown.tells;
      is = last ∙ ap (λ t. t ++ written (codes "END PAIRS")) (grown.is ∙ ap (λ t. t ++ grown.added) begun);
    }

-- the texts after each part
pub whole : (x : Exchange) (summaries : List Summary) (names : Names) (empty entries : List (List ℕ))
    (front pairs all : List ℕ) → names ≡ names_of x.blocks → empty ≡ []
    → concat entries ≡ concat empty ++ entries_text x names summaries → front ≡ concat entries → GainsText (ArePairs names summaries) front pairs
    → all ≡ pairs ++ written (codes "END PAIRS") → IsAnalysis x summaries all
whole x summaries names empty entries front pairs all named none first same grown last =
    joined x summaries (concat empty) front pairs all (ap concat none)
    (same ∙ subst (λ n. concat entries ≡ concat empty ++ entries_text x n summaries) named first)
    (subst (λ n. GainsText (ArePairs n summaries) front pairs) named grown) last
