-- What is kept of a certificate.
use Rattle.std.proofs.Common.{◌≡◌, List, Contains, sym, ◌∙◌}
use Rattle.exchange_model.specs.declared.exchange.Exchange.{Exchange}
use Rattle.flow_points.specs.declared.fact.Fact.{Fact}
use Rattle.entry_summary.specs.declared.summary.Summary.{Summary}
use Rattle.certificate_text.specs.declared.certificate.Certificate.{Certificate}
use Rattle.checked.specs.Kept.{AreSummariesBy, KeptSummaries}
use Rattle.certificate_meaning.specs.Verdicts.{Accepts}
use Rattle.analysis_laws.proofs.Rising.{same_at_each}
use Rattle.analysis_laws.proofs.Summing.{summary_once}

same_summaries : (x : Exchange) (facts : List Fact) (ss ts : List Summary) → AreSummariesBy x (Contains facts) ss
    → AreSummariesBy x (Contains facts) ts → ss ≡ ts
same_summaries x facts ss ts one other = same_at_each ss ts (one.each_entry ∙ sym other.each_entry)
    (λ e s t here there. summary_once x (Contains facts) e s t (one.is e s here) (other.is e t there))

pub kept_once : (x : Exchange) (c : Certificate) (k l : KeptSummaries) → Accepts x c k → Accepts x c l → k ≡ l
kept_once x c k l one other = λ i. record { summaries = same_summaries x c.facts k.summaries l.summaries one.by_facts other.by_facts i }
