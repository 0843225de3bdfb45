-- One summary by given facts, and one list of them.
use Rattle.std.proofs.Common.{◌≡◌, ℕ, List, sym, ◌∙◌}
use Rattle.std.specs.Cmp.{IsTotalOrder}
use Rattle.std.proofs.lemmas.Cmp.{nat_cmp_total}
use Rattle.exchange_model.specs.declared.exchange.Exchange.{Exchange}
use Rattle.flow_points.specs.Facts.{Facts, IsLeast}
use Rattle.entry_summary.specs.declared.summary.Summary.{Summary}
use Rattle.entry_summary.specs.contracts.summary.AccessOrd.TheImpl.Laws as access_laws
use Rattle.entry_summary.specs.Orders.{access_order, level_number, level_order}
use Rattle.entry_summary.specs.Summaries.{IsSummary}
use Rattle.entry_summary.proofs.Equal.{same_summary}
use Rattle.certificate_meaning.specs.Summaries.{AreSummaries}
use Rattle.analysis_laws.proofs.Rising.{rising_once, same_at_each, same_sides, same_truth}

levels_total : IsTotalOrder level_order
levels_total = record {
  antisymm = λ l m. nat_cmp_total.antisymm (level_number l) (level_number m);
  trans = λ l m n. nat_cmp_total.trans (level_number l) (level_number m) (level_number n);
  congr = λ l m n. nat_cmp_total.congr (level_number l) (level_number m) (level_number n);
}

pub summary_once : (x : Exchange) (facts : Facts) (e : ℕ) (s t : Summary) → IsSummary x facts e s → IsSummary x facts e t → s ≡ t
summary_once x facts e s t one other =
    let level : s.level ≡ t.level = one.level ∙ sym other.level in
    let accesses : s.accesses ≡ t.accesses = rising_once access_order access_laws.total-law s.accesses t.accesses
    s.rising t.rising (λ a. same_sides (one.accesses a) (other.accesses a)) in
    let levels : s.levels ≡ t.levels = rising_once level_order levels_total s.levels t.levels s.levels_rising
    t.levels_rising (λ l. same_sides (one.levels l) (other.levels l)) in
    let fault : s.fault ≡ t.fault = same_truth s.fault t.fault (same_sides one.fault other.fault) in
    same_summary s t level accesses levels fault

pub all_summaries_once : (x : Exchange) (ss ts : List Summary) → AreSummaries x ss → AreSummaries x ts → ss ≡ ts
all_summaries_once x ss ts one other = same_at_each ss ts (one.each_entry ∙ sym other.each_entry)
    (λ e s t here there. summary_once x (IsLeast x) e s t (one.is e s here) (other.is e t there))
