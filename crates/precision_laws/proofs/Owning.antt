-- No certificate lets more run together than the exchange's own.
use Rattle.std.proofs.Common.{◌≡◌, ℕ, ◌<◌, List, length, get_or, Some, slice_get, sym, subst, ◌∙◌}
use Rattle.std.proofs.lemmas.Option.{slice_get-get_or, slice_get_within}
use Rattle.job_types.specs.declared.job.JobStart.{JobStart}
use Rattle.exchange_model.specs.declared.exchange.Exchange.{Exchange}
use Rattle.entry_summary.specs.declared.summary.Summary.{Summary}
use Rattle.pair_tests.specs.declared.pair.Conflict.{Conflict}
use Rattle.pair_tests.specs.declared.pair.Test.{Test}
use Rattle.pair_tests.specs.declared.pair.Verdict.{Verdict}
use Rattle.pair_tests.specs.declared.pair.Verdict.TheVariants.{Never, Tests}
use Rattle.pair_tests.specs.Pairs.{IsConflict, IsTest, IsVerdict, Passes}
use Rattle.certificate_meaning.specs.Summaries.{AreSummaries}
use Rattle.certificate_meaning.specs.Verdicts.{Accepts}
use Rattle.certificate_text.specs.declared.certificate.Certificate.{Certificate}
use Rattle.checked.specs.Kept.{IsChecked, KeptSummaries}
use Rattle.interference_check.specs.Pairs.{OfPair}
use Rattle.precision_laws.specs.Summaries.{IsNeverBy, SaysNoMore}
use Rattle.precision_laws.proofs.Growing.{closed_say_more}
use Rattle.precision_laws.proofs.Pairing.{apart_less, conflict_more, never_by, passes_less}
use Rattle.precision_laws.proofs.Pairing.{test_more}

pub accepted_checked : (x : Exchange) (c : Certificate) (k : KeptSummaries) → Accepts x c k → IsChecked x k
accepted_checked x c k h = record { facts = c.facts; own = h.is.own; closed = h.is.closed; by_facts = h.by_facts }

-- where one of two lists of one length has an item, the other one has one
found : (ss ts : List Summary) (e : ℕ) (s : Summary) → length ss ≡ length ts → slice_get ss e ≡ Some s → slice_get ts e ≡ Some (get_or ts e s)
found ss ts e s same there = slice_get-get_or ts e s (subst (λ n. e < n) same (slice_get_within ss e s there))

module _ (x : Exchange) (k own : KeptSummaries) (by : IsChecked x k) (are : AreSummaries x own.summaries) where
  no_more : (e : ℕ) (less more : Summary) → slice_get own.summaries e ≡ Some less → slice_get k.summaries e ≡ Some more → SaysNoMore less more
  no_more e less more there here = closed_say_more x by.facts e less more by.closed (are.is e less there) (by.by_facts.is e more here)

  same_length : length k.summaries ≡ length own.summaries
  same_length = by.by_facts.each_entry ∙ sym are.each_entry

  -- what holds of two summaries holds of two that say no more, or that say more

  to_own : (Holds Less : Summary → Summary → Type 0)
      → ((m n less_m less_n : Summary) → SaysNoMore less_m m → SaysNoMore less_n n → Holds m n → Less less_m less_n)
      → (first later : ℕ) → OfPair k first later Holds → OfPair own first later Less
  to_own Holds Less keeps first later p =
      let m = found k.summaries own.summaries first p.one same_length p.of_first in
      let n = found k.summaries own.summaries later p.other same_length p.of_later in
      record {
        one = get_or own.summaries first p.one;
        other = get_or own.summaries later p.other;
        of_first = m;
        of_later = n;
        holds = keeps p.one p.other _ _ (no_more first _ p.one m p.of_first) (no_more later _ p.other n p.of_later) p.holds;
      }

  from_own : (Holds More : Summary → Summary → Type 0)
      → ((m n more_m more_n : Summary) → SaysNoMore m more_m → SaysNoMore n more_n → Holds m n → More more_m more_n)
      → (first later : ℕ) → OfPair own first later Holds → OfPair k first later More
  from_own Holds More keeps first later p =
      let m = found own.summaries k.summaries first p.one (sym same_length) p.of_first in
      let n = found own.summaries k.summaries later p.other (sym same_length) p.of_later in
      record {
        one = get_or k.summaries first p.one;
        other = get_or k.summaries later p.other;
        of_first = m;
        of_later = n;
        holds = keeps p.one p.other _ _ (no_more first p.one _ p.of_first m) (no_more later p.other _ p.of_later n) p.holds;
      }

  pub jobs_pass : (a b : JobStart) → OfPair k a.job.entry b.job.entry (λ m n. Passes m n a b) → OfPair own a.job.entry b.job.entry (λ m n. Passes m n a b)
  jobs_pass a b p = to_own (λ m n. Passes m n a b) (λ m n. Passes m n a b)
      (λ m n less_m less_n f l h. passes_less less_m less_n m n f l a b h) a.job.entry b.job.entry p

  pub pairs_pass : (first later : ℕ) → OfPair k first later (λ m n. IsVerdict m n Tests) → OfPair own first later (λ m n. IsVerdict m n Tests)
  pairs_pass first later p = to_own (λ m n. IsVerdict m n Tests) (λ m n. IsVerdict m n Tests)
      (λ m n less_m less_n f l h. apart_less less_m less_n m n f l h) first later p

  pub conflicts_stay : (first later : ℕ) (c : Conflict) → OfPair own first later (λ m n. IsConflict m n c) → OfPair k first later (λ m n. IsConflict m n c)
  conflicts_stay first later c p = from_own (λ m n. IsConflict m n c) (λ m n. IsConflict m n c)
      (λ m n more_m more_n f l h. conflict_more m n more_m more_n f l c h) first later p

  pub tests_stay : (first later : ℕ) (t : Test) → OfPair own first later (λ m n. IsTest m n t) → OfPair k first later (λ m n. IsTest m n t)
  tests_stay first later t p = from_own (λ m n. IsTest m n t) (λ m n. IsTest m n t)
      (λ m n more_m more_n f l h. test_more m n more_m more_n f l t h) first later p

  pub never_stays : (first later : ℕ) (c : Conflict) (v : Verdict)
      → OfPair own first later (λ m n. IsVerdict m n (Never c)) → OfPair k first later (λ m n. IsVerdict m n v)
      → IsNeverBy c v
  never_stays first later c v p q = never_by p.one p.other q.one q.other
      (no_more first p.one q.one p.of_first q.of_first) (no_more later p.other q.other p.of_later q.of_later) c v
      p.holds q.holds
