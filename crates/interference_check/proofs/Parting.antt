-- The permits of two jobs that run together are apart.
use Rattle.std.proofs.Common.{◌≡◌, ⊎_elim, ℕ, true, false}
use Rattle.std.proofs.lemmas.Bool.{cases_Bool}
use Rattle.job_types.specs.declared.job.JobStart.{JobStart}
use Rattle.machine_code.specs.declared.permit.Permit.{Permit}
use Rattle.machine_code.specs.Permits.{Apart, may_read, may_write}
use Rattle.exchange_model.specs.declared.exchange.Exchange.{Exchange}
use Rattle.source_meaning.specs.State.{State}
use Rattle.entry_summary.specs.declared.summary.Summary.{Summary}
use Rattle.pair_laws.specs.Together.{HaveOwnWords}
use Rattle.interference_check.specs.Permits.{IsPermitOf}

module _ (x : Exchange) (s : State) (first later : Summary) (a b : JobStart) (p q : Permit)
    (own : HaveOwnWords x s first later a b) (of_first : IsPermitOf x first a s.chains p)
    (of_later : IsPermitOf x later b s.chains q) where
  not_read_later : (w : ℕ) → may_write p w ≡ true → may_read q w ≡ false
  not_read_later w writes = ⊎_elim (λ reads. absurd
      (own.first_writes w ((of_first.writes w).0 writes) ((of_later.reads w).0 reads))) (λ none. none)
      (cases_Bool (may_read q w))

  not_read_first : (w : ℕ) → may_write q w ≡ true → may_read p w ≡ false
  not_read_first w writes = ⊎_elim (λ reads. absurd
      (own.later_writes w ((of_first.reads w).0 reads) ((of_later.writes w).0 writes))) (λ none. none)
      (cases_Bool (may_read p w))

  pub permits_apart : Apart p q
  permits_apart w = (not_read_later w, not_read_first w)
