-- The permit of a trace permits all touches of the trace, and no others.
use Rattle.std.proofs.Common.{◌≡◌, ℕ, true, List, [], ◌∷◌, subst, inr, ⊎_elim}
use Rattle.std.proofs.lemmas.Bool.{or_cases, or_left, or_right, false≢true}
use Rattle.std.specs.List.{list_any}
use Rattle.job_types.specs.declared.job.JobStart.{JobStart}
use Rattle.job_types.specs.declared.touch.Touch.{Touch}
use Rattle.job_types.specs.declared.touch.Touch.TheVariants.{Load, Store}
use Rattle.job_types.specs.Forlopps.{ChainMap}
use Rattle.machine_code.specs.declared.permit.Permit.{Permit}
use Rattle.machine_code.specs.Permits.{may_read, may_write, spans}
use Rattle.exchange_model.specs.declared.exchange.Exchange.{Exchange}
use Rattle.entry_summary.specs.declared.summary.Summary.{Summary}
use Rattle.start_permit.specs.Granted.{MayRead, MayWrite}
use Rattle.permit_laws.specs.Permitted.{ArePermitted}
use Rattle.shared_store.specs.OneWord.{one_word}
use Rattle.shared_store.proofs.OneWord.{one_word_in, one_word_out}
use Rattle.job_runner.specs.Runs.{KeepsPermit}
use Rattle.parallel_dispatch.specs.Bare.{bare, loads_of, stores_of}

module _ (x : Exchange) (m : Summary) (start : JobStart) (chains : ChainMap) where
  stored : (ts : List Touch) → ArePermitted x m start chains ts → (w : ℕ) → list_any (λ s. spans s w) (stores_of ts) ≡ true → MayWrite x m start chains w
  stored [] all w e = absurd (false≢true e)
  stored (Load u v ∷ ts) all w e = stored ts all.1 w e
  stored (Store u v ∷ ts) all w e = ⊎_elim
      (λ (h : spans (one_word u) w ≡ true). subst (MayWrite x m start chains) (one_word_out u w h) all.0)
      (λ (h : list_any (λ s. spans s w) (stores_of ts) ≡ true). stored ts all.1 w h)
      (or_cases (spans (one_word u) w) _ e)

  loaded : (ts : List Touch) → ArePermitted x m start chains ts → (w : ℕ) → list_any (λ s. spans s w) (loads_of ts) ≡ true → MayRead x m start chains w
  loaded [] all w e = absurd (false≢true e)
  loaded (Store u v ∷ ts) all w e = loaded ts all.1 w e
  loaded (Load u v ∷ ts) all w e = ⊎_elim
      (λ (h : spans (one_word u) w ≡ true). subst (MayRead x m start chains) (one_word_out u w h) all.0)
      (λ (h : list_any (λ s. spans s w) (loads_of ts) ≡ true). loaded ts all.1 w h)
      (or_cases (spans (one_word u) w) _ e)

  pub bare_writes : (ts : List Touch) → ArePermitted x m start chains ts → (w : ℕ) → may_write (bare ts) w ≡ true → MayWrite x m start chains w
  bare_writes ts all w e = stored ts all w e

  pub bare_reads : (ts : List Touch) → ArePermitted x m start chains ts → (w : ℕ) → may_read (bare ts) w ≡ true → MayRead x m start chains w
  bare_reads ts all w e = ⊎_elim (λ h. loaded ts all w h) (λ h. inr (stored ts all w h))
      (or_cases (list_any (λ s. spans s w) (loads_of ts)) (may_write (bare ts) w) e)

keeps_of : (p : Permit) (ts : List Touch) → ((w : ℕ) → list_any (λ s. spans s w) (loads_of ts) ≡ true
    → may_read p w ≡ true) → ((w : ℕ) → list_any (λ s. spans s w) (stores_of ts) ≡ true → may_write p w ≡ true)
    → KeepsPermit p ts
keeps_of p [] reads writes = tt
keeps_of p (Load w v ∷ ts) reads writes = (
  reads w (or_left (spans (one_word w) w) _ (one_word_in w)),
  keeps_of p ts
      (λ u e. reads u (or_right (spans (one_word w) u) _ e)) writes,
)
keeps_of p (Store w v ∷ ts) reads writes = (
  writes w (or_left (spans (one_word w) w) _ (one_word_in w)),
  keeps_of p ts
      reads (λ u e. writes u (or_right (spans (one_word w) u) _ e)),
)

pub keeps_bare : (ts : List Touch) → KeepsPermit (bare ts) ts
keeps_bare ts = keeps_of (bare ts) ts (λ w e. or_left _ (may_write (bare ts) w) e) (λ w e. e)
