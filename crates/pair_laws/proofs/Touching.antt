-- Lists of touches: what is permitted leaves alone what the other job may touch, and stores of two
-- lists change places.
use Rattle.std.proofs.Common.{◌≡◌, inl, inr, ℕ, List, [], ◌∷◌, ◌++◌, set, refl, sym, ap, ◌∙◌, subst}
use Rattle.std.proofs.lemmas.List.{set_comm}
use Rattle.job_types.specs.declared.job.JobStart.{JobStart}
use Rattle.job_types.specs.declared.touch.Touch.{Touch}
use Rattle.job_types.specs.declared.touch.Touch.TheVariants.{Load, Store}
use Rattle.job_types.specs.Forlopps.{ChainMap}
use Rattle.job_types.specs.Touches.{NoStore, stored}
use Rattle.exchange_model.specs.declared.exchange.Exchange.{Exchange}
use Rattle.source_meaning.specs.State.{State}
use Rattle.source_meaning.specs.Traces.{IsTouched, LeavesAlone}
use Rattle.entry_summary.specs.declared.summary.Summary.{Summary}
use Rattle.start_permit.specs.Granted.{MayRead, MayWrite}
use Rattle.permit_laws.specs.Permitted.{ArePermitted}
use Rattle.pair_laws.proofs.Beside.{AreBeside, reads_apart, writes_apart}

module _ (x : Exchange) (m : Summary) (start : JobStart) (chains : ChainMap) where
  -- a word that is touched may be read
  pub touched_read : (ts : List Touch) (w : ℕ) → ArePermitted x m start chains ts → IsTouched ts w → MayRead x m start chains w
  touched_read [] w all at = absurd at
  touched_read (Load u v ∷ ts) w all (inl is) = subst (MayRead x m start chains) is all.0
  touched_read (Store u v ∷ ts) w all (inl is) = inr (subst (MayWrite x m start chains) is all.0)
  touched_read (t ∷ ts) w all (inr at) = touched_read ts w all.1 at

  -- nothing is stored to a word that may not be written
  pub not_stored : (ts : List Touch) (w : ℕ) → ArePermitted x m start chains ts → (MayWrite x m start chains w → ⊥) → NoStore w ts
  not_stored [] w all none = tt
  not_stored (Load u v ∷ ts) w all none = not_stored ts w all.1 none
  not_stored (Store u v ∷ ts) w all none = (λ is. none (subst (MayWrite x m start chains) (sym is) all.0), not_stored ts w all.1 none)

module _ (x : Exchange) (s : State) (first later : Summary) (a b : JobStart) (h : AreBeside x s first later a b) where
  pub first_alone : (ts us : List Touch) → ArePermitted x first a s.chains ts → ArePermitted x later b s.chains us → LeavesAlone ts us
  first_alone ts us p q w at = not_stored x first a s.chains ts w p
      (λ writes. writes_apart x s first later a b h w writes (touched_read x later b s.chains us w q at))

  pub later_alone : (ts us : List Touch) → ArePermitted x first a s.chains ts → ArePermitted x later b s.chains us → LeavesAlone us ts
  later_alone ts us p q w at = not_stored x later b s.chains us w q
      (λ writes. reads_apart x s first later a b h w (touched_read x first a s.chains ts w p at) writes)

-- two lists, one after the other
pub no_store_append : (w : ℕ) (ts us : List Touch) → NoStore w ts → NoStore w us → NoStore w (ts ++ us)
no_store_append w [] us p q = q
no_store_append w (Load u v ∷ ts) us p q = no_store_append w ts us p q
no_store_append w (Store u v ∷ ts) us p q = (p.0, no_store_append w ts us p.1 q)

-- a store changes places with a list that does not store to its word
store_past : (u v : ℕ) (us : List Touch) (store : List ℕ) → NoStore u us → stored (set store u v) us ≡ set (stored store us) u v
store_past u v [] store none = refl
store_past u v (Load w z ∷ us) store none = store_past u v us store none
store_past u v (Store w z ∷ us) store none = ap (λ l. stored l us) (set_comm store u w v z none.0) ∙ store_past u v us (set store w z) none.1

-- and so do the stores of a list
pub lists_past : (ts us : List Touch) (store : List ℕ) → LeavesAlone us ts → stored (stored store ts) us ≡ stored (stored store us) ts
lists_past [] us store alone = refl
lists_past (Load u v ∷ ts) us store alone = lists_past ts us store (λ w at. alone w (inr at))
lists_past (Store u v ∷ ts) us store alone =
    lists_past ts us (set store u v) (λ w at. alone w (inr at)) ∙ ap (λ l. stored l ts) (store_past u v us store (alone u (inl refl)))
