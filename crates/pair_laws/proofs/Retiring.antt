-- What the retirement of the first job leaves of the chains.
use Rattle.std.proofs.Common.{◌≡◌, inl, inr, ℕ, zero, suc, ◌+◌, true, false, [], refl, sym, ap, ◌∙◌}
use Rattle.std.proofs.Common.{subst}
use Rattle.std.proofs.lemmas.Bool.{false≢true}
use Rattle.job_types.specs.declared.job.JobStart.{JobStart}
use Rattle.job_types.specs.declared.outcome.JobDone.{JobDone}
use Rattle.job_types.specs.declared.outcome.Outcome.{Outcome}
use Rattle.job_types.specs.declared.outcome.Outcome.TheVariants.{Ended, Faulted}
use Rattle.job_types.specs.Chain.{holds}
use Rattle.job_types.specs.Forlopps.{ChainMap, chain_at, with_chain}
use Rattle.job_types.proofs.ChainMaps.{chain_same, chain_other}
use Rattle.exchange_model.specs.declared.exchange.Exchange.{Exchange}
use Rattle.source_meaning.specs.Retirement.{all_delivered, keeps_chain, retires, with_outcome}
use Rattle.source_meaning.specs.State.{State}
use Rattle.source_meaning.proofs.Delivering.{all_delivered_chains}
use Rattle.entry_summary.specs.declared.summary.Summary.{Summary}
use Rattle.pair_laws.specs.Pairs.{IsDoneBy, IsFaulted, LeavesChains}
use Rattle.pair_laws.proofs.Beside.{AreBeside, held_at_start, some_forlopp}
use Rattle.pair_laws.proofs.Staying.{bare_holds_none}

module _ (x : Exchange) (s : State) (first later : Summary) (a b : JobStart) (done : JobDone)
    (h : AreBeside x s first later a b) (d : IsDoneBy x first a s.chains done) where
  left_by : (f : ℕ) (o : Outcome) (t : State) → f ≡ a.job.forlopp → done.outcome ≡ o → t.chains ≡ s.chains
      → LeavesChains first a s.chains (with_outcome x f o (keeps_chain f done.chain t)).chains
  left_by zero Ended t is how same = record {
    others = λ n other. ap (λ (m : ChainMap). chain_at m n) same;
    own = λ file number held. absurd (bare_holds_none x s file number h.state
        (subst (λ chain. holds chain file number ≡ true)
        (ap (chain_at t.chains) (sym is) ∙ ap (λ (m : ChainMap). chain_at m 0) same) held));
    let_go = λ file number held gone. absurd ((held_at_start x s a file number h.first_fits held).0 (sym is));
  }
  left_by zero (Faulted f point) t is how same = absurd (some_forlopp x s first later a b h (d.fault (subst IsFaulted (sym how) tt)) (sym is))
  left_by (suc k) Ended t is how same =
      let own : chain_at (with_chain t.chains (suc k) done.chain) a.job.forlopp
      ≡ done.chain = ap (chain_at (with_chain t.chains (suc k) done.chain)) (sym is)
      ∙ chain_same t.chains (suc k) done.chain in
      record {
        others = λ n other. chain_other t.chains (suc k) n done.chain (λ e. other (e ∙ is)) ∙ ap (λ (m : ChainMap). chain_at m n) same;
        own = λ file number held. d.held file number (subst (λ chain. holds chain file number ≡ true) own held);
        let_go = λ file number held gone. inl (d.let_go file number held (subst (λ chain. holds chain file number ≡ false) own gone));
      }
  left_by (suc k) (Faulted f point) t is how same =
      let kept : ChainMap = with_chain t.chains (suc k) done.chain in
      let own : chain_at (with_chain kept (suc k) []) a.job.forlopp ≡ [] = ap (chain_at (with_chain kept (suc k) [])) (sym is) ∙ chain_same kept (suc k) [] in
      record {
        others = λ n other. chain_other kept (suc k) n [] (λ e. other (e ∙ is))
            ∙ chain_other t.chains (suc k) n done.chain (λ e. other (e ∙ is))
            ∙ ap (λ (m : ChainMap). chain_at m n) same;
        own = λ file number held. absurd (false≢true (subst (λ chain. holds chain file number ≡ true) own held));
        let_go = λ file number held gone. inr (d.fault (subst IsFaulted (sym how) tt));
      }

  pub chains_left : (t : State) → t.chains ≡ s.chains → LeavesChains first a s.chains (retires x a done t).chains
  chains_left t same =
      let counted : State = record t { ended = t.ended + 1 } in
      left_by a.job.forlopp done.outcome (all_delivered a.job.forlopp done.sends counted) refl refl
      (all_delivered_chains a.job.forlopp done.sends counted ∙ same)
