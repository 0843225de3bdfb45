-- Which records a job comes to hold, and which marks it may find open: a record that is free, or
-- that the job may have freed.
use Rattle.std.proofs.Common.{◌≡◌, ◌⊎◌, inl, inr, ⊎_elim, ℕ, true, false, List, [], ◌∷◌, ◌++◌}
use Rattle.std.proofs.Common.{length, sym, ◌∙◌, subst, arith}
use Rattle.std.specs.List.{Contains}
use Rattle.std.specs.Prelude.{slice_index, slice_set}
use Rattle.std.proofs.lemmas.Bool.{cases_Bool}
use Rattle.job_types.specs.declared.chain.Held.{Held}
use Rattle.job_types.specs.declared.job.JobStart.{JobStart}
use Rattle.job_types.specs.Chain.{holds, without}
use Rattle.job_types.specs.Forlopps.{ChainMap, chain_at}
use Rattle.job_types.specs.Own.{World}
use Rattle.exchange_model.specs.declared.exchange.Exchange.{Exchange}
use Rattle.exchange_model.specs.Cells.{Placed, mark_cell}
use Rattle.exchange_model.specs.Kept.{IsExchange}
use Rattle.source_meaning.specs.Changes.{opens_record}
use Rattle.source_meaning.specs.State.{State}
use Rattle.source_meaning.specs.Valid.{MarksFit}
use Rattle.source_meaning.proofs.Chains.{record_is, holds_more, holds_before}
use Rattle.source_meaning.proofs.Marks.{HasMark, mark_put, opened_other}
use Rattle.entry_summary.specs.declared.summary.Access.TheVariants.{Seizes, Frees}
use Rattle.entry_summary.specs.declared.summary.Summary.{Summary}
use Rattle.start_permit.specs.Granted.{IsFree, MayHold}
use Rattle.permit_laws.specs.Permitted.{MayHoldAll}

module _ (m : Summary) (start : JobStart) (chains : ChainMap) where
  abbrev pub MayHave : ℕ → ℕ → Type 0
  MayHave file number = MayHold m.accesses start.chain chains file number

  -- a record that was free when the job began, or one of its own that it may have freed
  abbrev pub MayBeOpen : ℕ → ℕ → Type 0
  MayBeOpen file number = IsFree chains file number ⊎ (Contains m.accesses (Frees file) × MayHave file number)

-- the chain has records that the job may hold, and a mark is 0 where the record may be open
pub record HoldsOwn (x : Exchange) (m : Summary) (start : JobStart) (chains : ChainMap) (chain : List Held) (store : List ℕ) : Type 0 where
  pub held : MayHoldAll m start chains chain
  pub opened : (file number : ℕ) (p : Placed) → HasMark x file number p → slice_index store (mark_cell p number) ≡ 0 → MayBeOpen m start chains file number

-- a mark that is 0 when the job begins is that of a free record
pub holds_first : (x : Exchange) (m : Summary) (start : JobStart) (s : State) → MarksFit x s → HoldsOwn x m start s.chains start.chain s.store
holds_first x m start s marks = record {
  held = λ file number h. inl h;
  opened = λ file number p has none. inl (λ n. out n file number p has none (cases_Bool (holds (chain_at s.chains n) file number)));
}
  where
    out : (n file number : ℕ) (p : Placed) → HasMark x file number p → slice_index s.store (mark_cell p number) ≡ 0
        → (holds (chain_at s.chains n) file number ≡ true) ⊎ (holds (chain_at s.chains n) file number ≡ false) → holds (chain_at s.chains n) file number ≡ false
    out n file number p has none (inl h) = let one = marks.held n (record { file = file; number = number }) p has.at.there h in absurd (omega arith)
    out n file number p has none (inr h) = h

module _ (x : Exchange) (kept : IsExchange x) (m : Summary) (start : JobStart) (chains : ChainMap) (chain : List Held) where
  abbrev pub Holds : List Held → List ℕ → Type 0
  Holds held words = HoldsOwn x m start chains held words

  -- words other than marks change
  pub holds_on : (store words : List ℕ) → ((file number : ℕ) (p : Placed) → HasMark x file number p
      → slice_index words (mark_cell p number) ≡ slice_index store (mark_cell p number)) → Holds chain store
      → Holds chain words
  holds_on store words same h = record { held = h.held; opened = λ file number p has none. h.opened file number p has (sym (same file number p has) ∙ none) }

  module _ (f n : ℕ) (put : Placed) (has : HasMark x f n put) where
    -- a record of mark 0 joins the chain
    pub holds_seized : (store : List ℕ) → length store ≡ x.cells → Contains m.accesses (Seizes f) → slice_index store (mark_cell put n) ≡ 0 → Holds chain store
        → Holds (chain ++ record { file = f; number = n } ∷ []) (slice_set store (mark_cell put n) 1)
    holds_seized store whole seizes none h = record {
      held = λ file number more. ⊎_elim (h.held file number)
          (λ new. taken file number (record_is file number (record { file = f; number = n }) new))
          (holds_more chain (record { file = f; number = n }) file number more);
      opened = λ file number p at zero_is. mark_put x kept store f n 1 put has whole file number p at (λ w. w ≡ 0 → MayBeOpen m start chains file number)
          (λ same_file same_number one. absurd (omega arith)) (h.opened file number p at) zero_is;
    }
      where
        itself : MayHave m start chains f n
        itself = ⊎_elim (λ free. inr (seizes, free)) (λ freed. freed.1) (h.opened f n put has none)

        taken : (file number : ℕ) → (f ≡ file) × (n ≡ number) → MayHave m start chains file number
        taken file number same = subst (λ k. MayHave m start chains k number) same.0 (subst (MayHave m start chains f) same.1 itself)

    -- a record of the chain leaves it, and is opened
    pub holds_freed : (w : World) → length w.store ≡ x.cells → Contains m.accesses (Frees f) → holds chain f n ≡ true
        → Holds chain w.store → Holds (without chain f n) (opens_record put n w).store
    holds_freed w whole frees mine h = record {
      held = λ file number less. h.held file number (holds_before chain f n file number less);
      opened = λ file number p at zero_is. opened_other x kept f n put w has whole file number p at (λ v. v ≡ 0 → MayBeOpen m start chains file number)
          (λ same_file same_number gone. inr (
            subst (λ k. Contains m.accesses (Frees k)) same_file frees,
            subst
                (λ k. MayHave m start chains k number) same_file
                (subst (MayHave m start chains f) same_number (h.held f n mine)),
          ))
          (h.opened file number p at) zero_is;
    }
