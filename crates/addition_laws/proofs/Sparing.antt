-- What a job may touch by its summary is an added word, or it may touch it by the summary that
-- spares these.
use Rattle.std.proofs.Common.{◌⊎◌, inl, inr, ⊎_elim, ℕ, Bool}
use Rattle.std.specs.List.{Contains}
use Rattle.job_types.specs.declared.job.JobStart.{JobStart}
use Rattle.job_types.specs.Forlopps.{ChainMap}
use Rattle.exchange_model.specs.declared.exchange.Exchange.{Exchange}
use Rattle.source_meaning.specs.State.{State}
use Rattle.entry_summary.specs.declared.summary.Access.{Access}
use Rattle.entry_summary.specs.declared.summary.Access.TheVariants.{Variable, Field, Own, Seizes}
use Rattle.entry_summary.specs.declared.summary.Access.TheVariants.{Frees}
use Rattle.entry_summary.specs.declared.summary.Summary.{Summary}
use Rattle.start_permit.specs.Granted.{Lets, MayHold, MayRead, MayWrite, OneOf}
use Rattle.pair_laws.specs.Together.{HaveOwnWords}
use Rattle.additions_meaning.specs.Additions.{IsAddedWord, Targets}
use Rattle.addition_laws.specs.Either.{ShareOnly}
use Rattle.additions_meaning.specs.Sparing.{IsSpared, IsSparing}
use Rattle.addition_laws.proofs.Cells.{is_listed}

module _ (x : Exchange) (d : Targets) (m n : Summary) (sparing : IsSparing d m n) where
  abbrev Added : ℕ → Type 0
  Added w = IsAddedWord x d w

  pub stands : (a : Access) → Contains m.accesses a → (IsSpared d a → ⊥) → Contains n.accesses a
  stands a there not = (sparing.accesses a).1 (there, not)

  module _ (start : JobStart) (chains : ChainMap) where
    pub held : (file number : ℕ) → MayHold m.accesses start.chain chains file number → MayHold n.accesses start.chain chains file number
    held file number (inl own) = inl own
    held file number (inr free) = inr (stands (Seizes file) free.0 (λ none. none), free.1)

    abbrev Still : Bool → ℕ → Type 0
    Still write w = OneOf (Lets x n.accesses start chains write) n.accesses w

    one_lets : (write : Bool) (w : ℕ) (a : Access) → Contains m.accesses a → Lets x m.accesses start chains write a w → Added w ⊎ Still write w
    one_lets write w (Variable u number) there h = ⊎_elim
        (λ listed. inl (inl (record { item = number; there = listed; gives = h.has })))
        (λ none. inr (record { item = Variable u number; there = stands (Variable u number) there none; gives = record { does = h.does; has = h.has } }))
        (is_listed number d.variables)
    one_lets write w (Field u number selector) there h =
        let f = h.has in
        let r = f.of_record in
        ⊎_elim
        (λ listed. inl (inr (record {
          item = number;
          there = listed;
          gives = record { file = f.file; field = f.field; at = f.at; of_record = record { number = r.number; below = r.below; chosen = tt; is = r.is } };
        })))
        (λ none. inr (record {
          item = Field u number selector;
          there = stands (Field u number selector) there none;
          gives = record { does = h.does; has = h.has };
        }))
        (is_listed number d.fields)
    one_lets write w (Own u number) there h =
        let f = h.has in
        let r = f.of_record in
        inr (record {
          item = Own u number;
          there = stands (Own u number) there (λ none. none);
          gives = record {
            does = h.does;
            has = record {
              file = f.file;
              field = f.field;
              at = f.at;
              of_record = record {
                number = r.number;
                below = r.below;
                chosen = held f.file r.number r.chosen;
                is = r.is;
              };
            };
          };
        })
    one_lets write w (Seizes file) there h = inr
        (record {
          item = Seizes file;
          there = stands (Seizes file) there (λ none. none);
          gives = record { does = h.does; has = h.has };
        })
    one_lets write w (Frees file) there h =
        let f = h.has in
        let r = f.of_record in
        inr (record {
          item = Frees file;
          there = stands (Frees file) there (λ none. none);
          gives = record {
            does = h.does;
            has = record {
              placed = f.placed;
              there = f.there;
              of_record = record { number = r.number; below = r.below; chosen = held file r.number r.chosen; is = r.is };
            };
          };
        })

    pub writes_spared : (w : ℕ) → MayWrite x m start chains w → Added w ⊎ MayWrite x n start chains w
    writes_spared w o = one_lets _ w o.item o.there o.gives

    pub reads_spared : (w : ℕ) → MayRead x m start chains w → Added w ⊎ MayRead x n start chains w
    reads_spared w (inl o) = ⊎_elim (λ added. inl added) (λ still. inr (inl still)) (one_lets _ w o.item o.there o.gives)
    reads_spared w (inr o) = ⊎_elim (λ added. inl added) (λ still. inr (inr still)) (writes_spared w o)

-- of two things that do not both hold, but for a third
either_third : {A B C : Type 0} → (A → B → ⊥) → C ⊎ A → C ⊎ B → C
either_third not (inl c) second = c
either_third not (inr a) (inl c) = c
either_third not (inr a) (inr b) = absurd (not a b)

-- where the summaries that spare them share no word, the whole ones share added words alone
pub share_only : (x : Exchange) (d : Targets) (s : State) (first later one other : Summary) (a b : JobStart)
    → IsSparing d first one → IsSparing d later other → HaveOwnWords x s one other a b
    → ShareOnly x (IsAddedWord x d) s first later a b
share_only x d s first later one other a b of_first of_later own = record {
  first_writes = λ w p q. either_third (own.first_writes w) (writes_spared x d first one of_first a s.chains w p)
      (reads_spared x d later other of_later b s.chains w q);
  later_writes = λ w p q. either_third (own.later_writes w) (reads_spared x d first one of_first a s.chains w p)
      (writes_spared x d later other of_later b s.chains w q);
}
