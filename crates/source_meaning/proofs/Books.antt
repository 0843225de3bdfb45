-- Chains and marks that fit one another, and what keeps them so: a record is seized or freed, a
-- chain is released, all are.
use Rattle.std.proofs.Common.{◌≡◌, ◌⊎◌, inl, inr, ⊎_elim, ℕ, ◌<◌, ◌≤◌, true, false, List, [], ◌∷◌}
use Rattle.std.proofs.Common.{◌++◌, length, Some, refl, sym, ap, ◌∙◌, subst, slice_get, arith}
use Rattle.std.proofs.Common.{length-append}
use Rattle.std.proofs.lemmas.Bool.{cases_eq, both_ways, cases_Bool}
use Rattle.std.proofs.lemmas.Option.{same_Some}
use Rattle.std.specs.Prelude.{slice_index, slice_set, ◌≢◌}
use Rattle.std.specs.List.{AllByRecursion}
use Rattle.plex_limits.specs.declared.limits.TheConstants.{MOST_HELD}
use Rattle.job_types.specs.declared.chain.Held.{Held}
use Rattle.job_types.specs.Chain.{is_record, holds}
use Rattle.exchange_model.specs.declared.exchange.Exchange.{Exchange}
use Rattle.exchange_model.specs.Cells.{Placed, mark_cell}
use Rattle.exchange_model.specs.Kept.{IsExchange}
use Rattle.source_meaning.specs.Config.{files_of}
use Rattle.source_meaning.specs.Valid.{HasRecords, IsOnce, IsRecord, IsRecordAt}
use Rattle.source_meaning.proofs.Chains.{record_is, record_itself, holds_more, holds_still}
use Rattle.source_meaning.proofs.Chains.{holds_last, holds_all, once_more}
use Rattle.plex_num.proofs.Lists.{all_append}
use Rattle.source_meaning.proofs.Marks.{HasMark, mark_put, mark_set}

-- the chain of each number, and the marks among the stored words
pub record Books (x : Exchange) (Live : ℕ → Type 0) (ch : ℕ → List Held) (store : List ℕ) : Type 0 where
  pub few : (n : ℕ) → length (ch n) ≤ MOST_HELD
  pub records : (n : ℕ) → AllByRecursion (IsRecord x) (ch n)
  pub once : (n : ℕ) → IsOnce (ch n)
  pub apart : (n m file number : ℕ) → holds (ch n) file number ≡ true → holds (ch m) file number ≡ true → n ≡ m
  pub living : (n : ℕ) → HasRecords (ch n) → Live n
  pub held : (n file number : ℕ) (p : Placed) → slice_get (files_of x) file ≡ Some p → holds (ch n) file number ≡ true
      → slice_index store (mark_cell p number) ≡ 1
  pub free : (file number : ℕ) (p : Placed) → IsRecordAt x file number p → p.file.forlopp ≡ true
      → ((n : ℕ) → holds (ch n) file number ≡ false) → slice_index store (mark_cell p number) ≡ 0

-- the same chains but for one
pub record IsChanged (ch now : ℕ → List Held) (f : ℕ) (chain : List Held) : Type 0 where
  pub same : now f ≡ chain
  pub other : (n : ℕ) → n ≢ f → now n ≡ ch n

-- what holds of the new chain and of the others holds of each
pub each_chain : (ch now : ℕ → List Held) (f : ℕ) (chain : List Held) (P : ℕ → List Held → Type 0)
    → IsChanged ch now f chain → P f chain → ((n : ℕ) → P n (ch n)) → (n : ℕ) → P n (now n)
each_chain ch now f chain P is here others n =
    ⊎_elim (λ same. subst (λ k. P k (now k)) (sym same) (subst (P f) (sym is.same) here))
    (λ other. subst (P n) (sym (is.other n other)) (others n)) (cases_eq n f)

module _ (x : Exchange) (kept : IsExchange x) (Live : ℕ → Type 0) (ch : ℕ → List Held) where
  -- a record that a chain has is one with a mark
  pub held_mark : (store : List ℕ) → Books x Live ch store → (n file number : ℕ) (p : Placed)
      → slice_get (files_of x) file ≡ Some p → holds (ch n) file number ≡ true → HasMark x file number p
  held_mark store b n file number p there h =
      let r = holds_all (IsRecord x) (ch n) file number (b.records n) h in
      let same : r.placed ≡ p = same_Some r.placed p (sym r.here.there ∙ there) in
      subst (HasMark x file number) same (record { at = r.here; kind = r.kind })

  -- other words
  pub books_on : (store words : List ℕ) → ((file number : ℕ) (p : Placed) → HasMark x file number p
      → slice_index words (mark_cell p number) ≡ slice_index store (mark_cell p number)) → Books x Live ch store
      → Books x Live ch words
  books_on store words same b = record {
    few = b.few;
    records = b.records;
    once = b.once;
    apart = b.apart;
    living = b.living;
    held = λ n file number p there h. same file number p (held_mark store b n file number p there h) ∙ b.held n file number p there h;
    free = λ file number p rec kind out. same file number p (record { at = rec; kind = kind }) ∙ b.free file number p rec kind out;
  }

  -- a record of mark 0 is in no chain
  out_of_all : (store : List ℕ) → Books x Live ch store → (file number : ℕ) (p : Placed) → HasMark x file number p
      → slice_index store (mark_cell p number) ≡ 0 → (n : ℕ) → holds (ch n) file number ≡ false
  out_of_all store b file number p m zero_is n =
      ⊎_elim (λ h. let one = b.held n file number p m.at.there h in absurd (omega arith)) (λ out. out) (cases_Bool (holds (ch n) file number))

  module _ (store : List ℕ) (b : Books x Live ch store) (whole : length store ≡ x.cells) (now : ℕ → List Held) (f : ℕ) where
    -- a free record joins the chain, and is marked
    pub books_seize : (file number : ℕ) (p : Placed)
        → IsChanged ch now f (ch f ++ record { file = file; number = number } ∷ []) → Live f → HasMark x file number p
        → length (ch f) < MOST_HELD → slice_index store (mark_cell p number) ≡ 0
        → Books x Live now (slice_set store (mark_cell p number) 1)
    books_seize file number p is alive m room zero_is =
        let r : Held = record { file = file; number = number } in
        let out = out_of_all store b file number p m zero_is in
        record {
          few = each_chain ch now f (ch f ++ r ∷ []) (λ n c. length c ≤ MOST_HELD) is (let long = length-append (ch f) (r ∷ []) in omega arith) b.few;
          records = each_chain ch now f (ch f ++ r ∷ []) (λ n c. AllByRecursion (IsRecord x) c) is
              (all_append (IsRecord x) (ch f) (r ∷ []) (b.records f)
              (record { placed = p; here = m.at; kind = m.kind }, tt)) b.records;
          once = each_chain ch now f (ch f ++ r ∷ []) (λ n c. IsOnce c) is (once_more (ch f) r (b.once f) (out f)) b.once;
          apart = λ n k g i a c. meet n k g i (had n g i a) (had k g i c);
          living = each_chain ch now f (ch f ++ r ∷ []) (λ n c. HasRecords c → Live n) is (λ some. alive) b.living;
          held = λ n g i q there a. marked n g i q there (had n g i a);
          free = λ g i q rec kind none. mark_put x kept store file number 1 p m whole g i q (record { at = rec; kind = kind }) (λ w. w ≡ 0)
              (λ same_file same_number. absurd (itself g i (none f) same_file same_number)) (b.free g i q rec kind (λ n. before n g i (none n)));
        }
      where
        r : Held
        r = record { file = file; number = number }

        -- a record of a chain was there before, or is the new one
        had : (n g i : ℕ) → holds (now n) g i ≡ true → (holds (ch n) g i ≡ true) ⊎ ((n ≡ f) × (file ≡ g) × (number ≡ i))
        had n g i a = ⊎_elim
            (λ same. ⊎_elim (λ old. inl (subst (λ k. holds (ch k) g i ≡ true) (sym same) old)) (λ new. let e = record_is g i r new in inr (same, e.0, e.1))
            (holds_more (ch f) r g i (subst (λ c. holds c g i ≡ true) is.same (subst (λ k. holds (now k) g i ≡ true) same a))))
            (λ other. inl (subst (λ c. holds c g i ≡ true) (is.other n other) a)) (cases_eq n f)

        -- the new record was in no chain
        never : {A : Type 0} (n g i : ℕ) → file ≡ g → number ≡ i → holds (ch n) g i ≡ true → A
        never n g i same_file same_number a =
            absurd (both_ways (holds (ch n) g i)
            (subst (λ k. holds (ch n) k i ≡ false) same_file
            (subst (λ k. holds (ch n) file k ≡ false) same_number (out_of_all store b file number p m zero_is n)))
            a)

        meet : (n k g i : ℕ) → (holds (ch n) g i ≡ true) ⊎ ((n ≡ f) × (file ≡ g) × (number ≡ i))
            → (holds (ch k) g i ≡ true) ⊎ ((k ≡ f) × (file ≡ g) × (number ≡ i)) → n ≡ k
        meet n k g i (inl a) (inl c) = b.apart n k g i a c
        meet n k g i (inl a) (inr c) = never n g i c.1 c.2 a
        meet n k g i (inr a) (inl c) = never k g i a.1 a.2 c
        meet n k g i (inr a) (inr c) = a.0 ∙ sym c.0

        marked : (n g i : ℕ) (q : Placed) → slice_get (files_of x) g ≡ Some q
            → (holds (ch n) g i ≡ true) ⊎ ((n ≡ f) × (file ≡ g) × (number ≡ i))
            → slice_index (slice_set store (mark_cell p number) 1) (mark_cell q i) ≡ 1
        marked n g i q there (inl a) =
            mark_put x kept store file number 1 p m whole g i q (held_mark store b n g i q there a) (λ w. w ≡ 1)
            (λ same_file same_number. refl) (b.held n g i q there a)
        marked n g i q there (inr new) =
            let same : p ≡ q = same_Some p q (sym m.at.there ∙ ap (slice_get (files_of x)) new.1 ∙ there) in
            subst (λ (z : Placed). slice_index (slice_set store (mark_cell p number) 1) (mark_cell z i) ≡ 1) same
            (subst (λ k. slice_index (slice_set store (mark_cell p number) 1) (mark_cell p k) ≡ 1) new.2 (mark_set x kept store file number 1 p m whole))

        itself : (g i : ℕ) → holds (now f) g i ≡ false → file ≡ g → number ≡ i → ⊥
        itself g i none same_file same_number =
            let last : holds (ch f ++ r ∷ []) g i
            ≡ true = holds_last (ch f) r g i
            (subst (λ k. is_record k i r ≡ true) same_file
            (subst (λ k. is_record file k r ≡ true) same_number (record_itself file number))) in
            both_ways (holds (now f) g i) none (subst (λ c. holds c g i ≡ true) (sym is.same) last)

        before : (n g i : ℕ) → holds (now n) g i ≡ false → holds (ch n) g i ≡ false
        before n g i none = ⊎_elim
            (λ a. absurd (both_ways (holds (now n) g i) none (⊎_elim
            (λ same. subst (λ k. holds (now k) g i ≡ true) (sym same)
            (subst (λ c. holds c g i ≡ true) (sym is.same)
            (holds_still (ch f) r g i (subst (λ k. holds (ch k) g i ≡ true) same a))))
            (λ other. subst (λ c. holds c g i ≡ true) (sym (is.other n other)) a) (cases_eq n f))))
            (λ out. out) (cases_Bool (holds (ch n) g i))
