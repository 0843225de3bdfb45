-- A record that is freed, a chain that is released, and all chains at once.
use Rattle.std.proofs.Common.{◌≡◌, ◌⊎◌, inl, inr, ⊎_elim, ℕ, ◌≤◌, Bool, true, false, List, [], ◌∷◌}
use Rattle.std.proofs.Common.{length, Some, refl, sym, ap, ◌∙◌, subst, slice_get, arith}
use Rattle.std.proofs.lemmas.Bool.{cases_eq, eq-eqb, eqb-true, both_ways, cases_Bool}
use Rattle.std.proofs.lemmas.Option.{same_Some}
use Rattle.std.specs.Prelude.{slice_index, ◌||◌, ◌≢◌, nat_eq, if◌then◌else◌}
use Rattle.std.specs.Option.{option_map_or}
use Rattle.std.specs.List.{AllByRecursion}
use Rattle.plex_limits.specs.declared.limits.TheConstants.{MOST_HELD}
use Rattle.job_types.specs.declared.chain.Held.{Held}
use Rattle.job_types.specs.Chain.{is_record, holds, without}
use Rattle.job_types.specs.Own.{World}
use Rattle.exchange_model.specs.declared.exchange.Exchange.{Exchange}
use Rattle.exchange_model.specs.Cells.{Placed, mark_cell}
use Rattle.exchange_model.specs.Kept.{IsExchange}
use Rattle.source_meaning.specs.Config.{files_of}
use Rattle.source_meaning.specs.Changes.{opens_record}
use Rattle.source_meaning.specs.Retirement.{opened, all_opened}
use Rattle.source_meaning.specs.Valid.{HasRecords, IsOnce, IsRecord, StoreFits}
use Rattle.source_meaning.proofs.Stores.{opens_fit}
use Rattle.source_meaning.proofs.Books.{Books, IsChanged, each_chain, held_mark}
use Rattle.source_meaning.proofs.Chains.{record_is, record_itself, holds_before, holds_other}
use Rattle.source_meaning.proofs.Chains.{once_without, gone, without_few, all_without}
use Rattle.source_meaning.proofs.Marks.{HasMark, opened_long, opened_mark, opened_other}

module _ (x : Exchange) (kept : IsExchange x) (Live : ℕ → Type 0) (ch : ℕ → List Held) (w : World)
    (b : Books x Live ch w.store) (whole : length w.store ≡ x.cells) (now : ℕ → List Held) (f : ℕ) where
  -- a record of the chain leaves it, and is opened
  pub books_free : (file number : ℕ) (p : Placed) → IsChanged ch now f (without (ch f) file number) → Live f
      → HasMark x file number p → holds (ch f) file number ≡ true → Books x Live now (opens_record p number w).store
  books_free file number p is alive m mine = record {
    few = each_chain ch now f (without (ch f) file number) (λ n c. length c ≤ MOST_HELD) is
        (let less = without_few (ch f) file number in let most = b.few f in omega arith) b.few;
    records = each_chain ch now f (without (ch f) file number) (λ n c. AllByRecursion (IsRecord x) c) is
        (all_without (IsRecord x) (ch f) file number (b.records f)) b.records;
    once = each_chain ch now f (without (ch f) file number) (λ n c. IsOnce c) is (once_without (ch f) file number (b.once f)) b.once;
    apart = λ n k g i a c. b.apart n k g i (had n g i a) (had k g i c);
    living = each_chain ch now f (without (ch f) file number) (λ n c. HasRecords c → Live n) is (λ some. alive) b.living;
    held = λ n g i q there a. opened_other x kept file number p w m whole g i q
        (held_mark x kept Live ch w.store b n g i q there (had n g i a)) (λ v. v ≡ 1)
        (λ same_file same_number. absurd (left n g i a same_file same_number)) (b.held n g i q there (had n g i a));
    free = λ g i q rec kind none. zero_there g i q (record { at = rec; kind = kind }) none
        (cases_Bool (is_record g i (record { file = file; number = number })));
  }
    where
      had : (n g i : ℕ) → holds (now n) g i ≡ true → holds (ch n) g i ≡ true
      had n g i a = ⊎_elim
          (λ same. subst (λ k. holds (ch k) g i ≡ true) (sym same)
          (holds_before (ch f) file number g i
          (subst (λ c. holds c g i ≡ true) is.same (subst (λ k. holds (now k) g i ≡ true) same a))))
          (λ other. subst (λ c. holds c g i ≡ true) (is.other n other) a) (cases_eq n f)

      -- the record itself is in no chain any more
      left : (n g i : ℕ) → holds (now n) g i ≡ true → file ≡ g → number ≡ i → ⊥
      left n g i a same_file same_number =
          let at : holds (now n) file number ≡ true = subst (λ k. holds (now n) k number ≡ true) (sym same_file)
          (subst (λ k. holds (now n) g k ≡ true) (sym same_number) a) in
          let same : n ≡ f = b.apart n f file number (had n file number at) mine in
          both_ways (holds (without (ch f) file number) file number) (gone (ch f) file number (b.once f))
          (subst (λ c. holds c file number ≡ true) is.same (subst (λ k. holds (now k) file number ≡ true) same at))

      -- another record was in no chain before
      before : (g i : ℕ) → is_record g i (record { file = file; number = number }) ≡ false
          → ((n : ℕ) → holds (now n) g i ≡ false) → (n : ℕ) → holds (ch n) g i ≡ false
      before g i other none n = ⊎_elim
          (λ a. ⊎_elim
          (λ same.
          let e = holds_other (ch f) file number g i (subst (λ k. holds (ch k) g i ≡ true) same a) (subst (λ c. holds c g i ≡ false) is.same (none f)) in
          let itself : is_record g i (record { file = file; number = number })
          ≡ true = subst (λ k. is_record k i (record { file = file; number = number }) ≡ true) (sym e.0)
          (subst (λ k. is_record file k (record { file = file; number = number }) ≡ true) (sym e.1)
          (record_itself file number)) in
          absurd (both_ways (is_record g i (record { file = file; number = number })) other itself))
          (λ apart. absurd (both_ways (holds (ch n) g i) (subst (λ c. holds c g i ≡ false) (is.other n apart) (none n)) a))
          (cases_eq n f))
          (λ out. out) (cases_Bool (holds (ch n) g i))

      zero_there : (g i : ℕ) (q : Placed) → HasMark x g i q → ((n : ℕ) → holds (now n) g i ≡ false)
          → (is_record g i (record { file = file; number = number }) ≡ true)
          ⊎ (is_record g i (record { file = file; number = number }) ≡ false)
          → slice_index (opens_record p number w).store (mark_cell q i) ≡ 0
      zero_there g i q o none (inl itself) =
          let e = record_is g i (record { file = file; number = number }) itself in
          let same : p ≡ q = same_Some p q (sym m.at.there ∙ ap (slice_get (files_of x)) e.0 ∙ o.at.there) in
          subst (λ (z : Placed). slice_index (opens_record p number w).store (mark_cell z i) ≡ 0) same
          (subst (λ k. slice_index (opens_record p number w).store (mark_cell p k) ≡ 0) e.1 (opened_mark x kept file number p w m whole))
      zero_there g i q o none (inr other) =
          opened_other x kept file number p w m whole g i q o (λ v. v ≡ 0) (λ same_file same_number. refl) (b.free g i q o.at o.kind (before g i other none))

-- these chains, with another one for a number
abbrev pub put_chain : (ℕ → List Held) → ℕ → List Held → ℕ → List Held
put_chain ch f chain n = (if nat_eq n f then chain else ch n)

pub put_same : (ch : ℕ → List Held) (f : ℕ) (chain : List Held) → put_chain ch f chain f ≡ chain
put_same ch f chain = ap (λ b. if b then chain else ch f) (eq-eqb f f refl)

pub put_other : (ch : ℕ → List Held) (f : ℕ) (chain : List Held) (n : ℕ) → n ≢ f → put_chain ch f chain n ≡ ch n
put_other ch f chain n other = ap (λ b. if b then chain else ch n) (⊎_elim (λ t. absurd (other (eqb-true n f t))) (λ o. o) (cases_Bool (nat_eq n f)))

pub put_changed : (ch : ℕ → List Held) (f : ℕ) (chain : List Held) → IsChanged ch (put_chain ch f chain) f chain
put_changed ch f chain = record { same = put_same ch f chain; other = put_other ch f chain }

-- the first record of a chain is without it the rest
first_out : (h : Held) (rest : List Held) → without (h ∷ rest) h.file h.number ≡ rest
first_out h rest = ap (λ b. if b then rest else h ∷ without rest h.file h.number) (record_itself h.file h.number)

first_in : (h : Held) (rest : List Held) → holds (h ∷ rest) h.file h.number ≡ true
first_in h rest = ap (λ b. b || holds rest h.file h.number) (record_itself h.file h.number)

-- a record's opening
pub opened_is : (x : Exchange) (h : Held) (p : Placed) (w : World) → slice_get (files_of x) h.file ≡ Some p
    → opened (files_of x) h w ≡ opens_record p h.number w
opened_is x h p w there = ap (λ o. option_map_or (λ p. opens_record p h.number w) o w) there

module _ (x : Exchange) (kept : IsExchange x) (Live : ℕ → Type 0) (ch : ℕ → List Held) (f : ℕ) (alive : Live f) where
  -- all records of a chain leave it
  pub books_release : (chain : List Held) (w : World) → Books x Live (put_chain ch f chain) w.store
      → length w.store ≡ x.cells → Books x Live (put_chain ch f []) (all_opened (files_of x) chain w).store
  books_release [] w b whole = b
  books_release (h ∷ rest) w b whole =
      let was = put_chain ch f (h ∷ rest) in
      let now = put_chain ch f rest in
      let here = subst (AllByRecursion (IsRecord x)) (put_same ch f (h ∷ rest)) (b.records f) in
      let r = here.0 in
      let m : HasMark x h.file h.number r.placed = record { at = r.here; kind = r.kind } in
      let is : IsChanged was now f (without (was f) h.file h.number) = record {
        same = put_same ch f rest ∙ sym (first_out h rest) ∙ ap (λ c. without c h.file h.number) (sym (put_same ch f (h ∷ rest)));
        other = λ n apart. put_other ch f rest n apart ∙ sym (put_other ch f (h ∷ rest) n apart);
      } in
      let mine : holds (was f) h.file h.number ≡ true = ap (λ c. holds c h.file h.number) (put_same ch f (h ∷ rest)) ∙ first_in h rest in
      let at = opened_is x h r.placed w r.here.there in
      let next = subst (λ (v : World). Books x Live now v.store) (sym at)
      (books_free x kept Live was w b whole now f h.file h.number r.placed is alive m mine) in
      books_release rest (opened (files_of x) h w) next (ap (λ (v : World). length v.store) at ∙ opened_long x kept h.file h.number r.placed w m whole)

module _ (x : Exchange) (kept : IsExchange x) where
  -- the store keeps its length, and fits
  pub openings_fit : (list : List Held) (w : World) → AllByRecursion (IsRecord x) list → StoreFits x w.store
      → StoreFits x (all_opened (files_of x) list w).store
  openings_fit [] w all h = h
  openings_fit (g ∷ list) w all h =
      let r = all.0 in
      openings_fit list (opened (files_of x) g w) all.1
      (subst (λ (v : World). StoreFits x v.store) (sym (opened_is x g r.placed w r.here.there))
      (opens_fit x kept g.file g.number r.placed w r.here r.kind h))

  -- every mark is 0 once these records are opened, of which it is one or else was 0
  pub openings_clear : (list : List Held) (w : World) (g i : ℕ) (q : Placed) → AllByRecursion (IsRecord x) list
      → length w.store ≡ x.cells → HasMark x g i q → (holds list g i ≡ true) ⊎ (slice_index w.store (mark_cell q i) ≡ 0)
      → slice_index (all_opened (files_of x) list w).store (mark_cell q i) ≡ 0
  openings_clear [] w g i q all whole o (inl h) = cc
  openings_clear [] w g i q all whole o (inr zero_is) = zero_is
  openings_clear (h ∷ list) w g i q all whole o some =
      let r = all.0 in
      let m : HasMark x h.file h.number r.placed = record { at = r.here; kind = r.kind } in
      let at = opened_is x h r.placed w r.here.there in
      let v = opened (files_of x) h w in
      openings_clear list v g i q all.1 (ap (λ (v : World). length v.store) at ∙ opened_long x kept h.file h.number r.placed w m whole) o
      (⊎_elim (λ held. by (is_record g i h) refl held r m at)
      (λ was. inr (subst (λ (v : World). slice_index v.store (mark_cell q i) ≡ 0) (sym at)
      (opened_other x kept h.file h.number r.placed w m whole g i q o (λ v. v ≡ 0) (λ same_file same_number. refl)
      was))) some)
    where
      by : (e : Bool) → is_record g i h ≡ e → (e || holds list g i) ≡ true → (r : IsRecord x h)
          → HasMark x h.file h.number r.placed → opened (files_of x) h w ≡ opens_record r.placed h.number w
          → (holds list g i ≡ true) ⊎ (slice_index (opened (files_of x) h w).store (mark_cell q i) ≡ 0)
      by true is held r m at =
          let e = record_is g i h is in
          let same : r.placed ≡ q = same_Some r.placed q (sym r.here.there ∙ ap (slice_get (files_of x)) e.0 ∙ o.at.there) in
          inr (subst (λ (v : World). slice_index v.store (mark_cell q i) ≡ 0) (sym at)
          (subst (λ (z : Placed). slice_index (opens_record r.placed h.number w).store (mark_cell z i) ≡ 0) same
          (subst (λ k. slice_index (opens_record r.placed h.number w).store (mark_cell r.placed k) ≡ 0) e.1
          (opened_mark x kept h.file h.number r.placed w m whole))))
      by false is held r m at = inl held
