-- No cell that one of two jobs may write is one that the other may read, by any summaries that let
-- them pass.
use Rattle.std.proofs.Common.{◌≡◌, ◌≢◌, inl, inr, ℕ, zero, suc, ◌<◌, ◌≤◌, Bool, true, ◌||◌, refl}
use Rattle.std.proofs.Common.{sym, ◌∙◌, subst, arith}
use Rattle.std.specs.List.{Contains}
use Rattle.std.proofs.lemmas.Bool.{cases_lt, both_ways, false≢true, or_right}
use Rattle.plex_num.specs.declared.level.Level.{Level}
use Rattle.job_types.specs.declared.chain.Held.{Held}
use Rattle.job_types.specs.declared.job.JobStart.{JobStart}
use Rattle.job_types.specs.Chain.{holds}
use Rattle.job_types.specs.Forlopps.{chain_at}
use Rattle.exchange_model.specs.declared.entry.Cell.{Cell}
use Rattle.exchange_model.specs.declared.entry.Cell.TheVariants as cell
use Rattle.exchange_model.specs.declared.exchange.Exchange.{Exchange}
use Rattle.exchange_model.proofs.Numbers.{cell_number-once}
use Rattle.source_meaning.specs.State.{State, chain_in}
use Rattle.source_meaning.specs.Valid.{IsFitting, IsValid}
use Rattle.source_meaning.proofs.Chains.{holds_all}
use Rattle.source_meaning.proofs.Lists.{all_members}
use Rattle.flow_points.specs.declared.fact.Value.{Value}
use Rattle.flow_points.specs.declared.fact.Value.TheVariants.{Arg, Const, Any}
use Rattle.entry_summary.specs.declared.summary.Access.TheVariants as access
use Rattle.entry_summary.specs.declared.summary.Summary.{Summary}
use Rattle.entry_summary.specs.Orders.{level_number}
use Rattle.pair_tests.specs.declared.pair.Conflict.TheVariants as conflict
use Rattle.pair_tests.specs.declared.pair.Test.TheVariants as test
use Rattle.pair_tests.specs.Pairs.{Passes, ShareField, both_seize, later_frees, first_frees}
use Rattle.pair_tests.specs.Pairs.{on_variable, on_field, on_file, on_level, two_values}
use Rattle.pair_tests.specs.Pairs.{first_value, later_value, in_forlopp, holds_none}
use Rattle.start_permit.specs.Granted.{IsFree, MayHold, MayRead, MayWrite, Selects}
use Rattle.pair_laws.proofs.Naming.{kinds_apart}
use Rattle.pair_laws.proofs.Cells.{AllFit, CellLet, WordLet, read, written}

-- chains

held_in : (s : State) (n file number : ℕ) → holds (chain_in s n) file number ≡ true → (n ≢ 0) × (holds (chain_at s.chains n) file number ≡ true)
held_in s zero file number h = absurd (false≢true h)
held_in s (suc n) file number h = (λ none. (let e : suc n ≡ 0 = none in omega (arith, e)), h)

-- a record that a job holds at its start stands in the chain of its forlopp
pub held_at_start : (x : Exchange) (s : State) (start : JobStart) (file number : ℕ) → IsFitting x s start
    → holds start.chain file number ≡ true → (start.job.forlopp ≢ 0)
    × (holds (chain_at s.chains start.job.forlopp) file number ≡ true)
held_at_start x s start file number fit h = held_in s start.job.forlopp file number (subst (λ chain. holds chain file number ≡ true) fit.chain h)

-- and is not free
pub held_not_free : (x : Exchange) (s : State) (start : JobStart) (file number : ℕ) → IsFitting x s start
    → holds start.chain file number ≡ true → IsFree s.chains file number → ⊥
held_not_free x s start file number fit h free =
    both_ways (holds (chain_at s.chains start.job.forlopp) file number) (free start.job.forlopp) (held_at_start x s start file number fit h).1

-- forlopps and levels

module _ (first later : Summary) (a b : JobStart) where
  pub is_in_forlopp : Passes first later a b → first.fault ≡ true → a.job.forlopp ≢ 0
  is_in_forlopp passes fault = passes.tests test.InForlopp (in_forlopp fault)

  pub is_in_other : Passes first later a b → first.fault ≡ true → a.job.forlopp ≢ b.job.forlopp
  is_in_other passes fault same = is_in_forlopp passes fault (passes.forlopps same)

  pub is_not_above : later.level ≡ b.job.level → Passes first later a b → (l : Level) → Contains first.levels l → level_number b.job.level ≤ level_number l
  is_not_above own passes l there =
      elim (cases_lt (level_number l) (level_number b.job.level)) [
        | inl lt ↦ absurd (passes.apart (conflict.Above l) (on_level l there (subst (λ m. level_number l < level_number m) (sym own) lt)))
        | inr ge ↦ ge
      ]

-- two jobs that pass by summaries of which each access is one of the exchange, and whose starts fit
-- a state
pub record AreBeside (x : Exchange) (s : State) (first later : Summary) (a b : JobStart) : Type 0 where
  pub state : IsValid x s
  pub first_fits : IsFitting x s a
  pub later_fits : IsFitting x s b
  pub first_fit : AllFit x first
  pub later_fit : AllFit x later
  pub passes : Passes first later a b

module _ (x : Exchange) (s : State) (first later : Summary) (a b : JobStart) (h : AreBeside x s first later a b) where
  -- files

  pub no_two_seize : (file : ℕ) → Contains first.accesses (access.Seizes file) → Contains later.accesses (access.Seizes file) → ⊥
  no_two_seize file p q = h.passes.apart (conflict.Seizing file) (on_file file (both_seize p q))

  pub no_free_seized : (file : ℕ) → Contains first.accesses (access.Seizes file) → Contains later.accesses (access.Frees file) → ⊥
  no_free_seized file p q = h.passes.apart (conflict.Seizing file) (on_file file (later_frees p q))

  pub no_seize_freed : (file : ℕ) → Contains first.accesses (access.Frees file) → Contains later.accesses (access.Seizes file) → ⊥
  no_seize_freed file p q = h.passes.apart (conflict.Seizing file) (on_file file (first_frees p q))

  -- a first job that may fault holds no record of a file that the later one seizes
  pub none_held : (file number : ℕ) → first.fault ≡ true → Contains later.accesses (access.Seizes file) → holds a.chain file number ≡ true → ⊥
  none_held file number fault seizes held =
      holds_all (λ (r : Held). r.file ≢ file) a.chain file number
      (all_members (λ (r : Held). r.file ≢ file) a.chain (h.passes.tests (test.HoldsNo file) (holds_none file fault seizes))) held refl

  -- records

  chains_apart : (file number : ℕ) → holds a.chain file number ≡ true → holds b.chain file number ≡ true → ⊥
  chains_apart file number p q =
      let m = held_at_start x s a file number h.first_fits p in
      let n = held_at_start x s b file number h.later_fits q in
      let same : a.job.forlopp ≡ b.job.forlopp = h.state.chains.apart a.job.forlopp b.job.forlopp (record { file = file; number = number }) m.1 n.1 in
      m.0 (h.passes.forlopps same)

  -- no record is one that both may hold
  pub own_apart : (file number : ℕ) → MayHold first.accesses a.chain s.chains file number → MayHold later.accesses b.chain s.chains file number → ⊥
  own_apart file number (inl p) (inl q) = chains_apart file number p q
  own_apart file number (inl p) (inr q) = held_not_free x s a file number h.first_fits p q.1
  own_apart file number (inr p) (inl q) = held_not_free x s b file number h.later_fits q p.1
  own_apart file number (inr p) (inr q) = no_two_seize file p.0 q.0

  -- selectors

  fields_apart : (number n : ℕ) (u v : Value) → ShareField first later number u v → Selects a.job.values u n → Selects b.job.values v n → ⊥
  fields_apart number n Any v share p q = h.passes.apart (conflict.Field number Any v) (on_field number Any v share tt)
  fields_apart number n (Arg k) Any share p q = h.passes.apart (conflict.Field number (Arg k) Any) (on_field number (Arg k) Any share tt)
  fields_apart number n (Arg k) (Arg l) share p q = h.passes.tests (test.Differ k l) (two_values number k l share) (sym p ∙ q)
  fields_apart number n (Arg k) (Const c) share p q = h.passes.tests (test.FirstNot k c) (first_value number k c share) (sym p ∙ q)
  fields_apart number n (Const c) Any share p q = h.passes.apart (conflict.Field number (Const c) Any) (on_field number (Const c) Any share tt)
  fields_apart number n (Const c) (Arg l) share p q = h.passes.tests (test.LaterNot l c) (later_value number l c share) (sym q ∙ p)
  fields_apart number n (Const c) (Const d) share p q = h.passes.apart (conflict.Field number (Const c) (Const d))
      (on_field number (Const c) (Const d) share (sym p ∙ q))

  -- cells

  cell_apart : (u v : Bool) → (u || v) ≡ true → (c : Cell) → CellLet x first.accesses a s.chains u c → CellLet x later.accesses b s.chains v c → ⊥
  cell_apart u v one (cell.Variable block index) p q =
      let same : q.number ≡ p.number = q.numbered ∙ sym p.numbered in
      h.passes.apart (conflict.Variable p.number) (on_variable p.number (record {
        first_writes = u;
        later_writes = v;
        by_first = p.there;
        by_later = subst (λ n. Contains later.accesses (access.Variable v n)) same q.there;
        one_writes = one;
      }))
  cell_apart u v one (cell.Field file number field) (inl p) (inl q) =
      let same : q.number ≡ p.number = q.numbered ∙ sym p.numbered in
      fields_apart p.number number p.selector q.selector (record {
        first_writes = u;
        later_writes = v;
        by_first = p.there;
        by_later = subst (λ n. Contains later.accesses (access.Field v n q.selector)) same q.there;
        one_writes = one;
      }) p.selects q.selects
  cell_apart u v one (cell.Field file number field) (inl p) (inr q) = kinds_apart x file p.plain q.forlopp
  cell_apart u v one (cell.Field file number field) (inr p) (inl q) = kinds_apart x file q.plain p.forlopp
  cell_apart u v one (cell.Field file number field) (inr p) (inr q) = own_apart file number p.held q.held
  cell_apart u v one (cell.Mark file number) (inl p) (inl q) = no_two_seize file p.there q.there
  cell_apart u v one (cell.Mark file number) (inl p) (inr q) = no_free_seized file p.there q.there
  cell_apart u v one (cell.Mark file number) (inr p) (inl q) = no_seize_freed file p.there q.there
  cell_apart u v one (cell.Mark file number) (inr p) (inr q) = own_apart file number p.held q.held

  -- words

  word_apart : (u v : Bool) → (u || v) ≡ true → (w : ℕ) → WordLet x first.accesses a s.chains u w → WordLet x later.accesses b s.chains v w → ⊥
  word_apart u v one w p q =
      let same : q.at ≡ p.at = cell_number-once x.blocks q.at p.at q.there p.there (q.is ∙ sym p.is) in
      cell_apart u v one p.at p.lets (subst (CellLet x later.accesses b s.chains v) same q.lets)

  pub writes_apart : (w : ℕ) → MayWrite x first a s.chains w → MayRead x later b s.chains w → ⊥
  writes_apart w p q = (let r = read x later b s.chains w h.later_fit q in word_apart true r.write refl w (written x first a s.chains w h.first_fit p) r.lets)

  pub reads_apart : (w : ℕ) → MayRead x first a s.chains w → MayWrite x later b s.chains w → ⊥
  reads_apart w p q = (let r = read x first a s.chains w h.first_fit p in word_apart r.write true
      (or_right r.write true refl) w r.lets (written x later b s.chains w h.later_fit q))

  -- a fault, and levels

  pub some_forlopp : first.fault ≡ true → a.job.forlopp ≢ 0
  some_forlopp fault = is_in_forlopp first later a b h.passes fault

  pub other_forlopp : first.fault ≡ true → a.job.forlopp ≢ b.job.forlopp
  other_forlopp fault = is_in_other first later a b h.passes fault
