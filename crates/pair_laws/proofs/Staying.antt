-- What the later job may read and write is the same whichever way the first one leaves the chains.
use Rattle.std.proofs.Common.{◌≡◌, ◌⊎◌, inl, inr, ⊎_elim, ℕ, zero, suc, Bool, true, false, List, []}
use Rattle.std.proofs.Common.{◌∷◌, sym, ap, ◌∙◌, subst, arith}
use Rattle.std.specs.Prelude.{◌↔◌}
use Rattle.std.specs.List.{Contains}
use Rattle.std.proofs.lemmas.Bool.{cases_eq, cases_Bool, false≢true}
use Rattle.job_types.specs.declared.chain.Held.{Held}
use Rattle.job_types.specs.declared.job.JobStart.{JobStart}
use Rattle.job_types.specs.Chain.{holds}
use Rattle.job_types.specs.Forlopps.{ChainMap, chain_at}
use Rattle.exchange_model.specs.declared.exchange.Exchange.{Exchange}
use Rattle.source_meaning.specs.State.{State, chain_in}
use Rattle.source_meaning.specs.Valid.{HasRecords, IsValid}
use Rattle.entry_summary.specs.declared.summary.Access.{Access}
use Rattle.entry_summary.specs.declared.summary.Access.TheVariants.{Variable, Field, Own, Seizes}
use Rattle.entry_summary.specs.declared.summary.Access.TheVariants.{Frees}
use Rattle.entry_summary.specs.declared.summary.Summary.{Summary}
use Rattle.start_permit.specs.Granted.{IsFree, IsOfField, IsOfMark, Lets, Marks, MayHold, MayRead}
use Rattle.start_permit.specs.Granted.{MayWrite, OneOf}
use Rattle.pair_laws.specs.Pairs.{LeavesChains}
use Rattle.pair_laws.proofs.Beside.{AreBeside, held_not_free, no_seize_freed, no_two_seize}
use Rattle.pair_laws.proofs.Beside.{none_held}

-- what is let depends on which records are free of the files of which some may be seized, and on no
-- other

module _ (x : Exchange) (all : List Access) (start : JobStart) (before after : ChainMap)
    (same : (file number : ℕ) → Contains all (Seizes file) → IsFree before file number → IsFree after file number) where
  hold_same : (file number : ℕ) → MayHold all start.chain before file number → MayHold all start.chain after file number
  hold_same file number (inl held) = inl held
  hold_same file number (inr free) = inr (free.0, same file number free.0 free.1)

  mark_same : (write : Bool) (file number : ℕ) → Contains all (Seizes file) → Marks write before file number → Marks write after file number
  mark_same true file number seizes free = same file number seizes free
  mark_same false file number seizes free = tt

  field_let_same : (number word : ℕ) → IsOfField x number (MayHold all start.chain before) word → IsOfField x number (MayHold all start.chain after) word
  field_let_same number word f =
      let r = f.of_record in
      record {
        file = f.file;
        field = f.field;
        at = f.at;
        of_record = record {
          number = r.number;
          below = r.below;
          chosen = hold_same f.file r.number r.chosen;
          is = r.is;
        };
      }

  marks_let_same : (write : Bool) (file word : ℕ) → Contains all (Seizes file)
      → IsOfMark x file (Marks write before file) word → IsOfMark x file (Marks write after file) word
  marks_let_same write file word seizes m =
      let r = m.of_record in
      record {
        placed = m.placed;
        there = m.there;
        of_record = record {
          number = r.number;
          below = r.below;
          chosen = mark_same write file r.number seizes r.chosen;
          is = r.is;
        };
      }

  freed_let_same : (file word : ℕ) → IsOfMark x file (MayHold all start.chain before file) word → IsOfMark x file (MayHold all start.chain after file) word
  freed_let_same file word m =
      let r = m.of_record in
      record {
        placed = m.placed;
        there = m.there;
        of_record = record {
          number = r.number;
          below = r.below;
          chosen = hold_same file r.number r.chosen;
          is = r.is;
        };
      }

  lets_same : (write : Bool) (word : ℕ) (one : Access) → Contains all one → Lets x all start before write one word → Lets x all start after write one word
  lets_same write word (Variable w n) there h = record { does = h.does; has = h.has }
  lets_same write word (Field w n selector) there h = record { does = h.does; has = h.has }
  lets_same write word (Own w n) there h = record { does = h.does; has = field_let_same n word h.has }
  lets_same write word (Seizes file) there h = record { does = h.does; has = marks_let_same write file word there h.has }
  lets_same write word (Frees file) there h = record { does = h.does; has = freed_let_same file word h.has }

  pub one_same : (write : Bool) (word : ℕ) → OneOf (Lets x all start before write) all word → OneOf (Lets x all start after write) all word
  one_same write word o = record { item = o.item; there = o.there; gives = lets_same write word o.item o.there o.gives }

  pub read_same : (word : ℕ) → OneOf (Lets x all start before false) all word
      ⊎ OneOf (Lets x all start before true) all word
      → OneOf (Lets x all start after false) all word ⊎ OneOf (Lets x all start after true) all word
  read_same word (inl o) = inl (one_same false word o)
  read_same word (inr o) = inr (one_same true word o)

-- chains of a valid state

has_records : (chain : List Held) (file number : ℕ) → holds chain file number ≡ true → HasRecords chain
has_records [] file number h = absurd (false≢true h)
has_records (r ∷ rest) file number h = tt

-- no record stands in the chain of no forlopp
pub bare_holds_none : (x : Exchange) (s : State) (file number : ℕ) → IsValid x s → holds (chain_at s.chains 0) file number ≡ true → ⊥
bare_holds_none x s file number valid h = (let drawn = (valid.chains.live 0 (has_records (chain_at s.chains 0) file number h)).drawn in omega (arith, drawn))

pub chain_of : (x : Exchange) (s : State) (n file number : ℕ) → IsValid x s
    → holds (chain_at s.chains n) file number ≡ true → holds (chain_in s n) file number ≡ true
chain_of x s zero file number valid h = absurd (bare_holds_none x s file number valid h)
chain_of x s (suc n) file number valid h = h

module _ (x : Exchange) (s : State) (first later : Summary) (a b : JobStart) (chains : ChainMap)
    (h : AreBeside x s first later a b) (leaves : LeavesChains first a s.chains chains) where
  -- a record that is free before is free after

  not_taken : (file number : ℕ) → Contains later.accesses (Seizes file) → IsFree s.chains file number → MayHold first.accesses a.chain s.chains file number → ⊥
  not_taken file number seizes free (inl held) = held_not_free x s a file number h.first_fits held free
  not_taken file number seizes free (inr taken) = no_two_seize x s first later a b h file taken.0 seizes

  free_own : (file number : ℕ) → Contains later.accesses (Seizes file) → IsFree s.chains file number → holds (chain_at chains a.job.forlopp) file number ≡ false
  free_own file number seizes free =
      ⊎_elim (λ held. absurd (not_taken file number seizes free (leaves.own file number held))) (λ none. none)
      (cases_Bool (holds (chain_at chains a.job.forlopp) file number))

  pub free_after : (file number : ℕ) → Contains later.accesses (Seizes file) → IsFree s.chains file number → IsFree chains file number
  free_after file number seizes free n =
      elim (cases_eq n a.job.forlopp) [
        | inl same ↦ ap (λ m. holds (chain_at chains m) file number) same ∙ free_own file number seizes free
        | inr other ↦ ap (λ chain. holds chain file number) (leaves.others n other) ∙ free n
      ]

  -- and one that is free after was free before

  not_let_go : (file number : ℕ) → Contains later.accesses (Seizes file) → holds a.chain file number ≡ true
      → Contains first.accesses (Frees file) ⊎ (first.fault ≡ true) → ⊥
  not_let_go file number seizes held (inl frees) = no_seize_freed x s first later a b h file frees seizes
  not_let_go file number seizes held (inr fault) = none_held x s first later a b h file number fault seizes held

  own_free : (file number : ℕ) → Contains later.accesses (Seizes file)
      → holds (chain_at chains a.job.forlopp) file number ≡ false
      → holds (chain_at s.chains a.job.forlopp) file number ≡ false
  own_free file number seizes gone =
      ⊎_elim
      (λ there. (let held : holds a.chain file number
      ≡ true = subst (λ chain. holds chain file number ≡ true) (sym h.first_fits.chain)
      (chain_of x s a.job.forlopp file number h.state there) in
      absurd (not_let_go file number seizes held (leaves.let_go file number held gone))))
      (λ none. none) (cases_Bool (holds (chain_at s.chains a.job.forlopp) file number))

  pub free_before : (file number : ℕ) → Contains later.accesses (Seizes file) → IsFree chains file number → IsFree s.chains file number
  free_before file number seizes free n =
      elim (cases_eq n a.job.forlopp) [
        | inl same ↦ ap (λ m. holds (chain_at s.chains m) file number) same ∙ own_free file number seizes (free a.job.forlopp)
        | inr other ↦ ap (λ chain. holds chain file number) (sym (leaves.others n other)) ∙ free n
      ]

  -- so the words are the same

  pub reads_stay : (w : ℕ) → MayRead x later b s.chains w ↔ MayRead x later b chains w
  reads_stay w = (read_same x later.accesses b s.chains chains free_after w, read_same x later.accesses b chains s.chains free_before w)

  pub writes_stay : (w : ℕ) → MayWrite x later b s.chains w ↔ MayWrite x later b chains w
  writes_stay w = (one_same x later.accesses b s.chains chains free_after true w, one_same x later.accesses b chains s.chains free_before true w)
