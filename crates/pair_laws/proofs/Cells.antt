-- A word that a job may read or write is that of a cell, and why the cell is let to it.
use Rattle.std.proofs.Common.{◌≡◌, ◌⊎◌, inl, inr, ℕ, Bool, true, false, List, sym, ◌∙◌, subst}
use Rattle.std.specs.List.{Contains}
use Rattle.job_types.specs.declared.chain.Held.{Held}
use Rattle.job_types.specs.declared.job.JobStart.{JobStart}
use Rattle.job_types.specs.Forlopps.{ChainMap}
use Rattle.exchange_model.specs.declared.entry.Cell.{Cell}
use Rattle.exchange_model.specs.declared.entry.Cell.TheVariants as cell
use Rattle.exchange_model.specs.declared.exchange.Exchange.{Exchange}
use Rattle.exchange_model.specs.Cells.{IsCell, cell_number}
use Rattle.exchange_model.proofs.Numbers.{variable_is_cell, field_is_cell, mark_is_cell}
use Rattle.exchange_model.proofs.Numbers.{cell_number-field, cell_number-mark}
use Rattle.source_meaning.specs.Config.{files_of}
use Rattle.flow_points.specs.declared.fact.Value.{Value}
use Rattle.entry_summary.specs.declared.summary.Access.{Access}
use Rattle.entry_summary.specs.declared.summary.Access.TheVariants.{Variable, Field, Own, Seizes}
use Rattle.entry_summary.specs.declared.summary.Access.TheVariants.{Frees}
use Rattle.entry_summary.specs.declared.summary.Summary.{Summary}
use Rattle.entry_summary.specs.Accesses.{IsForlopp, IsPlain}
use Rattle.entry_summary.specs.Numbers.{variable_number, field_number}
use Rattle.start_permit.specs.Granted.{Lets, Marks, MayHold, MayRead, MayWrite, OneOf, Selects}
use Rattle.pair_laws.proofs.Naming.{AccessFits, plain_at, forlopp_at, forlopp_placed}

-- a variable that is accessed
pub record VariableLet (x : Exchange) (all : List Access) (write : Bool) (block index : ℕ) : Type 0 where
  pub number : ℕ
  pub there : Contains all (Variable write number)
  pub numbered : number ≡ variable_number x block index

-- a field of a plain file that is accessed in a record that is selected
pub record FieldLet (x : Exchange) (all : List Access) (values : List ℕ) (write : Bool) (file record_number field : ℕ) : Type 0 where
  pub number : ℕ
  pub selector : Value
  pub there : Contains all (Field write number selector)
  pub numbered : number ≡ field_number x file field
  pub selects : Selects values selector record_number
  pub plain : IsPlain x file

-- a record of a forlopp file that may be held
pub record OwnLet (x : Exchange) (all : List Access) (chain : List Held) (chains : ChainMap) (file record_number : ℕ) : Type 0 where
  pub forlopp : IsForlopp x file
  pub held : MayHold all chain chains file record_number

-- a record of a file of which records are seized: to be written it is free
pub record SeizeLet (all : List Access) (chains : ChainMap) (write : Bool) (file record_number : ℕ) : Type 0 where
  pub there : Contains all (Seizes file)
  pub marks : Marks write chains file record_number

-- a record that may be held, of a file of which records are freed
pub record FreeLet (all : List Access) (chain : List Held) (chains : ChainMap) (file record_number : ℕ) : Type 0 where
  pub there : Contains all (Frees file)
  pub held : MayHold all chain chains file record_number

-- why a cell is let to a job, to be written or to be read
abbrev pub CellLet : Exchange → List Access → JobStart → ChainMap → Bool → Cell → Type 0
CellLet x all start chains write (cell.Variable block index) = VariableLet x all write block index
CellLet x all start chains write (cell.Field file number field) =
    FieldLet x all start.job.values write file number field ⊎ OwnLet x all start.chain chains file number
CellLet x all start chains write (cell.Mark file number) =
    SeizeLet all chains write file number ⊎ FreeLet all start.chain chains file number

-- the word is that of a cell that is let
pub record WordLet (x : Exchange) (all : List Access) (start : JobStart) (chains : ChainMap) (write : Bool) (word : ℕ) : Type 0 where
  pub at : Cell
  pub there : IsCell x.blocks at
  pub is : cell_number x.blocks at ≡ word
  pub lets : CellLet x all start chains write at

module _ (x : Exchange) (all : List Access) (start : JobStart) (chains : ChainMap) (write : Bool) (word : ℕ) where
  word_let : (a : Access) → Contains all a → AccessFits x a → Lets x all start chains write a word → WordLet x all start chains write word
  unfolding files_of
  word_let (Variable w n) there fits h =
      let v = h.has in
      record {
        at = cell.Variable v.block v.index;
        there = variable_is_cell x.blocks v.block v.index v.owner v.there v.within;
        is = sym v.is;
        lets = record { number = n; there = subst (λ z. Contains all (Variable z n)) h.does there; numbered = v.numbered };
      }
  word_let (Field w n selector) there fits h =
      let f = h.has in
      let r = f.of_record in
      record {
        at = cell.Field f.file r.number f.field;
        there = field_is_cell x.blocks f.file r.number f.field f.at.placed f.at.there r.below f.at.within;
        is = cell_number-field x.blocks f.file r.number f.field f.at.placed f.at.there ∙ sym r.is;
        lets = inl (record {
          number = n;
          selector = selector;
          there = subst (λ z. Contains all (Field z n selector)) h.does there;
          numbered = f.at.numbered;
          selects = r.chosen;
          plain = plain_at x n f.file f.field fits f.at;
        });
      }
  word_let (Own w n) there fits h =
      let f = h.has in
      let r = f.of_record in
      record {
        at = cell.Field f.file r.number f.field;
        there = field_is_cell x.blocks f.file r.number f.field f.at.placed f.at.there r.below f.at.within;
        is = cell_number-field x.blocks f.file r.number f.field f.at.placed f.at.there ∙ sym r.is;
        lets = inr (record { forlopp = forlopp_at x n f.file f.field fits f.at; held = r.chosen });
      }
  word_let (Seizes file) there fits h =
      let m = h.has in
      let r = m.of_record in
      record {
        at = cell.Mark file r.number;
        there = mark_is_cell x.blocks file r.number m.placed m.there r.below (forlopp_placed x file m.placed fits m.there);
        is = cell_number-mark x.blocks file r.number m.placed m.there ∙ sym r.is;
        lets = inl (record { there = there; marks = r.chosen });
      }
  word_let (Frees file) there fits h =
      let m = h.has in
      let r = m.of_record in
      record {
        at = cell.Mark file r.number;
        there = mark_is_cell x.blocks file r.number m.placed m.there r.below (forlopp_placed x file m.placed fits m.there);
        is = cell_number-mark x.blocks file r.number m.placed m.there ∙ sym r.is;
        lets = inr (record { there = there; held = r.chosen });
      }

-- where each access is of the exchange

abbrev pub AllFit : Exchange → Summary → Type 0
AllFit x s = (a : Access) → Contains s.accesses a → AccessFits x a

one_let : (x : Exchange) (s : Summary) (start : JobStart) (chains : ChainMap) (write : Bool) (word : ℕ) → AllFit x s
    → OneOf (Lets x s.accesses start chains write) s.accesses word → WordLet x s.accesses start chains write word
one_let x s start chains write word fit o = word_let x s.accesses start chains write word o.item o.there (fit o.item o.there) o.gives

pub written : (x : Exchange) (s : Summary) (start : JobStart) (chains : ChainMap) (word : ℕ) → AllFit x s
    → MayWrite x s start chains word → WordLet x s.accesses start chains true word
written x s start chains word fit o = one_let x s start chains true word fit o

-- what may be read is let to be read or to be written
pub record SomeLet (x : Exchange) (all : List Access) (start : JobStart) (chains : ChainMap) (word : ℕ) : Type 0 where
  pub write : Bool
  pub lets : WordLet x all start chains write word

pub read : (x : Exchange) (s : Summary) (start : JobStart) (chains : ChainMap) (word : ℕ) → AllFit x s
    → MayRead x s start chains word → SomeLet x s.accesses start chains word
read x s start chains word fit (inl o) = record { write = false; lets = one_let x s start chains false word fit o }
read x s start chains word fit (inr o) = record { write = true; lets = one_let x s start chains true word fit o }
