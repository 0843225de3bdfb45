-- The stored words that conflicts and tests are about.
use Rattle.std.specs.Prelude.{◌≡◌, ◌⊎◌, ℕ, ◌<◌, true, slice_index}
use Rattle.std.specs.List.{Contains}
use Rattle.job_types.specs.declared.job.JobStart.{JobStart}
use Rattle.job_types.specs.Chain.{holds}
use Rattle.job_types.specs.Forlopps.{ChainMap}
use Rattle.exchange_model.specs.declared.exchange.Exchange.{Exchange}
use Rattle.exchange_model.specs.Cells.{Placed, field_cell, mark_cell}
use Rattle.source_meaning.specs.Deeds.{IsFileAt}
use Rattle.flow_points.specs.declared.fact.Value.{Value}
use Rattle.entry_summary.specs.declared.summary.Access.TheVariants as access
use Rattle.entry_summary.specs.declared.summary.Summary.{Summary}
use Rattle.pair_tests.specs.declared.pair.Conflict.{Conflict}
use Rattle.pair_tests.specs.declared.pair.Conflict.TheVariants as conflict
use Rattle.pair_tests.specs.declared.pair.Test.{Test}
use Rattle.pair_tests.specs.declared.pair.Test.TheVariants as test
use Rattle.pair_tests.specs.Pairs.{IsConflict, IsTest, ShareField, TestHolds}
use Rattle.start_permit.specs.Granted.{IsFieldNumber, IsFree, IsVariableWord, MayRead, MayWrite}
use Rattle.start_permit.specs.Granted.{Selects}

-- one of the two jobs may write the word, and the other one may read it or write it
abbrev pub IsShared : Exchange → Summary → Summary → JobStart → JobStart → ChainMap → ℕ → Type 0
IsShared x first later a b chains w =
    (MayWrite x first a chains w × MayRead x later b chains w)
    ⊎ (MayRead x first a chains w × MayWrite x later b chains w)

-- variables

-- the variable of the number has a word, which any two jobs share
pub record SharesVariable (x : Exchange) (first later : Summary) (number : ℕ) : Type 0 where
  pub word : ℕ
  pub is : IsVariableWord x number word
  pub shared : (a b : JobStart) (chains : ChainMap) → IsShared x first later a b chains word

-- fields

-- both selectors tell the record, in jobs that start so
pub record BothSelect (u v : Value) (a b : JobStart) (number : ℕ) : Type 0 where
  pub by_first : Selects a.job.values u number
  pub by_later : Selects b.job.values v number

-- the field of the number is one of a file, which has records; where both selectors tell a record
-- that is below the size of the file, the two jobs share the word of the field in it
pub record SharesField (x : Exchange) (first later : Summary) (number : ℕ) (u v : Value) : Type
    0 where
  pub file : ℕ
  pub field : ℕ
  pub at : IsFieldNumber x number file field
  pub some : 0 < at.placed.file.size
  pub shared : (a b : JobStart) (chains : ChainMap) (r : ℕ) → r < at.placed.file.size
      → BothSelect u v a b r
      → IsShared x first later a b chains (field_cell at.placed r field)

-- so it is of some field and two selectors, which both tell this record
pub record SharesRecord (x : Exchange) (first later : Summary) (a b : JobStart) (r : ℕ) : Type
    0 where
  pub number : ℕ
  pub by_first : Value
  pub by_later : Value
  pub field : SharesField x first later number by_first by_later
  pub both : BothSelect by_first by_later a b r

-- the record that a test keeps apart is told by this number, in a first job that starts so; other
-- tests than those of fields tell none
abbrev pub TellsRecord : JobStart → Test → ℕ → Type 0
TellsRecord a (test.Differ k l) r = r ≡ slice_index a.job.values k
TellsRecord a (test.FirstNot k c) r = r ≡ c
TellsRecord a (test.LaterNot l c) r = r ≡ c
TellsRecord a _ r = ⊥

-- marks

-- a record that one of the two jobs may seize, and that the other one may seize as well, since it
-- is free, or may give back, since it holds it
pub data IsAtStake (first later : Summary) (a b : JobStart) (chains : ChainMap) (file r : ℕ) : Type
    0 where
  both_seize : Contains first.accesses (access.Seizes file)
      → Contains later.accesses (access.Seizes file)
      → IsFree chains file r → IsAtStake first later a b chains file r
  later_frees : Contains first.accesses (access.Seizes file)
      → Contains later.accesses (access.Frees file)
      → holds b.chain file r ≡ true → IsAtStake first later a b chains file r
  first_frees : Contains first.accesses (access.Frees file)
      → Contains later.accesses (access.Seizes file)
      → holds a.chain file r ≡ true → IsAtStake first later a b chains file r

-- the file has records; of each that is at stake and below its size the two jobs share the mark
pub record SharesMarks (x : Exchange) (first later : Summary) (file : ℕ) : Type 0 where
  pub placed : Placed
  pub there : IsFileAt x file placed
  pub some : 0 < placed.file.size
  pub shared : (a b : JobStart) (chains : ChainMap) (r : ℕ) → r < placed.file.size
      → IsAtStake first later a b chains file r
      → IsShared x first later a b chains (mark_cell placed r)

-- what keeps two jobs apart besides

-- a conflict over a file, or over a level
abbrev pub IsOfNoField : Conflict → Type 0
IsOfNoField (conflict.Seizing file) = Unit {0}
IsOfNoField (conflict.Above level) = Unit {0}
IsOfNoField _ = ⊥

-- a test of a first job that may fault
abbrev pub IsOfFault : Test → Type 0
IsOfFault test.InForlopp = Unit {0}
IsOfFault (test.HoldsNo file) = Unit {0}
IsOfFault _ = ⊥

-- both selectors tell a record that is below the size of the file of the field
pub record SelectBelow (x : Exchange) (number : ℕ) (u v : Value) (a b : JobStart) : Type 0 where
  pub r : ℕ
  pub both : BothSelect u v a b r
  pub below : (file field : ℕ) (at : IsFieldNumber x number file field) → r < at.placed.file.size

-- no conflict over a file or a level keeps the two apart, no test of a fault, and no common
-- forlopp; and where both selectors of a field tell a record at all, they tell one that is there
pub record PassBesides (x : Exchange) (first later : Summary) (a b : JobStart) : Type 0 where
  pub apart : (c : Conflict) → IsOfNoField c → IsConflict first later c → ⊥
  pub tests : (t : Test) → IsOfFault t → IsTest first later t → TestHolds a b t
  pub forlopps : a.job.forlopp ≡ b.job.forlopp → a.job.forlopp ≡ 0
  pub records : (number : ℕ) (u v : Value) (r : ℕ) → ShareField first later number u v
      → BothSelect u v a b r
      → SelectBelow x number u v a b
