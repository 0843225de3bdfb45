-- Which words a job may read and write, told from what the jobs of its entry may do, its start, and
-- the chains of all forlopps.
use Rattle.std.specs.Prelude.{◌≡◌, ◌⊎◌, ◌↔◌, ℕ, ◌<◌, Bool, true, false, List, length, Some}
use Rattle.std.specs.Prelude.{slice_get, slice_index}
use Rattle.std.specs.List.{Contains}
use Rattle.job_types.specs.declared.chain.Held.{Held}
use Rattle.job_types.specs.declared.job.JobStart.{JobStart}
use Rattle.job_types.specs.Chain.{holds}
use Rattle.job_types.specs.Forlopps.{ChainMap, chain_at}
use Rattle.exchange_model.specs.declared.exchange.Exchange.{Exchange}
use Rattle.exchange_model.specs.declared.block.Block.{Block}
use Rattle.exchange_model.specs.Cells.{Placed, variable_cell, field_cell}
use Rattle.source_meaning.specs.Deeds.{IsFileAt}
use Rattle.flow_points.specs.declared.fact.Value.{Value}
use Rattle.flow_points.specs.declared.fact.Value.TheVariants.{Arg, Const, Any}
use Rattle.entry_summary.specs.declared.summary.Access.{Access}
use Rattle.entry_summary.specs.declared.summary.Access.TheVariants.{Variable, Field, Own, Seizes}
use Rattle.entry_summary.specs.declared.summary.Access.TheVariants.{Frees}
use Rattle.entry_summary.specs.declared.summary.Summary.{Summary}
use Rattle.entry_summary.specs.Numbers.{variable_number, field_number}
use Rattle.store_layout.specs.Laid.{IsLayout}
use Rattle.start_permit.specs.declared.granting.Grounds.{Grounds}
use Rattle.start_permit.specs.declared.table.CellTable.{CellTable}
use Rattle.start_permit.specs.declared.table.FieldPlace.{FieldPlace}

-- variables, fields and marks, and their words

-- the word of the variable of this number through the exchange
pub record IsVariableWord (x : Exchange) (number word : ℕ) : Type 0 where
  pub block : ℕ
  pub index : ℕ
  pub owner : Block
  pub there : slice_get x.blocks block ≡ Some owner
  pub within : index < length owner.variables
  pub numbered : number ≡ variable_number x block index
  pub is : word ≡ variable_cell x.blocks block index

-- the field of this number through the exchange is this field of this file
pub record IsFieldNumber (x : Exchange) (number file field : ℕ) : Type 0 where
  pub placed : Placed
  pub there : IsFileAt x file placed
  pub within : field < length placed.file.fields
  pub numbered : number ≡ field_number x file field

-- the word at a place of a record that is chosen
pub record IsOfRecord (p : Placed) (place : ℕ) (Chosen : ℕ → Type 0) (word : ℕ) : Type 0 where
  pub number : ℕ
  pub below : number < p.file.size
  pub chosen : Chosen number
  pub is : word ≡ field_cell p number place

-- the word of a field of a record of its file that is chosen
pub record IsOfField (x : Exchange) (number : ℕ) (Chosen : ℕ → ℕ → Type 0) (word : ℕ) : Type 0 where
  pub file : ℕ
  pub field : ℕ
  pub at : IsFieldNumber x number file field
  pub of_record : IsOfRecord at.placed field (Chosen file) word

-- the word of the mark of a record of the file that is chosen: marks stand behind the fields
pub record IsOfMark (x : Exchange) (file : ℕ) (Chosen : ℕ → Type 0) (word : ℕ) : Type 0 where
  pub placed : Placed
  pub there : IsFileAt x file placed
  pub of_record : IsOfRecord placed (length placed.file.fields) Chosen word

-- records

-- one of these items gives the number
pub record OneOf {X : Type 0} (G : X → ℕ → Type 0) (items : List X) (n : ℕ) : Type 0 where
  pub item : X
  pub there : Contains items item
  pub gives : G item n

-- the record that a selector tells, in a job with these values
abbrev pub Selects : List ℕ → Value → ℕ → Type 0
Selects values (Arg k) number = number ≡ slice_index values k
Selects values (Const c) number = number ≡ c
Selects values Any number = Unit {0}

-- a free record stands in no chain
abbrev pub IsFree : ChainMap → ℕ → ℕ → Type 0
IsFree chains file number = (n : ℕ) → holds (chain_at chains n) file number ≡ false

-- a record that the job may hold: it stands in its chain, or is free and of a file that it may
-- seize
abbrev pub MayHold : List Access → List Held → ChainMap → ℕ → ℕ → Type 0
MayHold accesses chain chains file number =
    (holds chain file number ≡ true) ⊎ (Contains accesses (Seizes file) × IsFree chains file number)

-- the marks that a SEIZE may write, and those that it may read
abbrev pub Marks : Bool → ChainMap → ℕ → ℕ → Type 0
Marks true chains file number = IsFree chains file number
Marks false chains file number = Unit {0}

-- permits

-- the access writes, or it reads: SEIZE does both
abbrev pub Does : Bool → Access → Type 0
Does write (Variable writes number) = writes ≡ write
Does write (Field writes number selector) = writes ≡ write
Does write (Own writes number) = writes ≡ write
Does write (Seizes file) = Unit {0}
Does write (Frees file) = true ≡ write

-- the words that an access writes, or reads
abbrev pub HasWord : Exchange → List Access → JobStart → ChainMap → Bool → Access → ℕ → Type 0
HasWord x accesses start chains write (Variable writes number) word = IsVariableWord x number word
HasWord x accesses start chains write (Field writes number selector) word =
    IsOfField x number (λ file. Selects start.job.values selector) word
HasWord x accesses start chains write (Own writes number) word =
    IsOfField x number (MayHold accesses start.chain chains) word
HasWord x accesses start chains write (Seizes file) word =
    IsOfMark x file (Marks write chains file) word
HasWord x accesses start chains write (Frees file) word =
    IsOfMark x file (MayHold accesses start.chain chains file) word

-- an access, one of all these, lets a job write the word, or read it
pub record Lets (x : Exchange) (all : List Access) (start : JobStart) (chains : ChainMap)
    (write : Bool) (access : Access) (word : ℕ) : Type 0 where
  pub does : Does write access
  pub has : HasWord x all start chains write access word

-- the job may write the word
abbrev pub MayWrite : Exchange → Summary → JobStart → ChainMap → ℕ → Type 0
MayWrite x s start chains word = OneOf (Lets x s.accesses start chains true) s.accesses word

-- the job may read the word: it may read what it may write
abbrev pub MayRead : Exchange → Summary → JobStart → ChainMap → ℕ → Type 0
MayRead x s start chains word =
    OneOf (Lets x s.accesses start chains false) s.accesses word ⊎ MayWrite x s start chains word

-- where the variables and fields of an exchange stand, by their numbers
pub record IsCellTable (x : Exchange) (t : CellTable) : Type 0 where
  pub variables : (number word : ℕ) → (slice_get t.variables number ≡ Some word)
      ↔ IsVariableWord x number word
  pub fields : (number : ℕ) (f : FieldPlace) → (slice_get t.fields number ≡ Some f)
      ↔ IsFieldNumber x number f.file f.field

-- the layout and the table are those of the exchange
pub record AreGrounds (g : Grounds) : Type 0 where
  pub layout : IsLayout g.exchange.now.blocks g.layout.now
  pub table : IsCellTable g.exchange.now g.table.now
