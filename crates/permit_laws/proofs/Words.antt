-- The words of variables, fields and marks, and what one access of a summary lets a job do.
use Rattle.std.proofs.Common.{◌≡◌, ℕ, ◌+◌, ◌<◌, Bool, List, length, Some, refl, slice_get}
use Rattle.std.specs.List.{Contains}
use Rattle.job_types.specs.declared.job.JobStart.{JobStart}
use Rattle.job_types.specs.Forlopps.{ChainMap}
use Rattle.exchange_model.specs.declared.exchange.Exchange.{Exchange}
use Rattle.exchange_model.specs.declared.block.Block.{Block}
use Rattle.exchange_model.specs.Cells.{Placed, field_cell, mark_cell}
use Rattle.source_meaning.specs.Config.{base_of}
use Rattle.source_meaning.specs.Deeds.{IsRecordOf}
use Rattle.flow_points.specs.declared.fact.Value.{Value}
use Rattle.flow_points.specs.declared.fact.Value.TheVariants.{Arg, Const, Any}
use Rattle.entry_summary.specs.declared.summary.Access.{Access}
use Rattle.entry_summary.specs.declared.summary.Summary.{Summary}
use Rattle.entry_summary.specs.Numbers.{variable_number, field_number}
use Rattle.start_permit.specs.Granted.{OneOf, IsVariableWord, IsOfField, IsOfMark, Selects, Does}
use Rattle.start_permit.specs.Granted.{HasWord, Lets}
use Rattle.fact_laws.specs.Covers.{StandsFor}

-- the record for which a value stands is the one that it selects
pub selects : (values : List ℕ) (v : Value) (number : ℕ) → StandsFor values v number → Selects values v number
selects values (Arg k) number h = h
selects values (Const c) number h = h
selects values Any number h = tt

module _ (x : Exchange) where
  pub variable_word : (b v : ℕ) (k : Block) → slice_get x.blocks b ≡ Some k → v < length k.variables
      → IsVariableWord x (variable_number x b v) (base_of x b + v)
  unfolding base_of
  variable_word b v k there lt = record { block = b; index = v; owner = k; there = there; within = lt; numbered = refl; is = refl }

  pub field_word : (Chosen : ℕ → ℕ → Type 0) (file number field : ℕ) (p : Placed) → IsRecordOf x file number p
      → field < length p.file.fields → Chosen file number
      → IsOfField x (field_number x file field) Chosen (field_cell p number field)
  field_word Chosen file number field p at lt chosen = record {
    file = file;
    field = field;
    at = record { placed = p; there = at.there; within = lt; numbered = refl };
    of_record = record { number = number; below = at.within; chosen = chosen; is = refl };
  }

  pub mark_word : (Chosen : ℕ → Type 0) (file number : ℕ) (p : Placed) → IsRecordOf x file number p → Chosen number
      → IsOfMark x file Chosen (mark_cell p number)
  mark_word Chosen file number p at chosen = record {
    placed = p;
    there = at.there;
    of_record = record
        { number = number; below = at.within; chosen = chosen; is = refl };
  }

  module _ (m : Summary) (start : JobStart) (chains : ChainMap) (write : Bool) where
    -- some access of the summary lets the job write the word, or read it
    abbrev pub MayTouch : ℕ → Type 0
    MayTouch w = OneOf (Lets x m.accesses start chains write) m.accesses w

    pub lets : (a : Access) (w : ℕ) → Contains m.accesses a → Does write a → HasWord x m.accesses start chains write a w → MayTouch w
    lets a w there does has = record { item = a; there = there; gives = record { does = does; has = has } }
