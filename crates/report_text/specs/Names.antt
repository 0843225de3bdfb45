-- How a report names what has a number: signals, blocks, points and records by the names of the
-- exchange, and faults by their words. What an exchange does not have is named by no bytes, so that
-- no name asks anything of a number.
use Rattle.std.specs.Prelude.{ℕ, List, [], ◌++◌, codes, slice_get}
use Rattle.std.specs.Option.{option_map_or}
use Rattle.std.specs.Fmt.{decimal}
use Rattle.exchange_model.specs.declared.block.Block.{Block}
use Rattle.exchange_model.specs.declared.block.FilePlace.{FilePlace}
use Rattle.exchange_model.specs.declared.entry.PointInfo.{PointInfo}
use Rattle.exchange_model.specs.declared.exchange.Exchange.{Exchange}
use Rattle.exchange_model.specs.Cells.{Placed, placed_files}
use Rattle.exchange_model.specs.Names.{name_of_block}
use Rattle.job_types.specs.declared.chain.Held.{Held}
use Rattle.job_types.specs.declared.fault.Fault.{Fault}
use Rattle.job_types.specs.declared.fault.Fault.TheVariants.{Pointer, Range, Divide, NotOwn}
use Rattle.job_types.specs.declared.fault.Fault.TheVariants.{NoForlopp, Chain, BadEnd, Depth, Sends}
use Rattle.job_types.specs.declared.fault.Fault.TheVariants.{Budget}

-- the word of a fault
abbrev pub fault_word : Fault → List ℕ
fault_word Pointer = codes "POINTER"
fault_word Range = codes "RANGE"
fault_word Divide = codes "DIVIDE"
fault_word NotOwn = codes "NOTOWN"
fault_word NoForlopp = codes "NOFORLOPP"
fault_word Chain = codes "CHAIN"
fault_word BadEnd = codes "BADEND"
fault_word Depth = codes "DEPTH"
fault_word Sends = codes "SENDS"
fault_word Budget = codes "BUDGET"

-- `BLOCK:line`, where a statement stands
abbrev pub place_name : List Block → PointInfo → List ℕ
place_name blocks p = name_of_block blocks p.block ++ codes ":" ++ decimal p.line

-- the same of the statement of this number
abbrev pub name_of_point : Exchange → ℕ → List ℕ
name_of_point x n = option_map_or (place_name x.blocks) (slice_get x.points n) []

-- a file that was looked up, and where it stands
abbrev pub placed : FilePlace → Placed
placed p = record { block = p.block; file = p.file.now; first = p.first }

-- `BLOCK.FILE(r)`, record r of a file
abbrev pub record_name : List Block → Placed → ℕ → List ℕ
record_name blocks p r =
    name_of_block blocks p.block ++ codes "." ++ p.file.name ++ codes "(" ++ decimal r ++ codes ")"

-- the same of a record that is held
abbrev pub name_of_held : List Block → Held → List ℕ
name_of_held blocks h =
    option_map_or (λ p. record_name blocks p h.number) (slice_get (placed_files blocks) h.file) []
