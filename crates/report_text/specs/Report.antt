-- The report of a run, line by line: what left the exchange and what happened to its forlopps, in
-- the order of the events; how many jobs have ended; the value of every variable; every field whose
-- value is not its INIT value; which forlopp holds which records; and how the run ended.
--
-- It is a function of the exchange, of a state of the single run, and of the ending. Variables and
-- fields stand in the order of their stored words, and a word that is not there is read as 0.
use Rattle.std.specs.Prelude.{ℕ, ◌+◌, nat_eq, List, [], ◌∷◌, ◌++◌, codes, flat_map, map}
use Rattle.std.specs.Prelude.{slice_index, if◌then◌else◌}
use Rattle.std.specs.List.{enumerate_from, range_with_len}
use Rattle.std.specs.Fmt.{decimal}
use Rattle.std.specs.FinMap as finite
use Rattle.exchange_model.specs.declared.block.Block.{Block}
use Rattle.exchange_model.specs.declared.block.Variable.{Variable}
use Rattle.exchange_model.specs.declared.exchange.Exchange.{Exchange}
use Rattle.exchange_model.specs.Cells.{Placed, field_cell, first_cell, placed_files}
use Rattle.job_types.specs.declared.chain.Held.{Held}
use Rattle.job_types.specs.declared.fault.Fault.{Fault}
use Rattle.job_types.specs.Forlopps.{ChainMap, chain_at}
use Rattle.source_meaning.specs.SingleRun.{Ending, Finished, Limited, Restarted}
use Rattle.source_meaning.specs.State.{RunEvent, Lost, Out, Release, Restart, State}
use Rattle.run_books.specs.declared.event.Faulty.{Faulty}
use Rattle.report_text.specs.Names.{fault_word, name_of_held, name_of_point, record_name}
use Rattle.exchange_model.specs.Names.{name_of_signal}

-- a line as it is written, with its end
abbrev pub written : List ℕ → List ℕ
written line = line ++ 10 ∷ []

-- lines, one after the other
abbrev pub text_of : List (List ℕ) → List ℕ
text_of lines = flat_map written lines

-- events

-- ` v` for each value
abbrev pub value_words : List ℕ → List ℕ
value_words values = flat_map (λ v. codes " " ++ decimal v) values

-- `OUT j SIG v1 v2 Fn`: job j sent an outside signal in forlopp n
abbrev pub out_line : Exchange → (job signal : ℕ) → List ℕ → ℕ → List ℕ
out_line x job signal values forlopp = codes "OUT " ++ decimal job ++ codes " "
    ++ name_of_signal x.signals signal ++ value_words values ++ codes " F" ++ decimal forlopp

-- ` job j FAULT at BLOCK:line jobs k records r`: the job, its fault, and how many jobs were removed
-- and records freed
abbrev pub fault_words : Exchange → ℕ → Fault → (point jobs records : ℕ) → List ℕ
fault_words x job fault point jobs records =
    codes " job " ++ decimal job ++ codes " " ++ fault_word fault ++ codes " at "
    ++ name_of_point x point ++ codes " jobs " ++ decimal jobs ++ codes " records "
    ++ decimal records

-- the same of a fault as it is told
abbrev pub words_of_fault : Exchange → Faulty → (jobs records : ℕ) → List ℕ
words_of_fault x f jobs records = fault_words x f.job f.fault f.point jobs records

-- the line of an event
abbrev pub event_line : Exchange → RunEvent → List ℕ
event_line x (Out job signal values forlopp) = out_line x job signal values forlopp
event_line x (Release forlopp job fault point jobs records) =
    codes "RELEASE F" ++ decimal forlopp ++ fault_words x job fault point jobs records
event_line x (Lost line) = codes "LOST line " ++ decimal line
event_line x (Restart job fault point jobs records) =
    codes "RESTART" ++ fault_words x job fault point jobs records

-- the line of each event
abbrev pub event_lines : Exchange → List RunEvent → List (List ℕ)
event_lines x events = map (event_line x) events

-- `JOBS n`: so many jobs have ended
abbrev pub jobs_line : ℕ → List ℕ
jobs_line n = codes "JOBS " ++ decimal n

-- variables

-- `.NAME v`
abbrev pub named_value : List ℕ → ℕ → List ℕ
named_value name value = codes "." ++ name ++ codes " " ++ decimal value

-- `VAR BLOCK.NAME v`
abbrev pub variable_line : List ℕ → List ℕ → ℕ → List ℕ
variable_line block name value = codes "VAR " ++ block ++ named_value name value

-- every variable of a block, the first of which has this cell
abbrev pub block_lines : List ℕ → ℕ → Block → List (List ℕ)
block_lines store first b = map (λ (v : ℕ × Variable). variable_line b.name v.1.name
    (slice_index store (first + v.0))) (enumerate_from 0 b.variables)

-- every variable
abbrev pub variable_lines : List Block → List ℕ → List (List ℕ)
variable_lines blocks store = flat_map (λ (b : ℕ × Block). block_lines store (first_cell blocks b.0)
    b.1) (enumerate_from 0 blocks)

-- fields

-- `REC BLOCK.FILE(r).FIELD v`
abbrev pub field_line : List ℕ → List ℕ → ℕ → List ℕ
field_line record_is name value = codes "REC " ++ record_is ++ named_value name value

-- the line of a field, unless it has its INIT value
abbrev pub line_of_field : List ℕ → Variable → ℕ → List (List ℕ)
line_of_field record_is field value =
    (if nat_eq value field.init then [] else field_line record_is field.name value ∷ [])

-- the fields of record r of a file
abbrev pub record_lines : List Block → List ℕ → Placed → ℕ → List (List ℕ)
record_lines blocks store p r = flat_map (λ (f : ℕ × Variable). line_of_field
    (record_name blocks p r) f.1 (slice_index store (field_cell p r f.0)))
    (enumerate_from 0 p.file.fields)

-- the fields of all records of a file
abbrev pub file_lines : List Block → List ℕ → Placed → List (List ℕ)
file_lines blocks store p = flat_map (record_lines blocks store p) (range_with_len 0 p.file.size)

-- the fields of all records
abbrev pub field_lines : List Block → List ℕ → List (List ℕ)
field_lines blocks store = flat_map (file_lines blocks store) (placed_files blocks)

-- forlopps

-- `HELD Fn BLOCK.FILE(r)`
abbrev pub held_line : List Block → ℕ → Held → List ℕ
held_line blocks n h = codes "HELD F" ++ decimal n ++ codes " " ++ name_of_held blocks h

-- the records of forlopp n, in the order of its chain
abbrev pub chain_lines : List Block → ChainMap → ℕ → List (List ℕ)
chain_lines blocks chains n = map (held_line blocks n) (chain_at chains n)

-- the records of all forlopps, by their numbers
abbrev pub held_lines : List Block → ChainMap → List (List ℕ)
held_lines blocks chains = flat_map (chain_lines blocks chains) (finite.keys chains)

-- the whole

abbrev pub end_line : Ending → List ℕ
end_line Finished = codes "END DONE"
end_line Restarted = codes "END RESTART"
end_line Limited = codes "END LIMIT"

abbrev pub report_lines : Exchange → State → Ending → List (List ℕ)
report_lines x s ending =
    event_lines x s.events
    ++ jobs_line s.ended ∷ []
    ++ variable_lines x.blocks s.store
    ++ field_lines x.blocks s.store
    ++ held_lines x.blocks s.chains
    ++ end_line ending ∷ []

-- the text of the report
unfoldable pub report_text : Exchange → State → Ending → List ℕ
report_text x s ending = text_of (report_lines x s ending)
