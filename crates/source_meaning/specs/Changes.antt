-- What a step may change of a job: it goes on with a value or a record, fails, gives a temporary or
-- a cell a value, takes or gives back a record, sends, asks, returns.
--
-- Of a record, POINTER is looked for before NOTOWN, and RANGE after both.
use Rattle.std.specs.Prelude.{ℕ, ◌+◌, ◌^◌, Bool, nat_lt, nat_eq, List, [], ◌∷◌, ◌++◌, length, map}
use Rattle.std.specs.Prelude.{position, slice_get, slice_index, slice_set, Option, Some, None}
use Rattle.std.specs.Prelude.{if◌then◌else◌}
use Rattle.std.specs.List.{range_with_len}
use Rattle.std.specs.Option.{option_map_or}
use Rattle.plex_limits.specs.declared.limits.TheConstants.{MOST_CALLERS, MOST_HELD, MOST_SENT}
use Rattle.job_types.specs.declared.fault.Fault.{Fault}
use Rattle.job_types.specs.declared.fault.Fault.TheVariants as fault
use Rattle.job_types.specs.declared.outbox.SendTo.{SendTo}
use Rattle.job_types.specs.declared.outbox.SendTo.TheVariants as sent_to
use Rattle.job_types.specs.declared.outcome.Outcome.TheVariants.{Ended, Faulted}
use Rattle.job_types.specs.declared.touch.Touch.{Touch}
use Rattle.exchange_model.specs.declared.exchange.Exchange.{Exchange}
use Rattle.exchange_model.specs.declared.signal.SignalKind.{SignalKind}
use Rattle.exchange_model.specs.declared.signal.SignalKind.TheVariants.{Buffered, Direct, Combined}
use Rattle.exchange_model.specs.declared.signal.SignalKind.TheVariants.{Outside}
use Rattle.exchange_model.specs.declared.block.Block.{Block}
use Rattle.exchange_model.specs.declared.block.Variable.{Variable}
use Rattle.exchange_model.specs.declared.expr.Expr.{Expr}
use Rattle.exchange_model.specs.declared.expr.Rel.{Rel}
use Rattle.exchange_model.specs.declared.stmt.Receiver.{Receiver}
use Rattle.exchange_model.specs.declared.stmt.Receiver.TheVariants as receiver
use Rattle.exchange_model.specs.declared.stmt.Stmt.{Stmt}
use Rattle.exchange_model.specs.declared.stmt.When.{When, out-When}
use Rattle.exchange_model.specs.Cells.{Placed, field_cell, mark_cell}
use Rattle.exchange_model.specs.Kept.{signal_count}
use Rattle.job_types.specs.Own.{World, seen, writes, eight}
use Rattle.job_types.specs.Chain.{without}
use Rattle.source_meaning.specs.Value.{Got, Gives, Fails, expr_value, holder_value, stands}
use Rattle.source_meaning.specs.Value.{pointer_fault, load_of}
use Rattle.source_meaning.specs.Config.{Item, Caller, Config, label_of, from_place, from_signal}
use Rattle.source_meaning.specs.Config.{entry_number, receiver_of, sight, blank}

-- ends

-- the job ends by a fault at the point of its statement
abbrev pub fails : Fault → Config → Config
fails f c = record c { over = Some (Faulted f c.own.point) }

-- the job ends, unless a caller waits
abbrev pub ends : List Caller → Config → Config
ends [] c = record c { over = Some Ended }
ends (k ∷ ks) c = fails fault.BadEnd c

-- values

-- goes on with a value, after its loads
abbrev pub on_value : Got → Config → (ℕ → Config → Config) → Config
on_value (Gives loads v) c go = go v (record c { world = seen loads c.world })
on_value (Fails loads f) c go = fails f (record c { world = seen loads c.world })

-- goes on with values, from left to right
abbrev pub on_values : Exchange → List Expr → List ℕ → Config → (List ℕ → Config → Config) → Config
on_values x [] vs c go = go vs c
on_values x (e ∷ es) vs c go =
    on_value (expr_value e (sight x c)) c (λ v d. on_values x es (vs ++ v ∷ []) d go)

-- goes on unless there is a fault
abbrev pub unless_fault : Option Fault → Config → (Config → Config) → Config
unless_fault None c go = go c
unless_fault (Some f) c go = fails f c

-- goes on where the value fits so many bits
abbrev pub where_fits : ℕ → ℕ → Config → (Config → Config) → Config
where_fits v width c go = (if nat_lt v (2 ^ width) then go c else fails fault.Range c)

-- small changes

abbrev pub goes : List Item → Config → Config
goes todo c = record c { todo = todo }

abbrev pub to_label : Exchange → ℕ → Config → Config
to_label x l c = goes (from_place x c.block (label_of x c.block l)) c

abbrev pub sets_temp : ℕ → ℕ → Config → Config
sets_temp t v c = record c { temps = slice_set c.temps t v }

abbrev pub sets_cell : ℕ → ℕ → Config → Config
sets_cell cell v c = record c { world = writes cell v c.world }

-- the temporaries get the values from the k-th on, which are 0 past the end
abbrev pub takes : ℕ → List ℕ → List ℕ → List ℕ → List ℕ
takes k [] values temps = temps
takes k (t ∷ ts) values temps = takes (k + 1) ts values (slice_set temps t (slice_index values k))

-- stored data

abbrev pub variable_width : Exchange → ℕ → ℕ → ℕ
variable_width x b v = option_map_or (λ (k : Block). option_map_or (λ (e : Variable). e.width)
    (slice_get k.variables v) 0) (slice_get x.blocks b) 0

abbrev pub field_width : Placed → ℕ → ℕ
field_width p field = option_map_or (λ (e : Variable). e.width) (slice_get p.file.fields field) 0

-- goes on with a record of a file, unless the job may not use it
abbrev pub at_record : Option Placed → ℕ → ℕ → Config → (Placed → Config → Config) → Config
at_record None file number c go = c
at_record (Some p) file number c go =
    unless_fault (pointer_fault c.own.chain file p number) c (go p)

-- a field of a record gets a value that fits
abbrev pub sets_field : ℕ → ℕ → ℕ → Placed → Config → Config
sets_field number field v p c =
    where_fits v (field_width p field) c (sets_cell (field_cell p number field) v)

-- searches: the records of a file are looked at from 0 on, up to the one that is found, or all

-- the least record, of so many, at which the test holds
abbrev pub least_record : (ℕ → Bool) → ℕ → Option ℕ
least_record test size = position test (range_with_len 0 size)

-- how many records were looked at
abbrev pub looked_at : Option ℕ → ℕ → ℕ
looked_at None size = size
looked_at (Some number) size = number + 1

-- the loads of one cell in each of the first so many records
abbrev pub record_loads : (ℕ → ℕ) → ℕ → List ℕ → List Touch
record_loads cell_of count store =
    map (λ number. load_of store (cell_of number)) (range_with_len 0 count)

-- goes on with the record that was found, or without one, after the loads
abbrev pub on_record : (ℕ → ℕ) → (ℕ → Bool) → ℕ → Config → (Option ℕ → Config → Config) → Config
on_record cell_of test size c go =
    let number = least_record (λ n. test (slice_index c.world.store (cell_of n))) size in
    go number (record c {
      world = seen (record_loads cell_of (looked_at number size) c.world.store)
          c.world;
    })

-- to the label with the record in the temporary, or on where there is none
abbrev pub at_found : Exchange → ℕ → ℕ → List Item → Option ℕ → Config → Config
at_found x temp label rest None c = goes rest c
at_found x temp label rest (Some number) c = to_label x label (sets_temp temp number c)

abbrev pub for_first : Exchange → Option Placed → ℕ → ℕ → Rel → ℕ → ℕ → List Item → Config → Config
for_first x None temp field rel v label rest c = goes rest c
for_first x (Some p) temp field rel v label rest c =
    on_record (λ n. field_cell p n field) (λ w. stands rel w v) p.file.size c
    (at_found x temp label rest)

-- records of a forlopp

-- the chain has one record more
abbrev pub with_record : ℕ → ℕ → Config → Config
with_record file number c = record c {
  own = record c.own
      { chain = c.own.chain ++ record { file = file; number = number } ∷ [] };
}

-- unless the chain is full, the record joins it and is marked, and the temporary gets its number
abbrev pub joins_chain : Placed → ℕ → ℕ → ℕ → List Item → Config → Config
joins_chain p file temp number rest c =
    (if nat_lt (length c.own.chain) MOST_HELD
    then goes rest (sets_temp temp number (sets_cell (mark_cell p number) 1
    (with_record file number c)))
    else fails fault.Chain c)

-- the free record joins the chain, or to the label where there is none
abbrev pub at_free : Exchange → Placed → ℕ → ℕ → ℕ → List Item → Option ℕ → Config → Config
at_free x p file temp label rest None c = to_label x label c
at_free x p file temp label rest (Some number) c = joins_chain p file temp number rest c

abbrev pub seizes : Exchange → Option Placed → ℕ → ℕ → ℕ → List Item → Config → Config
seizes x None file temp label rest c = goes rest c
seizes x (Some p) file temp label rest c =
    (if nat_eq c.own.forlopp 0 then fails fault.NoForlopp c
    else on_record (mark_cell p) (λ mark. nat_eq mark 0) p.file.size c
    (at_free x p file temp label rest))

-- the fields of a record, from this one on, get their INIT values
abbrev pub opens_fields : Placed → ℕ → ℕ → List Variable → World → World
opens_fields p number field [] w = w
opens_fields p number field (v ∷ rest) w =
    opens_fields p number (field + 1) rest (writes (field_cell p number field) v.init w)

-- a record gets its INIT values, and is marked free
abbrev pub opens_record : Placed → ℕ → World → World
opens_record p number w = writes (mark_cell p number) 0 (opens_fields p number 0 p.file.fields w)

-- a record is opened and leaves the chain
abbrev pub frees : ℕ → ℕ → Placed → Config → Config
frees file number p c = record c {
  world = opens_record p number c.world;
  own = record c.own { chain = without c.own.chain file number };
}

-- signals

-- an activation in a block, with its entry values
abbrev pub activates : Exchange → ℕ → ℕ → List ℕ → Config → Config
activates x b signal vs c = record c {
  block = b;
  todo = from_signal x b signal;
  temps = blank;
  own = record c.own { given = eight vs };
}

-- the sender waits, unless eight do
abbrev pub asks : Exchange → ℕ → ℕ → ℕ → List Item → List ℕ → Config → Config
asks x b signal answer rest vs c =
    (if nat_lt (length c.callers) MOST_CALLERS
    then activates x b signal vs (record c {
      callers = record
          { block = c.block; todo = rest; temps = c.temps; given = c.own.given; awaits = answer }
          ∷ c.callers;
    })
    else fails fault.Depth c)

-- a signal joins the outbox, unless that is full
abbrev pub posts : SendTo → List Item → List ℕ → Config → Config
posts to rest vs c =
    (if nat_lt (length c.own.sends) MOST_SENT
    then goes rest (record c {
      own = record c.own
          { sends = c.own.sends ++ record { to = to; values = vs } ∷ [] };
    })
    else fails fault.Sends c)

-- a signal is sent to a block, by its kind
abbrev pub sends : Exchange → Option SignalKind → ℕ → ℕ → Bool → List Item → List ℕ → Config
    → Config
sends x (Some (Buffered name level count)) signal b fresh rest vs c =
    posts (sent_to.Queue (entry_number x b signal) level fresh) rest vs c
sends x (Some (Direct name count)) signal b fresh rest vs c = activates x b signal vs c
sends x (Some (Combined name count answer)) signal b fresh rest vs c =
    asks x b signal answer rest vs c
sends x (Some (Outside name count)) signal b fresh rest vs c =
    posts (sent_to.Outside signal) rest vs c
sends x _ signal b fresh rest vs c = goes rest c

-- back to the caller that waits for this answer
abbrev pub returns : List Caller → ℕ → List ℕ → Config → Config
returns [] answer vs c = fails fault.BadEnd c
returns (k ∷ ks) answer vs c =
    (if nat_eq k.awaits answer
    then record c {
      block = k.block;
      todo = k.todo;
      temps = k.temps;
      callers = ks;
      own = record c.own { given = k.given; answers = eight vs };
    }
    else fails fault.BadEnd c)

-- how many values a signal has
abbrev pub value_count : Exchange → ℕ → ℕ
value_count x signal = option_map_or signal_count (slice_get x.signals signal) 0

-- goes on with the block that a reference names, where that receives the signal
abbrev pub at_receiver : Option ℕ → Config → (ℕ → Config → Config) → Config
at_receiver None c go = fails fault.Pointer c
at_receiver (Some b) c go = go b c

-- goes on with the receiver of a signal; that of an outside signal, which has none, is not looked
-- at
abbrev pub to_receiver : Exchange → ℕ → Option Receiver → Config → (ℕ → Config → Config) → Config
to_receiver x signal None c go = go 0 c
to_receiver x signal (Some (receiver.Block b)) c go = go b c
to_receiver x signal (Some (receiver.Held h)) c go =
    on_value (holder_value h (sight x c)) c (λ v d. at_receiver (receiver_of x signal v) d go)

-- the choice of the number, or else the other one
abbrev pub chosen : List When → ℕ → List Stmt → List Stmt
chosen [] v otherwise = otherwise
chosen (w ∷ rest) v otherwise =
    (if nat_eq (out-When w).number v then (out-When w).body else chosen rest v otherwise)
