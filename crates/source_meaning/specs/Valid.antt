-- Which states an exchange can be in, and which starts fit a state.
use Rattle.std.specs.Prelude.{◌≡◌, ℕ, zero, suc, ◌+◌, ◌*◌, ◌<◌, ◌≤◌, ◌^◌, true, false, List, []}
use Rattle.std.specs.Prelude.{◌∷◌, ◌++◌, length, map, Option, Some, slice_get, slice_index}
use Rattle.std.specs.List.{AllByRecursion}
use Rattle.std.specs.Option.{option_map_or}
use Rattle.plex_limits.specs.declared.limits.TheConstants.{MOST_HELD, MOST_SENT}
use Rattle.job_types.specs.Forlopps.{chain_at, is_dead}
use Rattle.plex_num.specs.declared.level.Level.{Level}
use Rattle.plex_num.specs.declared.level.Level.TheVariants.{A, B, C, D}
use Rattle.job_types.specs.declared.chain.Held.{Held}
use Rattle.job_types.specs.declared.job.Job.{Job}
use Rattle.job_types.specs.declared.job.JobStart.{JobStart}
use Rattle.exchange_model.specs.declared.exchange.Exchange.{Exchange}
use Rattle.exchange_model.specs.declared.signal.SignalKind.{SignalKind}
use Rattle.exchange_model.specs.declared.signal.SignalKind.TheVariants.{Outside as OutsideKind}
use Rattle.exchange_model.specs.declared.block.Block.{Block}
use Rattle.exchange_model.specs.declared.block.Variable.{Variable}
use Rattle.exchange_model.specs.declared.entry.Entry.{Entry}
use Rattle.exchange_model.specs.Cells.{Placed, variable_cell, field_cell, mark_cell}
use Rattle.exchange_model.specs.Kept.{signal_count}
use Rattle.job_types.specs.Chain.{holds}
use Rattle.source_meaning.specs.Config.{files_of}
use Rattle.source_meaning.specs.State.{State, Coming, Origin, Bare, Same, Arrived, RunEvent, Out}
use Rattle.source_meaning.specs.State.{Release, Lost, Restart, chain_in}
use Rattle.exchange_model.specs.Names.{level_of}

-- a number of 32 bits
abbrev pub IsWord : ℕ → Type 0
IsWord v = v < 2 ^ 32

-- a record of the file of this number
pub record IsRecordAt (x : Exchange) (file number : ℕ) (p : Placed) : Type 0 where
  pub there : slice_get (files_of x) file ≡ Some p
  pub within : number < p.file.size

-- stored words

-- a word for each cell, and each value fits the width of its variable or field
pub record StoreFits (x : Exchange) (store : List ℕ) : Type 0 where
  pub whole : length store ≡ x.cells
  pub variables : (b v : ℕ) (k : Block) (e : Variable) → slice_get x.blocks b ≡ Some k
      → slice_get k.variables v ≡ Some e → slice_index store (variable_cell x.blocks b v)
      < 2 ^ e.width
  pub fields : (file number field : ℕ) (p : Placed) (e : Variable) → IsRecordAt x file number p
      → slice_get p.file.fields field ≡ Some e
      → slice_index store (field_cell p number field) < 2 ^ e.width

-- chains

-- a record of a forlopp file
pub record IsRecord (x : Exchange) (h : Held) : Type 0 where
  pub placed : Placed
  pub here : IsRecordAt x h.file h.number placed
  pub kind : placed.file.forlopp ≡ true

-- no record stands twice in the chain
abbrev pub IsOnce : List Held → Type 0
IsOnce [] = Unit {0}
IsOnce (h ∷ rest) = (holds rest h.file h.number ≡ false) × IsOnce rest

-- a number that was drawn and is not dead
pub record IsLive (s : State) (forlopp : ℕ) : Type 0 where
  pub drawn : 1 ≤ forlopp
  pub before : forlopp < s.next
  pub alive : is_dead s.dead forlopp ≡ false

abbrev pub HasRecords : List Held → Type 0
HasRecords [] = ⊥
HasRecords (h ∷ rest) = Unit {0}

-- the chain of this number has the record
abbrev pub HoldsRecord : State → ℕ → Held → Type 0
HoldsRecord s n h = holds (chain_at s.chains n) h.file h.number ≡ true

pub record ChainsFit (x : Exchange) (s : State) : Type 0 where
  pub few : (n : ℕ) → length (chain_at s.chains n) ≤ MOST_HELD
  pub records : (n : ℕ) → AllByRecursion (IsRecord x) (chain_at s.chains n)
  pub once : (n : ℕ) → IsOnce (chain_at s.chains n)
  pub apart : (n m : ℕ) (h : Held) → HoldsRecord s n h → HoldsRecord s m h → n ≡ m
  pub live : (n : ℕ) → HasRecords (chain_at s.chains n) → IsLive s n

-- no chain has the record of the file
abbrev pub IsFree : State → ℕ → ℕ → Type 0
IsFree s file number = (n : ℕ) → holds (chain_at s.chains n) file number ≡ false

-- a mark is 1 where the record stands in a chain, and else 0
pub record MarksFit (x : Exchange) (s : State) : Type 0 where
  pub held : (n : ℕ) (h : Held) (p : Placed) → slice_get (files_of x) h.file ≡ Some p
      → HoldsRecord s n h → slice_index s.store (mark_cell p h.number) ≡ 1
  pub free : (file number : ℕ) (p : Placed) → IsRecordAt x file number p → p.file.forlopp ≡ true
      → IsFree s file number → slice_index s.store (mark_cell p number) ≡ 0

-- jobs

abbrev pub entry_count : Exchange → ℕ → ℕ
entry_count x entry = option_map_or (λ (e : Entry). option_map_or signal_count
    (slice_get x.signals e.signal) 0) (slice_get x.entries entry) 0

-- an entry of the exchange, with its level and number of values, which are numbers of 32 bits
pub record IsJob (x : Exchange) (j : Job) : Type 0 where
  pub entry : j.entry < length x.entries
  pub level : j.level ≡ level_of x j.entry
  pub values : length j.values ≡ entry_count x j.entry
  pub words : AllByRecursion IsWord j.values

-- no forlopp, or a live one
abbrev pub MayBe : State → ℕ → Type 0
MayBe s zero = Unit {0}
MayBe s (suc n) = IsLive s (suc n)

pub record WaitsAt (x : Exchange) (s : State) (level : Level) (j : Job) : Type 0 where
  pub job : IsJob x j
  pub here : j.level ≡ level
  pub forlopp : MayBe s j.forlopp

pub record WaitingFits (x : Exchange) (s : State) : Type 0 where
  pub a : AllByRecursion (WaitsAt x s A) s.waiting.a
  pub b : AllByRecursion (WaitsAt x s B) s.waiting.b
  pub c : AllByRecursion (WaitsAt x s C) s.waiting.c
  pub d : AllByRecursion (WaitsAt x s D) s.waiting.d

-- lines

-- an earlier line that has a forlopp
abbrev pub HasOrigin : Origin → Type 0
HasOrigin Bare = ⊥
HasOrigin _ = Unit {0}

abbrev pub NamesEarlier : List Coming → Origin → Type 0
NamesEarlier before (Same line) = (l : Coming) × ((i : ℕ) × (slice_get before i ≡ Some l))
    × (l.number ≡ line) × HasOrigin l.origin
NamesEarlier before _ = Unit {0}

-- a line after these
pub record LineFits (x : Exchange) (before : List Coming) (l : Coming) : Type 0 where
  pub number : AllByRecursion (λ (e : Coming). e.number < l.number) before
  pub after : AllByRecursion (λ (e : Coming). e.after ≤ l.after) before
  pub entry : l.entry < length x.entries
  pub values : length l.values ≡ entry_count x l.entry
  pub words : AllByRecursion IsWord l.values
  pub origin : NamesEarlier before l.origin

-- these lines, after others
abbrev pub LinesFit : Exchange → List Coming → List Coming → Type 0
LinesFit x before [] = Unit {0}
LinesFit x before (l ∷ rest) = LineFits x before l × LinesFit x (before ++ l ∷ []) rest

-- events

abbrev pub IsOutside : Option SignalKind → Type 0
IsOutside (Some (OutsideKind name count)) = Unit {0}
IsOutside _ = ⊥

abbrev pub EventFits : Exchange → RunEvent → Type 0
EventFits x (Out number signal values forlopp) = IsOutside (slice_get x.signals signal)
EventFits x (Release forlopp number f point jobs records) = point < length x.points
EventFits x (Lost line) = Unit {0}
EventFits x (Restart number f point jobs records) = point < length x.points

-- numbers of forlopps

abbrev pub IsPastNumber : State → ℕ → Type 0
IsPastNumber s n = (1 ≤ n) × (n < s.next)

pub record NumbersFit (s : State) : Type 0 where
  pub some : 1 ≤ s.next
  pub dead : (n : ℕ) → is_dead s.dead n ≡ true → IsPastNumber s n
  pub few : s.next ≤ 1 + length s.arrived + MOST_SENT * s.ended
  pub arrived : AllByRecursion (λ (a : Arrived). a.forlopp < s.next) s.arrived

-- a state that an exchange can be in
pub record IsValid (x : Exchange) (s : State) : Type 0 where
  pub store : StoreFits x s.store
  pub chains : ChainsFit x s
  pub marks : MarksFit x s
  pub waiting : WaitingFits x s
  pub numbers : NumbersFit s
  pub lines : LinesFit x [] (map (λ (a : Arrived). a.line) s.arrived ++ s.lines)
  pub events : AllByRecursion (EventFits x) s.events

-- a job that may begin in a state
pub record IsFitting (x : Exchange) (s : State) (start : JobStart) : Type 0 where
  pub job : IsJob x start.job
  pub forlopp : MayBe s start.job.forlopp
  pub chain : start.chain ≡ chain_in s start.job.forlopp
