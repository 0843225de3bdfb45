-- Events in few bytes: an event is a row of numbers, the first of which tells its kind and how many
-- values or which fault it has. A number is its digits to the base 128, the lowest first, each but
-- the last with 128 added.
use Rattle.std.specs.Prelude.{◌≡◌, ℕ, zero, suc, ◌+◌, ◌-◌, ◌*◌, ◌/◌, ◌%◌, ◌<◌, ◌≤◌, ◌^◌, nat_lt}
use Rattle.std.specs.Prelude.{min, List, [], ◌∷◌, flat_map, length, slice_get, unwrap_or, Option}
use Rattle.std.specs.Prelude.{MatchOption, if◌then◌else◌}
use Rattle.std.specs.List.{AllByRecursion}
use Rattle.plex_limits.specs.declared.limits.TheConstants.{MOST_VALUES}
use Rattle.job_types.specs.declared.fault.Fault.{Fault}
use Rattle.job_types.specs.declared.fault.Fault.TheVariants.{Pointer, Range, Divide, NotOwn}
use Rattle.job_types.specs.declared.fault.Fault.TheVariants.{NoForlopp, Chain, BadEnd, Depth, Sends}
use Rattle.job_types.specs.declared.fault.Fault.TheVariants.{Budget}
use Rattle.source_meaning.specs.State.{RunEvent, Out, Release, Lost, Restart}

-- the digits of a number, of which more than so many others never follow the first one
unfoldable pub digits : ℕ → ℕ → List ℕ
digits zero n = n ∷ []
digits (suc more) n = (if nat_lt n 128 then n ∷ [] else (n % 128 + 128) ∷ digits more (n / 128))

unfoldable pub number_bytes : ℕ → List ℕ
number_bytes n = digits n n

-- the number of a fault
abbrev pub fault_number : Fault → ℕ
fault_number Pointer = 0
fault_number Range = 1
fault_number Divide = 2
fault_number NotOwn = 3
fault_number NoForlopp = 4
fault_number Chain = 5
fault_number BadEnd = 6
fault_number Depth = 7
fault_number Sends = 8
fault_number Budget = 9

-- the numbers of an event
abbrev pub event_numbers : RunEvent → List ℕ
event_numbers (Out job signal values forlopp) = 4 * length values ∷ job ∷ signal ∷ forlopp ∷ values
event_numbers (Release forlopp job fault point jobs records) =
    (4 * fault_number fault + 1) ∷ forlopp ∷ job ∷ point ∷ jobs ∷ records ∷ []
event_numbers (Lost line) = 2 ∷ line ∷ []
event_numbers (Restart job fault point jobs records) =
    (4 * fault_number fault + 3) ∷ job ∷ point ∷ jobs ∷ records ∷ []

abbrev pub event_bytes : RunEvent → List ℕ
event_bytes e = flat_map number_bytes (event_numbers e)

-- what is read from bytes: the number that stands first, and what comes behind it
unfoldable pub number_at : List ℕ → ℕ
number_at [] = 0
number_at (b ∷ rest) = (if nat_lt b 128 then b else b - 128 + 128 * number_at rest)

unfoldable pub after_number : List ℕ → List ℕ
after_number [] = []
after_number (b ∷ rest) = (if nat_lt b 128 then rest else after_number rest)

-- the same number, as one of 64 bits and as one of 32
abbrev pub long_at : List ℕ → ℕ
long_at bytes = number_at bytes % 2 ^ 64

abbrev pub word_at : List ℕ → ℕ
word_at bytes = number_at bytes % 2 ^ 32

-- so many numbers of 32 bits, and what comes behind them
unfoldable pub words_at : ℕ → List ℕ → List ℕ
words_at zero bytes = []
words_at (suc more) bytes = word_at bytes ∷ words_at more (after_number bytes)

unfoldable pub after_words : ℕ → List ℕ → List ℕ
after_words zero bytes = bytes
after_words (suc more) bytes = after_words more (after_number bytes)

-- the fault of a number
abbrev pub fault_of : ℕ → Fault
fault_of n = unwrap_or (slice_get (Pointer ∷ Range ∷ Divide ∷ NotOwn ∷ NoForlopp ∷ Chain ∷ BadEnd
    ∷ Depth ∷ Sends ∷ Budget ∷ []) n) Budget

-- the event of this kind, with so many values or this fault, whose other numbers stand first
abbrev pub event_of_kind : ℕ → ℕ → List ℕ → RunEvent
event_of_kind zero more bytes =
    let second = after_number bytes in
    let third = after_number second in
    Out (long_at bytes) (word_at second) (words_at (min more MOST_VALUES) (after_number third))
    (long_at third)
event_of_kind (suc zero) more bytes =
    let second = after_number bytes in
    let third = after_number second in
    let fourth = after_number third in
    Release (long_at bytes) (long_at second) (fault_of more) (word_at third) (long_at fourth)
    (word_at (after_number fourth))
event_of_kind (suc (suc zero)) more bytes = Lost (word_at bytes)
event_of_kind (suc (suc (suc _))) more bytes =
    let second = after_number bytes in
    let third = after_number second in
    Restart (long_at bytes) (fault_of more) (word_at second) (long_at third)
    (word_at (after_number third))

-- what comes behind it
abbrev pub after_kind : ℕ → ℕ → List ℕ → List ℕ
after_kind zero more bytes =
    after_words (min more MOST_VALUES) (after_number (after_number (after_number bytes)))
after_kind (suc zero) more bytes =
    after_number (after_number (after_number (after_number (after_number bytes))))
after_kind (suc (suc zero)) more bytes = after_number bytes
after_kind (suc (suc (suc _))) more bytes =
    after_number (after_number (after_number (after_number bytes)))

-- the event that stands first, and what comes behind it
unfoldable pub first_event : List ℕ → RunEvent
first_event bytes = event_of_kind (long_at bytes % 4) (long_at bytes / 4) (after_number bytes)

unfoldable pub after_event : List ℕ → List ℕ
after_event bytes = after_kind (long_at bytes % 4) (long_at bytes / 4) (after_number bytes)

-- the events that these bytes tell, but no more than so many
unfoldable pub events_in : ℕ → List ℕ → List RunEvent
events_in zero bytes = []
events_in (suc most) [] = []
events_in (suc most) (b ∷ bytes) =
    first_event (b ∷ bytes) ∷ events_in most (after_event (b ∷ bytes))

-- the events that these bytes tell: an event takes a byte or more
unfoldable pub told : List ℕ → List RunEvent
told bytes = events_in (length bytes) bytes

-- the first of these bytes has been taken, if there is one, and the others are left
abbrev pub TakesFirst : Option ℕ → List ℕ → List ℕ → Type 0
TakesFirst taken bytes rest = MatchOption taken ((bytes ≡ []) × (rest ≡ [])) (λ b. bytes ≡ b ∷ rest)

-- the numbers of an event have the width of those that are read
abbrev pub IsNarrow : RunEvent → Type 0
IsNarrow (Out job signal values forlopp) = (job < 2 ^ 64) × (signal < 2 ^ 32)
    × (length values ≤ MOST_VALUES) × AllByRecursion (λ (v : ℕ). v < 2 ^ 32) values
    × (forlopp < 2 ^ 64)
IsNarrow (Release forlopp job fault point jobs records) =
    (forlopp < 2 ^ 64) × (job < 2 ^ 64) × (point < 2 ^ 32) × (jobs < 2 ^ 64) × (records < 2 ^ 32)
IsNarrow (Lost line) = line < 2 ^ 32
IsNarrow (Restart job fault point jobs records) =
    (job < 2 ^ 64) × (point < 2 ^ 32) × (jobs < 2 ^ 64) × (records < 2 ^ 32)

-- these bytes are those of these events, one after the other
pub record AreBytesOf (bytes : List ℕ) (es : List RunEvent) : Type 0 where
  pub are : bytes ≡ flat_map event_bytes es
  pub narrow : AllByRecursion IsNarrow es
