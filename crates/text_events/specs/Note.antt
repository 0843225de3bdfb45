-- What may stand at a place of a text.
use Rattle.std.specs.Prelude.{ℕ, Bool, List}
use Rattle.text_events.specs.declared.role.Meaning.{Meaning}
use Rattle.text_events.specs.declared.role.Need.{Need}
use Rattle.text_events.specs.declared.role.Role.{Role}

-- to which of several receivers a signal goes: nothing is said of it, a block is named, or a name
-- holds the block
pub data SignalWay : Type 0 where
  Open : SignalWay
  To : (block : List ℕ) → SignalWay
  Held : SignalWay

-- a statement or a label as its neighbours and the rules see it; `count` is that of the names or
-- values after WITH
pub data Head : Type 0 where
  -- the list begins or ends there
  Nothing : Head
  Other : Head
  Enters : (signal : List ℕ) (count : ℕ) → Head
  -- `fresh` says whether NEW FORLOPP stands there
  Sends : (signal : List ℕ) (way : SignalWay) (count : ℕ) (fresh : Bool) → Head
  Retrieves : (signal : List ℕ) (count : ℕ) → Head
  Returns : (signal : List ℕ) (count : ℕ) → Head
  Transfers : (signal : List ℕ) (way : SignalWay) → Head

-- a statement is named by the number of the events before it in its part
pub data Note : Type 0 where
  -- a declaration makes so many signals; a signal or an answer has this name, and carries so many
  -- values
  Signals : (count : ℕ) → Note
  Signal : (name : List ℕ) → Note
  Carries : (count : ℕ) → Note
  -- a block begins, and has this name
  Block : Note
  BlockName : (name : List ℕ) → Note
  -- a declaration takes so many cells; a name is declared; the numbers after WIDTH, after INIT with
  -- its WIDTH, and after SIZE
  Cells : (count : ℕ) → Note
  Declares : (name : List ℕ) (meaning : Meaning) → Note
  Width : (bits : ℕ) → Note
  Init : (value bits : ℕ) → Note
  Size : (records : ℕ) → Note
  -- a line of the survey receives a signal
  Receives : (signal : List ℕ) → Note
  -- a signal is named
  Names : (signal : List ℕ) (role : Role) → Note
  -- a statement begins, between two neighbours in its list
  Begins : (here before after : Head) → Note
  -- a declared name is used, and one is used as an operand of a statement
  Uses : (name : List ℕ) (need : Need) → Note
  Reads : (name : List ℕ) (need : Need) (owner : ℕ) → Note
  -- a number, and a block, that is an operand of a statement
  Counts : (owner : ℕ) → Note
  Refers : (block : List ℕ) (owner : ℕ) → Note
  -- a label to which control may go
  Goes : (label : List ℕ) → Note
  -- the file that FOR FIRST looks through; the field that it looks at, and its file; the file of
  -- SEIZE or FREE
  Searches : (file : List ℕ) → Note
  Compares : (field file : List ℕ) → Note
  Holds : (file : List ℕ) → Note
  -- the number after a WHEN of a CASE
  Chooses : (owner number : ℕ) → Note
  -- the text of a block ends
  Ends : Note

-- what stands at a place, on its line
pub record Event : Type 0 where
  pub line : ℕ
  pub note : Note

-- the statement that begins at a place, and its neighbours
abbrev pub begun : Note → Head
begun (Begins here before after) = here
begun _ = Nothing

abbrev pub before_begun : Note → Head
before_begun (Begins here before after) = before
before_begun _ = Nothing

abbrev pub after_begun : Note → Head
after_begun (Begins here before after) = after
after_begun _ = Nothing
