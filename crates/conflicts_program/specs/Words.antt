-- The answer of plex-conflicts: a status and a text for each list of arguments and each set of
-- files.
use Rattle.std.specs.Prelude.{◌≡◌, ℕ, Bool, ◌||◌, List, [], ◌∷◌, ◌++◌, codes, Option, Some, None}
use Rattle.std.specs.Prelude.{if◌then◌else◌}
use Rattle.std.specs.Str.{bytes_eq}
use Rattle.plex_io.specs.Files.{Files}
use Rattle.plex_num.specs.Number.{number_of}
use Rattle.exchange_model.specs.declared.exchange.Exchange.{Exchange}
use Rattle.conflicts_meaning.specs.declared.rows.EntryPair.{EntryPair}
use Rattle.conflicts_meaning.specs.Told.{AreConflicts, pair}
use Rattle.additions_text.specs.Additions.{AreAdditions}
use Rattle.command_words.specs.Words.{Word}
use Rattle.answer_meaning.specs.Outcome.{Out}
use Rattle.answer_meaning.specs.ExchangeAnswer.{FromExchange}
use Rattle.answer_meaning.specs.Answer.{answer_of}
use Rattle.answer_meaning.specs.Text.{LF}
use Rattle.answer_meaning.specs.declared.answer.Answer.{Answer}
use Rattle.command_words.specs.declared.status.Status.TheVariants as status

-- the usage line
unfoldable pub usage_text : List ℕ
usage_text = codes "usage: plex-conflicts E [i j]" ++ LF

abbrev pub usage_answer : Answer
usage_answer = record { status = status.Usage; text = usage_text }

-- the conflicts of an exchange, then its additions
pub record TellsAll (x : Exchange) (asked : Option EntryPair) (text : List ℕ) : Type 0 where
  pub conflicts : List ℕ
  pub additions : List ℕ
  pub are_conflicts : AreConflicts x asked conflicts
  pub are_additions : AreAdditions x asked additions
  pub is : text ≡ conflicts ++ additions

pub record AnswersConflicts (asked : Option EntryPair) (x : Exchange) (a : Answer) : Type 0 where
  pub status : a.status ≡ status.Done
  pub told : TellsAll x asked a.text

-- a pair of two numbers, if both arguments are numbers
abbrev pub both_numbers : Option ℕ → Option ℕ → Option EntryPair
both_numbers None j = None
both_numbers (Some i) None = None
both_numbers (Some i) (Some j) = Some (pair i j)

abbrev pub asked_by : Word → Word → Option EntryPair
asked_by first later = both_numbers (number_of first) (number_of later)

-- the request that the arguments make: the name of an exchange text, and a pair or none
pub record Asked : Type 0 where
  pub exchange : Word
  pub pair : Option EntryPair

abbrev pub asked_of_pair : Word → Option EntryPair → Option Asked
asked_of_pair e None = None
asked_of_pair e (Some p) = Some (record { exchange = e; pair = Some p })

-- a single argument that requests help or the version and is no file name
abbrev pub is_own : Word → Bool
is_own w = bytes_eq w (codes "--help") || bytes_eq w (codes "-h") || bytes_eq w (codes "--version")

abbrev pub asked_of_one : Bool → Word → Option Asked
asked_of_one own e = if own then None else Some (record { exchange = e; pair = None })

abbrev pub asked : List Word → Option Asked
asked (e ∷ []) = asked_of_one (is_own e) e
asked (e ∷ i ∷ j ∷ []) = asked_of_pair e (asked_by i j)
asked words = None

-- the arguments are no valid request
abbrev pub AreOthers : List Word → Type 0
AreOthers words = asked words ≡ None

-- the answer to a valid request
pub record IsTold (e : Word) (p : Option EntryPair) (files : Files) (a : Answer) : Type 0 where
  pub outcome : Out Answer
  pub comes : FromExchange e (AnswersConflicts p) files outcome
  pub told : answer_of outcome ≡ a

abbrev pub IsAnswerBy : Option Asked → Files → Answer → Type 0
IsAnswerBy None files a = usage_answer ≡ a
IsAnswerBy (Some w) files a = IsTold w.exchange w.pair files a

-- the answer to these arguments: the report that they request, or the usage line
unfoldable pub IsConflictsAnswer : List Word → Files → Answer → Type 0
IsConflictsAnswer words files a = IsAnswerBy (asked words) files a
