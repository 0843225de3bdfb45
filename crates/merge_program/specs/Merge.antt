-- The answer of plex-merge: a status and a text for each list of arguments and each set of files.
use Rattle.std.specs.Prelude.{◌≡◌, ℕ, List, [], ◌∷◌, ◌++◌, length, codes, Ok}
use Rattle.plex_io.specs.Files.{Files}
use Rattle.exchange_model.specs.declared.exchange.Exchange.{Exchange}
use Rattle.signal_file.specs.declared.line.Line.{Line}
use Rattle.job_table.specs.Writing.{written_out}
use Rattle.command_words.specs.Words.{Word}
use Rattle.answer_meaning.specs.Outcome.{Out, goes_on}
use Rattle.answer_meaning.specs.Given.{exchange_at, lines_at}
use Rattle.answer_meaning.specs.TimedAnswer.{merged_at}
use Rattle.answer_meaning.specs.Answer.{answer_of}
use Rattle.answer_meaning.specs.Text.{LF}
use Rattle.answer_meaning.specs.declared.answer.Answer.{Answer}
use Rattle.command_words.specs.declared.status.Status.TheVariants as status

-- the usage line
unfoldable pub usage_text : List ℕ
usage_text = codes "usage: plex-merge E S T" ++ LF

abbrev pub usage_answer : Answer
usage_answer = record { status = status.Usage; text = usage_text }

-- the text of a signal file with these lines
abbrev pub lines_answer : Exchange → List Line → Answer
lines_answer x lines = record { status = status.Done; text = written_out x lines }

-- the outcome for these three files: the lines of the signal file and the signals of the table,
-- written as one signal file
abbrev pub merge_of : (exchange signals table : Word) → Files → Out Answer
merge_of e s t files =
    goes_on (exchange_at e files) (λ x.
    goes_on (lines_at x s files) (λ lines.
    goes_on (merged_at x lines t files) (λ all.
    Ok (lines_answer x all))))

-- the answer to three file names
abbrev pub IsAnswerToNames : (exchange signals table : Word) → Files → Answer → Type 0
IsAnswerToNames e s t files a = answer_of (merge_of e s t files) ≡ a

-- the arguments are not three words
abbrev pub AreOthers : List Word → Type 0
AreOthers words = ¬ (length words ≡ 3)

-- the answer to these arguments: for three file names, or the usage line
unfoldable pub IsMergeAnswer : List Word → Files → Answer → Type 0
IsMergeAnswer (e ∷ s ∷ t ∷ []) files a = IsAnswerToNames e s t files a
IsMergeAnswer words files a = usage_answer ≡ a
