-- The answer of the program: a status and a text for each list of arguments and each set of files.
use Rattle.std.specs.Prelude.{◌≡◌, List, Option, Some, None, Ok, Err}
use Rattle.plex_io.specs.Files.{Files}
use Rattle.answer_meaning.specs.Text.{usage_text}
use Rattle.command_words.specs.Words.{Word, shape}
use Rattle.command_words.specs.declared.command.Command.{Command}
use Rattle.command_words.specs.declared.command.Command.TheVariants.{Run, Single, Analyse, Certify}
use Rattle.command_words.specs.declared.command.Command.TheVariants.{List as Listing, Load, Timed}
use Rattle.command_words.specs.declared.command.Command.TheVariants.{Change, Trace}
use Rattle.answer_meaning.specs.declared.answer.Answer.{Answer}
use Rattle.command_words.specs.declared.status.Status.TheVariants as status
use Rattle.answer_meaning.specs.Outcome.{Out}
use Rattle.answer_meaning.specs.RunAnswer.{RunComes, run_of}
use Rattle.answer_meaning.specs.TimedAnswer.{timed_of}
use Rattle.answer_meaning.specs.TraceAnswer.{trace_of}
use Rattle.answer_meaning.specs.ChangeAnswer.{ChangeComes}
use Rattle.answer_meaning.specs.ListAnswer.{list_of}
use Rattle.answer_meaning.specs.LoadAnswer.{load_of}
use Rattle.answer_meaning.specs.ExchangeAnswer.{AnswersAnalysis, AnswersCertificate, FromExchange}

-- the outcome of a command; that of `run`, which executes compiled code, is that of the source
-- semantics
abbrev pub performed : Command → Files → Out Answer → Type 0
performed (Run w) files o = RunComes w w.certificate files o
performed (Single w) files o = run_of w files ≡ o
performed (Analyse name) files o = FromExchange name AnswersAnalysis files o
performed (Certify name) files o = FromExchange name AnswersCertificate files o
performed (Listing name) files o = list_of name files ≡ o
performed (Load calls) files o = load_of calls ≡ o
performed (Timed w) files o = timed_of w files ≡ o
performed (Change w) files o = ChangeComes w files o
performed (Trace w) files o = trace_of w files ≡ o

-- the status and the text
abbrev pub answer_of : Out Answer → Answer
answer_of (Ok a) = a
answer_of (Err a) = a

-- an outcome of the command, and the answer that follows from it
pub record IsAnswerOf (c : Command) (files : Files) (a : Answer) : Type 0 where
  pub outcome : Out Answer
  pub comes : performed c files outcome
  pub told : answer_of outcome ≡ a

-- the usage line
abbrev pub usage_answer : Answer
usage_answer = record { status = status.Usage; text = usage_text }

abbrev pub IsAnswerBy : Option Command → Files → Answer → Type 0
IsAnswerBy None files a = usage_answer ≡ a
IsAnswerBy (Some c) files a = IsAnswerOf c files a

-- the answer to these arguments and these files
unfoldable pub IsAnswer : List Word → Files → Answer → Type 0
IsAnswer words files a = IsAnswerBy (shape words) files a
