-- The exchange and the signal lines that files hold.
use Rattle.std.specs.Prelude.{ℕ, nat_lt, List, length, Option, Some, None, Result, Ok, Err}
use Rattle.std.specs.Prelude.{if◌then◌else◌}
use Rattle.plex_io.specs.Files.{Files}
use Rattle.plex_limits.specs.declared.limits.TheConstants.{MOST_BYTES}
use Rattle.exchange_model.specs.declared.exchange.Exchange.{Exchange}
use Rattle.signal_file.specs.declared.fault.SignalsRule.TheVariants.{TooLarge}
use Rattle.signal_file.specs.declared.line.Line.{Line}
use Rattle.signal_file.specs.Lines.{signal_lines}
use Rattle.signal_file.specs.Rules.{breach}
use Rattle.answer_meaning.specs.Reading.{exchange_of_text}
use Rattle.command_words.specs.Words.{Word}
use Rattle.answer_meaning.specs.declared.answer.Stop.{Stop}
use Rattle.answer_meaning.specs.declared.fault.Which.{Which}
use Rattle.answer_meaning.specs.declared.fault.Which.TheVariants.{First}
use Rattle.answer_meaning.specs.declared.known.KnownExchange.{KnownExchange}
use Rattle.answer_meaning.specs.Outcome.{Out, goes_on, not_held, or_refused}
use Rattle.answer_meaning.specs.Text.{signals_refusal, source_refusal}

-- the text, if it is within the size limit
abbrev pub fitting : ℕ → List ℕ → Option (List ℕ)
fitting limit bytes = (if nat_lt limit (length bytes) then None else Some bytes)

-- the text of a file, if it is within the size limit
abbrev pub text_of_file : Option (List ℕ) → Out (Option (List ℕ))
text_of_file None = Err not_held
text_of_file (Some bytes) = Ok (fitting MOST_BYTES bytes)

abbrev pub text_at : Word → Files → Out (Option (List ℕ))
text_at name files = text_of_file (files name)

-- the exchange that an exchange text denotes; `which` says which of the command's texts it is
abbrev pub exchange_of_file : Which → Option (List ℕ) → Out Exchange
exchange_of_file which text = or_refused (source_refusal which) (exchange_of_text text)

-- the exchange of a file
abbrev pub exchange_as : Which → Word → Files → Out Exchange
exchange_as which name files = goes_on (text_at name files) (λ text. exchange_of_file which text)

abbrev pub exchange_at : Word → Files → Out Exchange
exchange_at name files = exchange_as First name files

-- the result of a stage that builds a `KnownExchange`, as an exchange
abbrev pub exchange_from : Result KnownExchange Stop → Result Exchange Stop
exchange_from (Ok known) = Ok known.exchange
exchange_from (Err stop) = Err stop

-- the signal lines of a text, or its first fault; the fault of a text that is too large has no line
abbrev pub lines_of_file : Exchange → Option (List ℕ) → Out (List Line)
lines_of_file x None = Err (signals_refusal (breach TooLarge 0))
lines_of_file x (Some text) = or_refused signals_refusal (signal_lines x text)

-- the signal lines of a file
abbrev pub lines_at : Exchange → Word → Files → Out (List Line)
lines_at x name files = goes_on (text_at name files) (λ text. lines_of_file x text)
