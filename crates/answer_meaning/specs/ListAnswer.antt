-- `list`: the listing of the compiled code.
use Rattle.std.specs.Prelude.{Ok}
use Rattle.plex_io.specs.Files.{Files}
use Rattle.exchange_model.specs.declared.exchange.Exchange.{Exchange}
use Rattle.machine_code.specs.Coded.{Code}
use Rattle.stmt_code.specs.Whole.{entry_addresses, whole_code}
use Rattle.listing.specs.Listing.{code_text}
use Rattle.command_words.specs.Words.{Word}
use Rattle.answer_meaning.specs.declared.answer.Answer.{Answer}
use Rattle.command_words.specs.declared.status.Status.TheVariants as status
use Rattle.answer_meaning.specs.Outcome.{Out, goes_on}
use Rattle.answer_meaning.specs.Given.{exchange_at}

-- the compiled code of an exchange, which has the meaning of the source
abbrev pub code_of : Exchange → Code
code_of x = record { ops = whole_code x; entries = entry_addresses x }

-- its listing
abbrev pub listing_answer : Exchange → Answer
listing_answer x = record { status = status.Done; text = code_text (code_of x) }

abbrev pub list_of : Word → Files → Out Answer
list_of name files = goes_on (exchange_at name files) (λ x. Ok (listing_answer x))
