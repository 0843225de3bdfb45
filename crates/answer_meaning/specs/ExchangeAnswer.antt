-- `analyse` and `certify`: the answers about an exchange alone.
use Rattle.std.specs.Prelude.{◌≡◌, List}
use Rattle.plex_io.specs.Files.{Files}
use Rattle.exchange_model.specs.declared.exchange.Exchange.{Exchange}
use Rattle.entry_summary.specs.declared.summary.Summary.{Summary}
use Rattle.certificate_meaning.specs.Summaries.{AreSummaries}
use Rattle.analysis_text.specs.Analysis.{IsAnalysis}
use Rattle.certificate_text.specs.declared.certificate.Certificate.{Certificate}
use Rattle.certificate_text.specs.Text.{certificate_text}
use Rattle.certificate_meaning.specs.Certified.{IsCertificate}
use Rattle.command_words.specs.Words.{Word}
use Rattle.answer_meaning.specs.declared.answer.Answer.{Answer}
use Rattle.command_words.specs.declared.status.Status.TheVariants as status
use Rattle.answer_meaning.specs.Outcome.{ComesOf, IsAnAnswer, Out}
use Rattle.answer_meaning.specs.Given.{exchange_at}

-- the analysis of an exchange: a text of its entries' summaries, which follow from the least fixed
-- point
pub record AnswersAnalysis (x : Exchange) (a : Answer) : Type 0 where
  pub status : a.status ≡ status.Done
  pub summaries : List Summary
  pub are : AreSummaries x summaries
  pub told : IsAnalysis x summaries a.text

-- the certificate of an exchange: its least fixed point as a text
pub record AnswersCertificate (x : Exchange) (a : Answer) : Type 0 where
  pub status : a.status ≡ status.Done
  pub certificate : Certificate
  pub is : IsCertificate x certificate
  pub told : a.text ≡ certificate_text certificate

-- such an answer for the exchange of a file
abbrev pub FromExchange : Word → (Exchange → Answer → Type 0) → Files → Out Answer → Type 0
FromExchange name Is files = ComesOf (exchange_at name files) (λ x. IsAnAnswer (Is x))
