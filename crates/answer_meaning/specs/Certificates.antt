-- Whether a text is a certificate of an exchange, or why it is not.
use Rattle.std.specs.Prelude.{ℕ, List, Option, Some, None, Result, Ok, Err}
use Rattle.exchange_model.specs.declared.exchange.Exchange.{Exchange}
use Rattle.certificate_text.specs.declared.certificate.Certificate.{Certificate}
use Rattle.certificate_text.specs.Lines.{HasBadLine, IsTextOf}
use Rattle.checked.specs.Kept.{IsChecked, KeptSummaries}
use Rattle.certificate_meaning.specs.Verdicts.{Accepts, AreShapes, IsClosedCertificate, IsMissing}
use Rattle.certificate_meaning.specs.Verdicts.{IsStrange}
use Rattle.answer_meaning.specs.declared.fault.CertificateFault.{CertificateFault}
use Rattle.answer_meaning.specs.declared.fault.CertificateFault.TheVariants.{TooLarge, BadText}
use Rattle.answer_meaning.specs.declared.fault.CertificateFault.TheVariants.{WrongExchange, Strange}
use Rattle.answer_meaning.specs.declared.fault.CertificateFault.TheVariants.{Missing}

-- a certificate has this fault for the exchange, or none
abbrev pub Judges : Exchange → Certificate → Option CertificateFault → Type 0
Judges x c None = IsClosedCertificate x c
Judges x c (Some TooLarge) = ⊥
Judges x c (Some (BadText line)) = ⊥
Judges x c (Some (WrongExchange own told)) = AreShapes x c own told
Judges x c (Some (Strange f)) = IsStrange x c f
Judges x c (Some (Missing f)) = IsMissing x c f

-- the same for a text, which may be too large or malformed
pub data IsJudged (x : Exchange) : Option (List ℕ) → Option CertificateFault → Type 0 where
  large : IsJudged x None (Some TooLarge)
  bad : (text : List ℕ) (line : ℕ) → HasBadLine text line
      → IsJudged x (Some text) (Some (BadText line))
  read : (text : List ℕ) (c : Certificate) (o : Option CertificateFault) → IsTextOf text c
      → Judges x c o → IsJudged x (Some text) o

-- the summaries kept from the certificate that this text is
pub record IsKeptBy (x : Exchange) (text : Option (List ℕ)) (k : KeptSummaries) : Type 0 where
  pub judged : IsJudged x text None
  pub checked : IsChecked x k

-- the summaries kept, or the fault
abbrev pub IsKeptOrNot : Exchange → Option (List ℕ) → Result KeptSummaries CertificateFault → Type 0
IsKeptOrNot x text (Ok k) = IsKeptBy x text k
IsKeptOrNot x text (Err f) = IsJudged x text (Some f)

-- a certificate is accepted and these summaries are kept, or it has this fault
abbrev pub IsAcceptedOrNot : Exchange → Certificate → Result KeptSummaries CertificateFault → Type 0
IsAcceptedOrNot x c (Ok k) = Accepts x c k
IsAcceptedOrNot x c (Err f) = Judges x c (Some f)
