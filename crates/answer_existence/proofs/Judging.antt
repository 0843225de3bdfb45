-- The text of a certificate has a verdict.
use Rattle.std.proofs.Common.{inl, inr, ℕ, List, Option, None, Some, refl}
use Rattle.exchange_model.specs.declared.exchange.Exchange.{Exchange}
use Rattle.exchange_model.specs.Kept.{IsExchange}
use Rattle.certificate_text.specs.declared.certificate.Certificate.{Certificate}
use Rattle.certificate_meaning.specs.declared.fault.CertFault.TheVariants as refused
use Rattle.answer_meaning.specs.Certificates.{IsJudged, Judges, bad, large, read}
use Rattle.answer_meaning.specs.declared.fault.CertificateFault.{CertificateFault}
use Rattle.answer_meaning.specs.declared.fault.CertificateFault.TheVariants.{BadText, Missing}
use Rattle.answer_meaning.specs.declared.fault.CertificateFault.TheVariants.{Strange, TooLarge}
use Rattle.answer_meaning.specs.declared.fault.CertificateFault.TheVariants.{WrongExchange}
use Rattle.certificate_existence.proofs.Certifying.{Found, found}
use Rattle.certificate_existence.proofs.Reading.{Outcome, text_read}

verdict : (x : Exchange) (c : Certificate) → Found x c → (o : Option CertificateFault) × Judges x c o
verdict x c (inl closed) = (None, closed)
verdict x c (inr (refused.WrongExchange own told, other, is)) = (Some (WrongExchange own told), is)
verdict x c (inr (refused.StrangeFact f, other, is)) = (Some (Strange f), is)
verdict x c (inr (refused.MissingFact f, other, is)) = (Some (Missing f), is)
verdict x c (inr (refused.Memory, other, is)) = absurd (other refl)

pub judged : (x : Exchange) → IsExchange x → (text : Option (List ℕ)) → (o : Option CertificateFault) × IsJudged x text o
judged x kept None = (Some TooLarge, large)
judged x kept (Some text) = by (text_read text)
  where
    by : Outcome text → (o : Option CertificateFault) × IsJudged x (Some text) o
    by (inl h) = (let v = verdict x h.0 (found x kept h.0) in (v.0, read text h.0 v.0 h.1 v.1))
    by (inr h) = (Some (BadText h.0), bad text h.0 h.1)
