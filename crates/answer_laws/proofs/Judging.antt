-- The verdict on the text of a certificate is unique.
use Rattle.std.proofs.Common.{◌≡◌, ℕ, List, Option, Some, None, Ok, refl, ap, subst}
use Rattle.exchange_model.specs.declared.exchange.Exchange.{Exchange}
use Rattle.certificate_text.specs.declared.certificate.Certificate.{Certificate}
use Rattle.certificate_text.specs.Lines.{HasBadLine, IsTextOf}
use Rattle.certificate_text.proofs.Once.{bad_line_told, one_certificate, one_line}
use Rattle.certificate_meaning.specs.declared.fault.CertFault.TheVariants as fault
use Rattle.certificate_meaning.proofs.Judging.{never_closed}
use Rattle.analysis_laws.proofs.Refusing.{refused_once}
use Rattle.answer_meaning.specs.Certificates.{IsJudged, Judges, large, bad, read}
use Rattle.answer_meaning.specs.declared.fault.CertificateFault.{CertificateFault}
use Rattle.answer_meaning.specs.declared.fault.CertificateFault.TheVariants.{TooLarge, BadText}
use Rattle.answer_meaning.specs.declared.fault.CertificateFault.TheVariants.{WrongExchange, Strange}
use Rattle.answer_meaning.specs.declared.fault.CertificateFault.TheVariants.{Missing}

-- a text with a malformed line is no certificate

bad_is_none : (text : List ℕ) (l : ℕ) (c : Certificate) → HasBadLine text l → IsTextOf text c → ⊥
bad_is_none text l c bad_line is = let clash = bad_line_told text (Ok c) l is bad_line in cc

-- the verdict on a certificate is unique

refused_not_closed : (x : Exchange) (c : Certificate) (f : CertificateFault) → Judges x c (Some f) → Judges x c None → ⊥
refused_not_closed x c TooLarge r is = r
refused_not_closed x c (BadText line) r is = r
refused_not_closed x c (WrongExchange s t) r is = let e = never_closed x c (fault.WrongExchange s t) r is in cc
refused_not_closed x c (Strange f) r is = let e = never_closed x c (fault.StrangeFact f) r is in cc
refused_not_closed x c (Missing f) r is = let e = never_closed x c (fault.MissingFact f) r is in cc

fault_once : (x : Exchange) (c : Certificate) (f g : CertificateFault) → Judges x c (Some f) → Judges x c (Some g) → f ≡ g
fault_once x c TooLarge g a b = absurd a
fault_once x c (BadText line) g a b = absurd a
fault_once x c (WrongExchange s t) TooLarge a b = absurd b
fault_once x c (WrongExchange s t) (BadText line) a b = absurd b
fault_once x c (WrongExchange s t) (WrongExchange u v) a b = let e = refused_once x c (fault.WrongExchange s t)
    (fault.WrongExchange u v) (λ e. cc) (λ e. cc) a b in cc
fault_once x c (WrongExchange s t) (Strange g) a b = let e = refused_once x c (fault.WrongExchange s t) (fault.StrangeFact g) (λ e. cc) (λ e. cc) a b in cc
fault_once x c (WrongExchange s t) (Missing g) a b = let e = refused_once x c (fault.WrongExchange s t) (fault.MissingFact g) (λ e. cc) (λ e. cc) a b in cc
fault_once x c (Strange f) TooLarge a b = absurd b
fault_once x c (Strange f) (BadText line) a b = absurd b
fault_once x c (Strange f) (WrongExchange u v) a b = let e = refused_once x c (fault.StrangeFact f) (fault.WrongExchange u v) (λ e. cc) (λ e. cc) a b in cc
fault_once x c (Strange f) (Strange g) a b = let e = refused_once x c (fault.StrangeFact f) (fault.StrangeFact g) (λ e. cc) (λ e. cc) a b in cc
fault_once x c (Strange f) (Missing g) a b = let e = refused_once x c (fault.StrangeFact f) (fault.MissingFact g) (λ e. cc) (λ e. cc) a b in cc
fault_once x c (Missing f) TooLarge a b = absurd b
fault_once x c (Missing f) (BadText line) a b = absurd b
fault_once x c (Missing f) (WrongExchange u v) a b = let e = refused_once x c (fault.MissingFact f) (fault.WrongExchange u v) (λ e. cc) (λ e. cc) a b in cc
fault_once x c (Missing f) (Strange g) a b = let e = refused_once x c (fault.MissingFact f) (fault.StrangeFact g) (λ e. cc) (λ e. cc) a b in cc
fault_once x c (Missing f) (Missing g) a b = let e = refused_once x c (fault.MissingFact f) (fault.MissingFact g) (λ e. cc) (λ e. cc) a b in cc

verdict_once : (x : Exchange) (c : Certificate) (o p : Option CertificateFault) → Judges x c o → Judges x c p → o ≡ p
verdict_once x c None None a b = refl
verdict_once x c None (Some g) a b = absurd (refused_not_closed x c g b a)
verdict_once x c (Some f) None a b = absurd (refused_not_closed x c f a b)
verdict_once x c (Some f) (Some g) a b = ap (λ h. Some h) (fault_once x c f g a b)

-- so is the verdict on its text
pub judged_once : (x : Exchange) (text : Option (List ℕ)) (o p : Option CertificateFault) → IsJudged x text o → IsJudged x text p → o ≡ p
judged_once x _ _ _ large large = refl
judged_once x _ _ _ (bad text l one) (bad _ m other) = ap (λ n. Some (BadText n)) (one_line text l m one other)
judged_once x _ _ _ (bad text l one) (read _ c p is b) = absurd (bad_is_none text l c one is)
judged_once x _ _ _ (read text c o is a) (bad _ m other) = absurd (bad_is_none text m c other is)
judged_once x _ _ _ (read text c o is a) (read _ d p also b) = verdict_once x d o p (subst (λ k. Judges x k o) (one_certificate text c d is also) a) b
