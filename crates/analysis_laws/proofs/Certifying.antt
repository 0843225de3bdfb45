-- One certificate of an exchange.
use Rattle.std.proofs.Common.{◌≡◌, ℕ, List, sym, ap, ◌∙◌}
use Rattle.exchange_model.specs.declared.exchange.Exchange.{Exchange}
use Rattle.flow_points.specs.contracts.fact.FactOrd.TheImpl.Laws as fact_laws
use Rattle.flow_points.specs.Orders.{fact_order}
use Rattle.certificate_text.specs.declared.certificate.Certificate.{Certificate}
use Rattle.certificate_text.specs.Text.{certificate_text}
use Rattle.certificate_meaning.specs.Certified.{IsCertificate, IsTextOfCertificate}
use Rattle.certificate_meaning.proofs.Shaping.{same_shape}
use Rattle.analysis_laws.proofs.Rising.{rising_once, same_sides}

pub certificate_once : (x : Exchange) (c d : Certificate) → IsCertificate x c → IsCertificate x d → c ≡ d
certificate_once x c d one other =
    let shape : c.shape ≡ d.shape = same_shape x c.shape d.shape one.shape other.shape in
    let facts : c.facts ≡ d.facts = rising_once fact_order fact_laws.total-law c.facts d.facts one.rising other.rising
    (λ f. same_sides (one.exact f) (other.exact f)) in
    λ i. record { shape = shape i; facts = facts i }

pub certificate_text_once : (x : Exchange) (t u : List ℕ) → IsTextOfCertificate x t → IsTextOfCertificate x u → t ≡ u
certificate_text_once x t u one other = one.told ∙ ap certificate_text (certificate_once x one.certificate other.certificate one.is other.is) ∙ sym other.told
