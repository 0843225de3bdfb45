-- The certificate of an exchange.
use Rattle.std.specs.Prelude.{◌≡◌, ◌↔◌, ℕ, List, All, Contains}
use Rattle.std.specs.List.Sorted.{IsStrictlySortedBy}
use Rattle.exchange_model.specs.declared.exchange.Exchange.{Exchange}
use Rattle.flow_points.specs.declared.fact.Fact.{Fact}
use Rattle.flow_points.specs.Facts.{IsLeast}
use Rattle.flow_points.specs.Orders.{fact_order}
use Rattle.certificate_text.specs.declared.certificate.Certificate.{Certificate}
use Rattle.certificate_text.specs.Text.{FactFits, certificate_text}
use Rattle.certificate_meaning.specs.Shapes.{IsShapeOf}

-- it has the exchange's shape and exactly its least facts, in order, and a text can tell them
pub record IsCertificate (x : Exchange) (c : Certificate) : Type 0 where
  pub shape : IsShapeOf x c.shape
  pub exact : (f : Fact) → Contains c.facts f ↔ IsLeast x f
  pub rising : IsStrictlySortedBy fact_order c.facts
  pub fits : All FactFits c.facts

-- the text of its certificate
pub record IsTextOfCertificate (x : Exchange) (text : List ℕ) : Type 0 where
  pub certificate : Certificate
  pub is : IsCertificate x certificate
  pub told : text ≡ certificate_text certificate
