-- Which certificates are taken, and why others are not.
use Rattle.std.specs.Prelude.{◌≡◌, All, Contains}
use Rattle.exchange_model.specs.declared.exchange.Exchange.{Exchange}
use Rattle.flow_points.specs.declared.fact.Fact.{Fact}
use Rattle.flow_points.specs.Facts.{Gives, IsClosed}
use Rattle.certificate_text.specs.declared.certificate.Certificate.{Certificate}
use Rattle.certificate_text.specs.declared.certificate.Shape.{Shape}
use Rattle.certificate_meaning.specs.Shapes.{IsShapeOf}
use Rattle.checked.specs.Belonging.{IsOfExchange}
use Rattle.certificate_meaning.specs.Faults.{IsFirstStrange, IsLeastIn}
use Rattle.certificate_meaning.specs.declared.fault.CertFault.{CertFault}
use Rattle.certificate_meaning.specs.declared.fault.CertFault.TheVariants.{WrongExchange}
use Rattle.certificate_meaning.specs.declared.fault.CertFault.TheVariants.{StrangeFact, MissingFact}
use Rattle.certificate_meaning.specs.declared.fault.CertFault.TheVariants.{Memory}
use Rattle.checked.specs.Kept.{AreSummariesBy, KeptSummaries}

-- it is one of the exchange: it has its shape, none of its facts is strange, and all that one rule
-- gives from them is among them
pub record IsClosedCertificate (x : Exchange) (c : Certificate) : Type 0 where
  pub shape : IsShapeOf x c.shape
  pub own : All (IsOfExchange x) c.facts
  pub closed : IsClosed x (Contains c.facts)

-- it is such, and the summaries by its facts are kept
pub record Accepts (x : Exchange) (c : Certificate) (k : KeptSummaries) : Type 0 where
  pub is : IsClosedCertificate x c
  pub by_facts : AreSummariesBy x (Contains c.facts) k.summaries

-- the shapes of the exchange and of the certificate, which differ
pub record AreShapes (x : Exchange) (c : Certificate) (exchange certificate : Shape) : Type 0 where
  pub own : IsShapeOf x exchange
  pub told : certificate ≡ c.shape
  pub differ : IsShapeOf x c.shape → ⊥

-- the shape is that of the exchange, and the fact is the first strange one
pub record IsStrange (x : Exchange) (c : Certificate) (f : Fact) : Type 0 where
  pub shape : IsShapeOf x c.shape
  pub first : IsFirstStrange x c.facts f

-- the shape is that of the exchange, no fact is strange, and this is the least one that one rule
-- gives and that is not there
pub record IsMissing (x : Exchange) (c : Certificate) (f : Fact) : Type 0 where
  pub shape : IsShapeOf x c.shape
  pub own : All (IsOfExchange x) c.facts
  pub least : IsLeastIn (Contains c.facts) (Gives x (Contains c.facts)) f

abbrev pub Refuses : Exchange → Certificate → CertFault → Type 0
Refuses x c (WrongExchange exchange certificate) = AreShapes x c exchange certificate
Refuses x c (StrangeFact f) = IsStrange x c f
Refuses x c (MissingFact f) = IsMissing x c f
Refuses x c Memory = Unit {0}
