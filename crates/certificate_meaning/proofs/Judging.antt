-- A certificate that is taken is of the exchange, and one that is refused is not.
use Rattle.std.proofs.Common.{◌≡◌, Contains, ◌∷◌, refl, sym, subst, arith}
use Rattle.std.proofs.lemmas.List.Elements.{All-contains, Contains-append_right}
use Rattle.exchange_model.specs.declared.exchange.Exchange.{Exchange}
use Rattle.certificate_text.specs.declared.certificate.Certificate.{Certificate}
use Rattle.checked.specs.Belonging.{IsOfExchange}
use Rattle.checked.specs.Kept.{IsChecked, KeptSummaries}
use Rattle.certificate_meaning.specs.declared.fault.CertFault.{CertFault}
use Rattle.certificate_meaning.specs.declared.fault.CertFault.TheVariants.{WrongExchange}
use Rattle.certificate_meaning.specs.declared.fault.CertFault.TheVariants.{StrangeFact, MissingFact}
use Rattle.certificate_meaning.specs.declared.fault.CertFault.TheVariants.{Memory}
use Rattle.certificate_meaning.specs.Verdicts.{Accepts, IsClosedCertificate, Refuses}

pub accepted_is_checked : (x : Exchange) (c : Certificate) (k : KeptSummaries) → Accepts x c k → IsChecked x k
accepted_is_checked x c k taken = record { facts = c.facts; own = taken.is.own; closed = taken.is.closed; by_facts = taken.by_facts }

pub never_closed : (x : Exchange) (c : Certificate) (fault : CertFault) → Refuses x c fault → IsClosedCertificate x c → fault ≡ Memory
never_closed x c (WrongExchange exchange certificate) r is = absurd (r.differ is.shape)
never_closed x c (StrangeFact f) r is =
    let first = r.first in
    let here : Contains c.facts f = subst (λ l. Contains l f) (sym first.so) (Contains-append_right first.before (f ∷ first.after) f (0, omega arith, refl)) in
    absurd (first.strange (All-contains (IsOfExchange x) c.facts f is.own here))
never_closed x c (MissingFact f) r is = (let l = r.least in absurd (l.missing (is.closed f l.given)))
never_closed x c Memory r is = refl
