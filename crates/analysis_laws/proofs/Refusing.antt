-- One reason for which a certificate is refused.
use Rattle.std.proofs.Common.{◌≡◌, ◌≢◌, List, [], ◌∷◌, ◌++◌, All, Contains, refl, sym, ap, ◌∙◌}
use Rattle.std.proofs.Common.{subst}
use Rattle.std.specs.declared.cmp.Ordering.{Ordering}
use Rattle.std.specs.declared.cmp.Ordering.TheVariants.{Less, Equal, Greater}
use Rattle.std.specs.Ordering.{ordering_reverse}
use Rattle.std.proofs.lemmas.List.Elements.{All-contains, All-head, All-tail, Contains-append_right}
use Rattle.plex_num.proofs.Members.{first_is}
use Rattle.exchange_model.specs.declared.exchange.Exchange.{Exchange}
use Rattle.flow_points.specs.declared.fact.Fact.{Fact}
use Rattle.flow_points.specs.Facts.{Facts, Gives}
use Rattle.flow_points.specs.contracts.fact.FactOrd.TheImpl.Laws as fact_laws
use Rattle.flow_points.specs.Orders.{fact_order}
use Rattle.flow_points.proofs.Orders.{order_same}
use Rattle.certificate_text.specs.declared.certificate.Certificate.{Certificate}
use Rattle.checked.specs.Belonging.{IsOfExchange}
use Rattle.certificate_meaning.specs.Faults.{IsFirstStrange, IsLeastIn}
use Rattle.certificate_meaning.proofs.Shaping.{same_shape}
use Rattle.certificate_meaning.specs.declared.fault.CertFault.{CertFault}
use Rattle.certificate_meaning.specs.declared.fault.CertFault.TheVariants.{WrongExchange}
use Rattle.certificate_meaning.specs.declared.fault.CertFault.TheVariants.{StrangeFact, MissingFact}
use Rattle.certificate_meaning.specs.declared.fault.CertFault.TheVariants.{Memory}
use Rattle.certificate_meaning.specs.Verdicts.{Refuses}

-- the first strange fact

module _ (P : Fact → Type 0) where
  first_once : (before others after rest : List Fact) (f g : Fact) → before ++ f ∷ after ≡ others ++ g ∷ rest
      → All P before → All P others → (P f → ⊥) → (P g → ⊥) → f ≡ g
  first_once [] [] after rest f g same all also not_f not_g = cc
  first_once [] (h ∷ others) after rest f g same all also not_f not_g = let is : f ≡ h = cc in absurd (not_f (subst P (sym is) (All-head P h others also)))
  first_once (h ∷ before) [] after rest f g same all also not_f not_g = let is : h ≡ g = cc in absurd (not_g (subst P is (All-head P h before all)))
  first_once (h ∷ before) (k ∷ others) after rest f g same all also not_f not_g =
      let tails : before ++ f ∷ after ≡ others ++ g ∷ rest = cc in
      first_once before others after rest f g tails (All-tail P h before all) (All-tail P k others also) not_f not_g

strange_once : (x : Exchange) (facts : List Fact) (f g : Fact) → IsFirstStrange x facts f → IsFirstStrange x facts g → f ≡ g
strange_once x facts f g one other = first_once (IsOfExchange x) one.before other.before one.after other.after f g
    (sym one.so ∙ other.so) one.others other.others one.strange other.strange

not_all_own : (x : Exchange) (facts : List Fact) (f : Fact) → IsFirstStrange x facts f → All (IsOfExchange x) facts → ⊥
not_all_own x facts f first all =
    first.strange (All-contains (IsOfExchange x) facts f all
    (subst (λ l. Contains l f) (sym first.so)
    (Contains-append_right first.before (f ∷ first.after) f (first_is f first.after))))

-- the least missing fact

least_once : (P G : Facts) (f g : Fact) → IsLeastIn P G f → IsLeastIn P G g → f ≡ g
least_once P G f g one other = by (fact_order f g) refl
  where
    by : (r : Ordering) → fact_order f g ≡ r → f ≡ g
    by Less is = absurd (other.least f one.given one.missing is)
    by Equal is = order_same f g is
    by Greater is = absurd (one.least g other.given other.missing (fact_laws.total-law.antisymm g f ∙ ap ordering_reverse is))

-- the reasons

pub refused_once : (x : Exchange) (c : Certificate) (one other : CertFault) → one ≢ Memory → other ≢ Memory → Refuses x c one → Refuses x c other → one ≡ other
refused_once x c Memory other here there a b = absurd (here refl)
refused_once x c (WrongExchange s t) Memory here there a b = absurd (there refl)
refused_once x c (StrangeFact f) Memory here there a b = absurd (there refl)
refused_once x c (MissingFact f) Memory here there a b = absurd (there refl)
refused_once x c (WrongExchange s t) (WrongExchange u v) here there a b =
    let own : s ≡ u = same_shape x s u a.own b.own in
    let told : t ≡ v = a.told ∙ sym b.told in
    λ i. WrongExchange (own i) (told i)
refused_once x c (WrongExchange s t) (StrangeFact g) here there a b = absurd (a.differ b.shape)
refused_once x c (WrongExchange s t) (MissingFact g) here there a b = absurd (a.differ b.shape)
refused_once x c (StrangeFact f) (WrongExchange u v) here there a b = absurd (b.differ a.shape)
refused_once x c (StrangeFact f) (StrangeFact g) here there a b = ap StrangeFact (strange_once x c.facts f g a.first b.first)
refused_once x c (StrangeFact f) (MissingFact g) here there a b = absurd (not_all_own x c.facts f a.first b.own)
refused_once x c (MissingFact f) (WrongExchange u v) here there a b = absurd (b.differ a.shape)
refused_once x c (MissingFact f) (StrangeFact g) here there a b = absurd (not_all_own x c.facts g b.first a.own)
refused_once x c (MissingFact f) (MissingFact g) here there a b =
    ap MissingFact (least_once (Contains c.facts) (Gives x (Contains c.facts)) f g a.least b.least)
