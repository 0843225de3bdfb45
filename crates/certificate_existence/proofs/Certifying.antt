-- The certificate of an exchange comes, and each certificate is one of it or has a first fault.
use Rattle.std.proofs.Common.{◌≡◌, ◌≢◌, ◌↔◌, ◌⊎◌, inl, inr, ℕ, List, [], ◌∷◌, length, All, Contains}
use Rattle.std.proofs.Common.{refl, sym, ap, ◌∙◌, subst}
use Rattle.std.specs.List.{AllByRecursion, count_by}
use Rattle.std.specs.declared.cmp.Ordering.TheVariants.{Equal, Less}
use Rattle.std.proofs.lemmas.List.Elements.{All-cons, All-nil}
use Rattle.std.specs.List.Sorted.{IsStrictlySortedBy}
use Rattle.std.proofs.lemmas.Cmp.{tied_itself}
use Rattle.plex_num.proofs.Members.{first_is, first_or_later, none_in}
use Rattle.source_meaning.proofs.Lists.{all_contained}
use Rattle.exchange_model.specs.declared.exchange.Exchange.{Exchange}
use Rattle.exchange_model.specs.Kept.{IsExchange}
use Rattle.source_meaning.specs.Valid.{entry_count}
use Rattle.flow_points.specs.declared.fact.Fact.{Fact}
use Rattle.flow_points.specs.declared.fact.Value.{Value}
use Rattle.flow_points.specs.declared.fact.Value.TheVariants.{Any, Arg, Const}
use Rattle.flow_points.specs.contracts.fact.FactOrd.TheImpl.Laws as order_laws
use Rattle.flow_points.specs.Facts.{Gives, IsClosed, IsLeast}
use Rattle.flow_points.specs.Places.{Place}
use Rattle.flow_points.specs.Slots.{HasSlot}
use Rattle.flow_points.specs.Orders.{fact_order}
use Rattle.flow_points.proofs.Orders.{order_same}
use Rattle.flow_table.proofs.Numbered.{are_places}
use Rattle.certificate_text.specs.declared.certificate.Certificate.{Certificate}
use Rattle.certificate_text.specs.declared.certificate.Shape.{Shape}
use Rattle.certificate_meaning.specs.Certified.{IsCertificate}
use Rattle.certificate_meaning.specs.Shapes.{IsShapeOf, refers}
use Rattle.checked.specs.Belonging.{IsOfExchange, IsValueOfEntry}
use Rattle.certificate_meaning.specs.Faults.{IsFirstStrange, IsLeastIn}
use Rattle.certificate.proofs.Fitting.{facts_fit}
use Rattle.certificate_meaning.proofs.Shaping.{same_shape as one_shape}
use Rattle.certificate_meaning.specs.declared.fault.CertFault.{CertFault}
use Rattle.certificate_meaning.specs.declared.fault.CertFault.TheVariants.{Memory, MissingFact}
use Rattle.certificate_meaning.specs.declared.fault.CertFault.TheVariants.{StrangeFact}
use Rattle.certificate_meaning.specs.declared.fault.CertFault.TheVariants.{WrongExchange}
use Rattle.certificate_meaning.specs.Verdicts.{IsClosedCertificate, Refuses}
use Rattle.finite_facts.proofs.Facts.{least_facts}
use Rattle.finite_facts.proofs.Finite.{Decided, both, certain, decided_as, is_in, less, listed_if}
use Rattle.finite_facts.proofs.Finite.{no, refuted, same_number, yes}
use Rattle.finite_facts.proofs.Giving.{given, same_fact, same_slot}
use Rattle.finite_facts.proofs.Places.{places_of}
use Rattle.finite_facts.proofs.Rising.{Rises, in_order}
use Rattle.finite_facts.proofs.Slots.{slots_at}

-- the shape

references : Exchange → ℕ
references x = count_by (λ (p : Place). refers p.layer) (places_of x).0

shape_of : Exchange → Shape
shape_of x = record {
  signals = length x.signals;
  blocks = length x.blocks;
  points = length x.points;
  cells = x.cells;
  entries = length x.entries;
  references = references x;
}

is_shape : (x : Exchange) → IsExchange x → IsShapeOf x (shape_of x)
unfolding shape_of references
is_shape x kept = record {
  signals = refl;
  blocks = refl;
  points = refl;
  cells = refl;
  entries = refl;
  references = record { places = (places_of x).0; all = are_places x kept (places_of x).0 (places_of x).1; so = refl };
}

-- the certificate
pub certificate : (x : Exchange) → IsExchange x → (c : Certificate) × IsCertificate x c
certificate x kept =
    let r = in_order fact_order order_laws.total-law order_same (IsLeast x) (least_facts x) in
    let exact : (f : Fact) → Contains r.listed.items f ↔ IsLeast x f = λ f. (r.listed.each f, r.listed.all f) in (
      record { shape = shape_of x; facts = r.listed.items },
      record
          { shape = is_shape x kept; exact = exact; rising = r.rising; fits = facts_fit x kept r.listed.items exact },
    )

-- ## A certificate, looked at

same_shape : (s t : Shape) → Decided (s ≡ t)
same_shape s t =
    decided_as (λ e. (λ i. record { signals = e.0.0.0 i; blocks = e.0.0.1 i; points = e.0.1 i; cells = e.1.0.0 i; entries = e.1.0.1 i; references = e.1.1 i }))
    (λ e. (
      ((ap (λ (r : Shape). r.signals) e, ap (λ (r : Shape). r.blocks) e), ap (λ (r : Shape). r.points) e),
      ((ap (λ (r : Shape). r.cells) e, ap (λ (r : Shape). r.entries) e), ap (λ (r : Shape). r.references) e),
    ))
    (both (both (both (same_number s.signals t.signals) (same_number s.blocks t.blocks))
    (same_number s.points t.points)) (both (both (same_number s.cells t.cells) (same_number s.entries t.entries))
    (same_number s.references t.references)))

module _ (x : Exchange) where
  -- facts that are of the exchange

  has_value : (e : ℕ) (v : Value) → Decided (IsValueOfEntry x e v)
  has_value e (Arg k) = less k (entry_count x e)
  has_value e (Const c) = certain tt
  has_value e Any = certain tt

  has_slot : (f : Fact) → Decided (HasSlot x f.point f.slot)
  has_slot f = (let l = slots_at x f.point in decided_as (l.each f.slot) (l.all f.slot) (is_in same_slot l.items f.slot))

  is_own : (f : Fact) → Decided (IsOfExchange x f)
  is_own f =
      decided_as (λ h. record { entry = h.0.0; slot = h.0.1; value = h.1 }) (λ h. ((h.entry, h.slot), h.value))
      (both (both (less f.entry (length x.entries)) (has_slot f)) (has_value f.entry f.value))

  abbrev Own : List Fact → Type 0
  Own facts = All (IsOfExchange x) facts ⊎ ((f : Fact) × IsFirstStrange x facts f)

  own : (facts : List Fact) → Own facts
  own [] = inl (All-nil (IsOfExchange x))
  own (f ∷ facts) = by (is_own f) (own facts)
    where
      more : IsOfExchange x f → Own facts → Own (f ∷ facts)
      more here (inl all) = inl (All-cons (IsOfExchange x) f facts here all)
      more here (inr h) = (let s = h.1 in inr (
        h.0,
        record {
          before = f ∷ s.before;
          after = s.after;
          so = ap (λ l. f ∷ l) s.so;
          others = All-cons (IsOfExchange x) f s.before here s.others;
          strange = s.strange;
        },
      ))

      by : Decided (IsOfExchange x f) → Own facts → Own (f ∷ facts)
      by (yes here) rest = more here rest
      by (no strange) rest = inr (f, record { before = []; after = facts; so = refl; others = All-nil (IsOfExchange x); strange = strange })

  -- facts that are missing

  abbrev Missing : List Fact → Fact → Type 0
  Missing facts f = Gives x (Contains facts) f × (Contains facts f → ⊥)

  missing : (facts : List Fact) → Rises fact_order (Missing facts)
  missing facts = in_order fact_order order_laws.total-law order_same (Missing facts)
      (listed_if (Gives x (Contains facts)) (λ f. Contains facts f → ⊥) (given x facts)
      (λ f g. refuted (is_in same_fact facts f)))

  not_below_both : (f g : Fact) → fact_order f g ≡ Less → fact_order g f ≡ Less → ⊥
  not_below_both f g up down = (let less = order_laws.total-law.trans f g f up down in let even = tied_itself
      order_laws.total-law f in let clash : Equal ≡ Less = sym even ∙ less in cc)

  abbrev Full : List Fact → Type 0
  Full facts = IsClosed x (Contains facts) ⊎ ((f : Fact) × IsLeastIn (Contains facts) (Gives x (Contains facts)) f)

  full : (facts : List Fact) → Full facts
  unfolding IsStrictlySortedBy
  full facts = (let r = missing facts in by r.listed.items r.rising r.listed.all r.listed.each)
    where
      known : (f : Fact) → Decided (Contains facts f) → (Missing facts f → ⊥) → Gives x (Contains facts) f → Contains facts f
      known f (yes c) none g = c
      known f (no new) none g = absurd (none (g, new))

      above : (f g : Fact) (rest : List Fact) → AllByRecursion (λ h. fact_order f h ≡ Less) rest → (f ≡ g) ⊎ Contains rest g → fact_order g f ≡ Less → ⊥
      above f g rest all (inl is) down = not_below_both f f (subst (λ h. fact_order h f ≡ Less) (sym is) down)
          (subst (λ h. fact_order h f ≡ Less) (sym is) down)
      above f g rest all (inr c) down = not_below_both f g (all_contained (λ h. fact_order f h ≡ Less) rest g all c) down

      by : (items : List Fact) → IsStrictlySortedBy fact_order items → ((f : Fact) → Missing facts f → Contains items f)
          → ((f : Fact) → Contains items f → Missing facts f) → Full facts
      by [] rising all each = inl (λ f g. known f (is_in same_fact facts f) (λ m. none_in f (all f m)) g)
      by (f ∷ rest) rising all each =
          let here = each f (first_is f rest) in
          inr (
            f,
            record {
              given = here.0;
              missing = here.1;
              least = λ g gives new down. above f g rest rising.0 (first_or_later f g rest (all g (gives, new))) down;
            },
          )

  -- what is found

  abbrev pub Found : Certificate → Type 0
  Found c = IsClosedCertificate x c ⊎ ((f : CertFault) × (f ≢ Memory) × Refuses x c f)

  full_found : (c : Certificate) → IsShapeOf x c.shape → All (IsOfExchange x) c.facts → Full c.facts → Found c
  full_found c shape all (inl closed) = inl (record { shape = shape; own = all; closed = closed })
  full_found c shape all (inr m) = inr (MissingFact m.0, (λ e. cc), record { shape = shape; own = all; least = m.1 })

  own_found : (c : Certificate) → IsShapeOf x c.shape → Own c.facts → Found c
  own_found c shape (inl all) = full_found c shape all (full c.facts)
  own_found c shape (inr s) = inr (StrangeFact s.0, (λ e. cc), record { shape = shape; first = s.1 })

  shape_found : (c : Certificate) (s : Shape) → IsShapeOf x s → Decided (s ≡ c.shape) → Found c
  shape_found c s is (yes same) = own_found c (subst (IsShapeOf x) same is) (own c.facts)
  shape_found c s is (no other) = inr (
    WrongExchange s c.shape,
    (λ e. cc),
    record
        { own = is; told = refl; differ = λ also. other (one_shape x s c.shape is also) },
  )

  pub found : IsExchange x → (c : Certificate) → Found c
  found kept c = shape_found c (shape_of x) (is_shape x kept) (same_shape (shape_of x) c.shape)
