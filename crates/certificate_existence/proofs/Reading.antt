-- A text is that of a certificate, or has a first line that is not as stated.
use Rattle.std.proofs.Common.{◌≡◌, ◌≢◌, ◌⊎◌, inl, inr, ℕ, zero, suc, ◌+◌, ◌≤◌, ◌^◌, true, false}
use Rattle.std.proofs.Common.{true≢false, List, [], ◌∷◌, ◌++◌, length, refl, sym, subst, arith}
use Rattle.std.proofs.Common.{le_refl}
use Rattle.std.specs.List.{AllByRecursion}
use Rattle.std.specs.List.Sorted.{IsStrictlySortedBy}
use Rattle.std.specs.declared.cmp.Ordering.{Ordering}
use Rattle.std.specs.declared.cmp.Ordering.TheVariants.{Less, Equal, Greater}
use Rattle.plex_limits.specs.declared.limits.TheConstants.{MOST_TEMPORARIES, MOST_VALUES}
use Rattle.flow_points.specs.declared.fact.Fact.{Fact}
use Rattle.flow_points.specs.declared.fact.Slot.{Slot}
use Rattle.flow_points.specs.declared.fact.Slot.TheVariants.{Answered, Awaits, Depth, Given, Temp}
use Rattle.flow_points.specs.declared.fact.Value.{Value}
use Rattle.flow_points.specs.declared.fact.Value.TheVariants.{Any, Arg, Const}
use Rattle.flow_points.specs.Facts.{fact}
use Rattle.flow_points.specs.Orders.{fact_order}
use Rattle.text_lines.specs.Lines.{ended}
use Rattle.certificate_text.specs.declared.certificate.Certificate.{Certificate}
use Rattle.certificate_text.specs.declared.certificate.Shape.{Shape}
use Rattle.certificate_text.specs.declared.version.Version.{Version}
use Rattle.certificate_text.specs.declared.version.Version.TheVariants.{One, Two}
use Rattle.certificate_text.specs.Lines.{HasBadLine, IsTextOf}
use Rattle.certificate_text.specs.Parts.{IsFactAt, IsShapeAt, IsVersionAt}
use Rattle.certificate_text.specs.Text.{CanTell, FactFits, FactNumbers, HasTextNumber, IsNumber}
use Rattle.certificate_text.specs.Text.{ShapeNumbers, SlotFits, ValueFits, fact_line, last_line}
use Rattle.certificate_text.specs.Text.{shape_line, version_line}
use Rattle.certificate_text.proofs.Orders.{Rise}
use Rattle.certificate_text.proofs.Stated.{Read, certificate, line_shorter, no_first_line}
use Rattle.certificate_text.proofs.Stated.{no_second_line, read_begin, read_fall, read_last}
use Rattle.certificate_text.proofs.Stated.{read_more, read_past, read_strange, two_lines}
use Rattle.finite_facts.proofs.Finite.{Decided, Listed, IsMadeBelow, below, both, certain}
use Rattle.finite_facts.proofs.Finite.{decided_as, either, listed_as, listed_map, listed_one}
use Rattle.finite_facts.proofs.Finite.{listed_or, listed_pair, made, no, same_number, some_case}
use Rattle.finite_facts.proofs.Finite.{yes}
use Rattle.finite_facts.proofs.Slots.{AreFirst, as_first, first_slots}

-- what stands behind the front of a text

heads : (a b : ℕ) (x y : List ℕ) → b ∷ y ≡ a ∷ x → b ≡ a
heads a b x y e = cc

rests : (a b : ℕ) (x y : List ℕ) → b ∷ y ≡ a ∷ x → y ≡ x
rests a b x y e = cc

pub begins : (front text : List ℕ) → Decided ((rest : List ℕ) × (text ≡ front ++ rest))
begins [] text = yes (text, refl)
begins (a ∷ front) [] = no (λ h. let e = h.1 in cc)
begins (a ∷ front) (b ∷ text) =
    decided_as (λ h. (h.1.0, λ i. h.0 i ∷ h.1.1 i)) (λ h. (heads a b (front ++ h.0) text h.1, (h.0, rests a b (front ++ h.0) text h.1)))
    (both (same_number b a) (begins front text))

-- shapes and facts that a text can tell are finitely many

numbers : Listed IsNumber
numbers = below (2 ^ 32)

abbrev Numbers : Type 0
Numbers = ((ℕ × ℕ) × ℕ) × ((ℕ × ℕ) × ℕ)

abbrev AreTwo : ℕ × ℕ → Type 0
AreTwo n = IsNumber n.0 × IsNumber n.1

abbrev AreThree : (ℕ × ℕ) × ℕ → Type 0
AreThree n = AreTwo n.0 × IsNumber n.1

abbrev AreSix : Numbers → Type 0
AreSix n = AreThree n.0 × AreThree n.1

three : Listed AreThree
three = listed_pair AreTwo IsNumber (listed_pair IsNumber IsNumber numbers numbers) numbers

shape_of : Numbers → Shape
shape_of n = record { signals = n.0.0.0; blocks = n.0.0.1; points = n.0.1; cells = n.1.0.0; entries = n.1.0.1; references = n.1.1 }

shapes : Listed ShapeNumbers
unfolding shape_of
shapes =
    listed_as (λ s. (n : Numbers) × AreSix n × (s ≡ shape_of n)) ShapeNumbers to
    (λ s h. (
      (((s.signals, s.blocks), s.points), ((s.cells, s.entries), s.references)),
      (((h.signals, h.blocks), h.points), ((h.cells, h.entries), h.references)),
      refl,
    ))
    (listed_map AreSix shape_of (listed_pair AreThree AreThree three three))
  where
    to : (s : Shape) → (n : Numbers) × AreSix n × (s ≡ shape_of n) → ShapeNumbers s
    to s h =
        let are = h.1 in
        subst ShapeNumbers (sym h.2) (record {
          signals = are.0.0.0;
          blocks = are.0.0.1;
          points = are.0.1;
          cells = are.1.0.0;
          entries = are.1.0.1;
          references = are.1.1;
        })

slots : Listed SlotFits
slots =
    listed_as (AreFirst MOST_TEMPORARIES MOST_VALUES MOST_VALUES) SlotFits
    (as_first MOST_TEMPORARIES MOST_VALUES MOST_VALUES SlotFits (λ t h. h) (λ k h. h) (λ k h. h) tt tt) back
    (first_slots MOST_TEMPORARIES MOST_VALUES MOST_VALUES)
  where
    back : (s : Slot) → SlotFits s → AreFirst MOST_TEMPORARIES MOST_VALUES MOST_VALUES s
    back (Temp t) h = h
    back (Given k) h = h
    back (Answered k) h = h
    back Depth h = h
    back Awaits h = h

abbrev IsSmall : Value → Type 0
IsSmall v = ValueFits v × HasTextNumber v

abbrev AValue : Value → Type 0
AValue v = IsMadeBelow (λ k. Arg k) MOST_VALUES v ⊎ (IsMadeBelow (λ c. Const c) (2 ^ 32) v ⊎ (v ≡ Any))

value_to : (v : Value) → AValue v → IsSmall v
value_to v (inl h) = subst IsSmall (sym h.2) (h.1, tt)
value_to v (inr (inl h)) = subst IsSmall (sym h.2) (tt, h.1)
value_to v (inr (inr is)) = subst IsSmall (sym is) (tt, tt)

value_from : (v : Value) → IsSmall v → AValue v
value_from (Arg k) h = inl (k, h.0, refl)
value_from (Const c) h = inr (inl (c, h.1, refl))
value_from Any h = inr (inr refl)

values : Listed IsSmall
values =
    listed_as AValue IsSmall value_to value_from
    (listed_or (IsMadeBelow (λ k. Arg k) MOST_VALUES) (λ v. IsMadeBelow (λ c. Const c) (2 ^ 32) v ⊎ (v ≡ Any))
    (made (λ k. Arg k) MOST_VALUES) (listed_or (IsMadeBelow (λ c. Const c) (2 ^ 32)) (λ v. v ≡ Any)
    (made (λ c. Const c) (2 ^ 32)) (listed_one Any)))

abbrev Parts : Type 0
Parts = (ℕ × ℕ) × (Slot × Value)

abbrev AreSpot : Slot × Value → Type 0
AreSpot s = SlotFits s.0 × IsSmall s.1

abbrev AreParts : Parts → Type 0
AreParts p = AreTwo p.0 × AreSpot p.1

abbrev fact_of : Parts → Fact
fact_of p = fact p.0.0 p.0.1 p.1.0 p.1.1

abbrev Tellable : Fact → Type 0
Tellable f = FactFits f × FactNumbers f

facts : Listed Tellable
facts =
    listed_as (λ f. (p : Parts) × AreParts p × (f ≡ fact_of p)) Tellable to
    (λ f h. (((f.entry, f.point), (f.slot, f.value)), ((h.1.entry, h.1.point), (h.0.slot, (h.0.value, h.1.value))), refl))
    (listed_map AreParts fact_of (listed_pair AreTwo AreSpot (listed_pair IsNumber IsNumber numbers numbers) (listed_pair SlotFits IsSmall slots values)))
  where
    to : (f : Fact) → (p : Parts) × AreParts p × (f ≡ fact_of p) → Tellable f
    to f h =
        let are = h.1 in
        subst Tellable (sym h.2) (record { slot = are.1.0; value = are.1.1.0 }, record { entry = are.0.0; point = are.0.1; value = are.1.1.1 })

-- the lines at the front of a text

abbrev AVersion : List ℕ → Type 0
AVersion text = (v : Version) × ((rest : List ℕ) × IsVersionAt text v rest)

version_of : (text : List ℕ) (v : Version) → Decided ((rest : List ℕ) × IsVersionAt text v rest)
version_of text v = decided_as (λ h. (h.0, record { so = h.1 })) (λ h. (h.0, h.1.so)) (begins (ended (version_line v)) text)

a_version : (text : List ℕ) → Decided (AVersion text)
a_version text = decided_as to from (either (version_of text One) (version_of text Two))
  where
    to : ((rest : List ℕ) × IsVersionAt text One rest) ⊎ ((rest : List ℕ) × IsVersionAt text Two rest) → AVersion text
    to (inl h) = (One, h)
    to (inr h) = (Two, h)

    from : AVersion text → ((rest : List ℕ) × IsVersionAt text One rest) ⊎ ((rest : List ℕ) × IsVersionAt text Two rest)
    from (One, h) = inl h
    from (Two, h) = inr h

can_tell : (v : Version) (references : ℕ) → Decided (CanTell v references)
can_tell One references = same_number references 0
can_tell Two references = certain tt

abbrev AShape : Version → List ℕ → Type 0
AShape v text = (s : Shape) × ((rest : List ℕ) × IsShapeAt v text s rest)

a_shape : (v : Version) (text : List ℕ) → Decided (AShape v text)
a_shape v text =
    decided_as (λ h. (h.0, (h.2.1.0, record { numbers = h.1; tells = h.2.0; so = h.2.1.1 }))) (λ h. (h.0, h.1.1.numbers, (h.1.1.tells, (h.1.0, h.1.1.so))))
    (some_case ShapeNumbers (λ s. CanTell v s.references × ((rest : List ℕ) × (text ≡ ended (shape_line v s) ++ rest)))
    shapes (λ s are. both (can_tell v s.references) (begins (ended (shape_line v s)) text)))

abbrev AFact : List ℕ → Type 0
AFact text = (f : Fact) × ((rest : List ℕ) × IsFactAt text f rest)

a_fact : (text : List ℕ) → Decided (AFact text)
a_fact text =
    decided_as (λ h. (h.0, (h.2.0, record { fits = h.1.0; numbers = h.1.1; so = h.2.1 }))) (λ h. (h.0, (h.1.1.fits, h.1.1.numbers), (h.1.0, h.1.1.so)))
    (some_case Tellable (λ f. (rest : List ℕ) × (text ≡ ended (fact_line f) ++ rest)) facts (λ f tellable. begins (ended (fact_line f)) text))

-- facts rise or not

is_less : (o : Ordering) → Decided (o ≡ Less)
is_less Less = yes refl
is_less Equal = no (λ e. cc)
is_less Greater = no (λ e. cc)

all_above : (f : Fact) (fs : List Fact) → Decided (AllByRecursion (λ g. fact_order f g ≡ Less) fs)
all_above f [] = certain tt
all_above f (g ∷ fs) = both (is_less (fact_order f g)) (all_above f fs)

rise : (fs : List Fact) → Decided (Rise fs)
unfolding IsStrictlySortedBy
rise [] = certain tt
rise (f ∷ fs) = both (all_above f fs) (rise fs)

-- what becomes of a text
abbrev pub Outcome : List ℕ → Type 0
Outcome text = ((c : Certificate) × IsTextOf text c) ⊎ ((l : ℕ) × HasBadLine text l)

module _ (v : Version) (s : Shape) (text : List ℕ) where
  abbrev Goes : List ℕ → List Fact → ℕ → Type 0
  Goes rest fs number = Read v s text rest fs number

  -- behind the last line of a fact
  at_end : (rest : List ℕ) (fs : List Fact) (number : ℕ) → Goes rest fs number → (AFact rest → ⊥) → Outcome text
  at_end rest fs number r none = by (begins (ended last_line) rest)
    where
      ends : (after : List ℕ) → rest ≡ ended last_line ++ after → Outcome text
      ends [] is = inl (certificate s fs, read_last v s text rest [] fs number r is refl)
      ends (b ∷ after) is = inr (number + 2, read_past v s text rest (b ∷ after) fs number r is (λ e. cc))

      by : Decided ((after : List ℕ) × (rest ≡ ended last_line ++ after)) → Outcome text
      by (yes h) = ends h.0 h.1
      by (no other) = inr (number + 1, read_strange v s text rest fs number r (λ f after is. none (f, (after, is))) (λ after is. other (after, is)))

  -- behind one more
  at_fact : (rest after : List ℕ) (fs : List Fact) (f : Fact) (number : ℕ) → Goes rest fs number → IsFactAt rest f after
      → (Goes after (fs ++ f ∷ []) (number + 1) → Outcome text) → Outcome text
  at_fact rest after fs f number r is on = by (rise (fs ++ f ∷ []))
    where
      by : Decided (Rise (fs ++ f ∷ [])) → Outcome text
      by (yes up) = on (read_more v s text rest after fs fs (fs ++ f ∷ []) f number true r is refl ((λ t. up), (λ h. refl)) refl refl)
      by (no falls) = inr (
        number + 1,
        read_fall v s text rest after fs fs f number false r is refl
            ((λ t. absurd (true≢false (sym t))), (λ h. absurd (falls h))) refl,
      )

  facts_read : (n : ℕ) (rest : List ℕ) (fs : List Fact) (number : ℕ) → length rest ≤ n → Goes rest fs number → Outcome text
  facts_read zero rest fs number few r = by (a_fact rest)
    where
      by : Decided (AFact rest) → Outcome text
      by (yes h) = absurd (let less = line_shorter rest h.1.0 h.0 h.1.1 in omega (arith, few, less))
      by (no none) = at_end rest fs number r none
  facts_read (suc n) rest fs number few r = by (a_fact rest) (λ f after lt. facts_read n after (fs ++ f ∷ []) (number + 1) lt)
    where
      by : Decided (AFact rest) → ((f : Fact) (after : List ℕ) → length after ≤ n → Goes after (fs ++ f ∷ []) (number + 1) → Outcome text) → Outcome text
      by (yes h) on = at_fact rest h.1.0 fs h.0 number r h.1.1 (on h.0 h.1.0 (let less = line_shorter rest h.1.0 h.0 h.1.1 in omega (arith, few, less)))
      by (no none) on = at_end rest fs number r none

shape_read : (text rest : List ℕ) (v : Version) → IsVersionAt text v rest → Outcome text
shape_read text rest v is = by (a_shape v rest)
  where
    by : Decided (AShape v rest) → Outcome text
    by (yes h) = facts_read v h.0 text (length h.1.0) h.1.0 [] 2 (le_refl (length h.1.0))
        (read_begin v h.0 text h.1.0 [] (two_lines text rest h.1.0 v h.0 is h.1.1) refl)
    by (no none) = inr (2, no_second_line text rest v is (λ s after at. none (s, (after, at))))

pub text_read : (text : List ℕ) → Outcome text
text_read text = by (a_version text)
  where
    by : Decided (AVersion text) → Outcome text
    by (yes h) = shape_read text h.1.0 h.0 h.1.1
    by (no none) = inr (1, no_first_line text (λ v rest at. none (v, (rest, at))))
