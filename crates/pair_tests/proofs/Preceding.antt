-- The order of conflicts.
use Rattle.std.proofs.Common.{◌≡◌, ◌⊎◌, inl, inr, ℕ, ◌<◌, refl, sym, ap, ◌∙◌, subst, arith}
use Rattle.std.specs.declared.cmp.Ordering.{Ordering}
use Rattle.std.specs.declared.cmp.Ordering.TheVariants.{Less, Equal, Greater}
use Rattle.std.specs.Cmp.{IsTotalOrder}
use Rattle.std.specs.Ordering.{ordering_reverse}
use Rattle.std.proofs.lemmas.Bool.{cases_order}
use Rattle.std.proofs.lemmas.Cmp.{tied_itself}
use Rattle.plex_num.specs.declared.level.Level.{Level}
use Rattle.plex_num.specs.declared.level.Level.TheVariants.{A, B, C, D}
use Rattle.plex_num.proofs.Numbers.{nat_same}
use Rattle.flow_points.specs.declared.fact.Value.{Value}
use Rattle.flow_points.specs.declared.fact.Value.TheVariants.{Arg, Const, Any}
use Rattle.flow_points.specs.contracts.fact.ValueOrd.TheImpl.Laws.{total-law}
use Rattle.entry_summary.specs.Orders.{value_order, level_number}
use Rattle.pair_tests.specs.declared.pair.Conflict.{Conflict}
use Rattle.pair_tests.specs.declared.pair.Conflict.TheVariants.{Variable, Field, Seizing, Above}
use Rattle.pair_tests.specs.Orders.{Precedes, SelectorsPrecede}

values_total : IsTotalOrder value_order
values_total = total-law

not_below_itself : (u : Value) → value_order u u ≡ Less → ⊥
not_below_itself u h = let e = tied_itself values_total u in let f : Equal ≡ Less = sym e ∙ h in cc

selectors_itself : (u v : Value) → SelectorsPrecede u v u v → ⊥
selectors_itself u v (inl h) = not_below_itself u h
selectors_itself u v (inr h) = not_below_itself v h.1

pub selectors_trans : (u v w z s t : Value) → SelectorsPrecede u v w z → SelectorsPrecede w z s t → SelectorsPrecede u v s t
selectors_trans u v w z s t (inl p) (inl q) = inl (values_total.trans u w s p q)
selectors_trans u v w z s t (inl p) (inr q) = inl (subst (λ x. value_order u x ≡ Less) q.0 p)
selectors_trans u v w z s t (inr p) (inl q) = inl (subst (λ x. value_order x s ≡ Less) (sym p.0) q)
selectors_trans u v w z s t (inr p) (inr q) = inr (p.0 ∙ q.0, values_total.trans v z t p.1 q.1)

pub fields_trans : (n m k : ℕ) (u v w z s t : Value) → Precedes (Field n u v) (Field m w z)
    → Precedes (Field m w z) (Field k s t) → Precedes (Field n u v) (Field k s t)
fields_trans n m k u v w z s t (inl p) (inl q) = inl (omega arith)
fields_trans n m k u v w z s t (inl p) (inr q) = (let e = q.0 in inl (omega arith))
fields_trans n m k u v w z s t (inr p) (inl q) = (let e = p.0 in inl (omega arith))
fields_trans n m k u v w z s t (inr p) (inr q) = inr (p.0 ∙ q.0, selectors_trans u v w z s t p.1 q.1)

field_itself : (n : ℕ) (u v : Value) → Precedes (Field n u v) (Field n u v) → ⊥
field_itself n u v (inl h) = omega arith
field_itself n u v (inr h) = selectors_itself u v h.1

pub none_before_itself : (c : Conflict) → Precedes c c → ⊥
none_before_itself (Variable n) h = omega arith
none_before_itself (Field n u v) h = field_itself n u v h
none_before_itself (Seizing f) h = omega arith
none_before_itself (Above l) h = omega arith

pub precedes_trans : (c d e : Conflict) → Precedes c d → Precedes d e → Precedes c e
precedes_trans (Variable n) (Variable m) (Variable k) p q = omega arith
precedes_trans (Variable n) d (Field k s t) p q = tt
precedes_trans (Variable n) d (Seizing k) p q = tt
precedes_trans (Variable n) d (Above k) p q = tt
precedes_trans (Variable n) d (Variable k) p q = absurd q
precedes_trans (Field n u v) (Variable m) e p q = absurd p
precedes_trans (Field n u v) (Field m w z) (Field k s t) p q = fields_trans n m k u v w z s t p q
precedes_trans (Field n u v) d (Variable k) p q = absurd q
precedes_trans (Field n u v) d (Field k s t) p q = absurd q
precedes_trans (Field n u v) d (Seizing k) p q = tt
precedes_trans (Field n u v) d (Above k) p q = tt
precedes_trans (Seizing f) (Variable m) e p q = absurd p
precedes_trans (Seizing f) (Field m w z) e p q = absurd p
precedes_trans (Seizing f) (Seizing g) (Seizing k) p q = omega arith
precedes_trans (Seizing f) d (Above k) p q = tt
precedes_trans (Seizing f) d e p q = absurd q
precedes_trans (Above l) (Above m) (Above k) p q = omega arith
precedes_trans (Above l) (Above m) e p q = absurd q
precedes_trans (Above l) d e p q = absurd p

-- of two conflicts one comes before the other, or they are the same

pub data Ranked (c d : Conflict) : Type 0 where
  Same : c ≡ d → Ranked c d
  Before : Precedes c d → Ranked c d
  After : Precedes d c → Ranked c d

value_equal : (u w : Value) → value_order u w ≡ Equal → u ≡ w
value_equal (Arg a) (Arg b) e = ap Arg (nat_same a b e)
value_equal (Const a) (Const b) e = ap Const (nat_same a b e)
value_equal Any Any e = refl
value_equal (Arg a) (Const b) e = cc
value_equal (Arg a) Any e = cc
value_equal (Const a) (Arg b) e = cc
value_equal (Const a) Any e = cc
value_equal Any (Arg b) e = cc
value_equal Any (Const b) e = cc

value_greater : (u w : Value) → value_order u w ≡ Greater → value_order w u ≡ Less
value_greater u w e = values_total.antisymm w u ∙ ap ordering_reverse e

-- what an order tells of two
data Told (o : Ordering) : Type 0 where
  Lower : o ≡ Less → Told o
  Even : o ≡ Equal → Told o
  Higher : o ≡ Greater → Told o

told : (o : Ordering) → Told o
told Less = Lower refl
told Equal = Even refl
told Greater = Higher refl

data SelectorsRanked (u v w z : Value) : Type 0 where
  Same_both : u ≡ w → v ≡ z → SelectorsRanked u v w z
  Before_both : SelectorsPrecede u v w z → SelectorsRanked u v w z
  After_both : SelectorsPrecede w z u v → SelectorsRanked u v w z

later_ranked : (u v w z : Value) → u ≡ w → Told (value_order v z) → SelectorsRanked u v w z
later_ranked u v w z e (Lower h) = Before_both (inr (e, h))
later_ranked u v w z e (Even h) = Same_both e (value_equal v z h)
later_ranked u v w z e (Higher h) = After_both (inr (sym e, value_greater v z h))

selectors_ranked : (u v w z : Value) → Told (value_order u w) → SelectorsRanked u v w z
selectors_ranked u v w z (Lower h) = Before_both (inl h)
selectors_ranked u v w z (Even h) = later_ranked u v w z (value_equal u w h) (told (value_order v z))
selectors_ranked u v w z (Higher h) = After_both (inl (value_greater u w h))

fields_ranked : (n : ℕ) (u v w z : Value) → SelectorsRanked u v w z → Ranked (Field n u v) (Field n w z)
fields_ranked n u v w z (Same_both e f) = Same (λ i. Field n (e i) (f i))
fields_ranked n u v w z (Before_both h) = Before (inr (refl, h))
fields_ranked n u v w z (After_both h) = After (inr (refl, h))

same_level : (l m : Level) → level_number l ≡ level_number m → l ≡ m
same_level A A e = refl
same_level B B e = refl
same_level C C e = refl
same_level D D e = refl
same_level _ _ e = absurd (omega arith)

numbers_ranked : (c d : ℕ → Conflict) (n m : ℕ) → ((k : ℕ) → c k ≡ d k) → (n < m → Precedes (c n) (d m))
    → (m < n → Precedes (d m) (c n)) → (n ≡ m) ⊎ ((n < m) ⊎ (m < n)) → Ranked (c n) (d m)
numbers_ranked c d n m same before after (inl h) = Same (same n ∙ ap d h)
numbers_ranked c d n m same before after (inr (inl h)) = Before (before h)
numbers_ranked c d n m same before after (inr (inr h)) = After (after h)

field_ranked : (n m : ℕ) (u v w z : Value) → (n ≡ m) ⊎ ((n < m) ⊎ (m < n)) → Ranked (Field n u v) (Field m w z)
field_ranked n m u v w z (inl h) = subst (λ k. Ranked (Field n u v) (Field k w z)) h
    (fields_ranked n u v w z (selectors_ranked u v w z (told (value_order u w))))
field_ranked n m u v w z (inr (inl h)) = Before (inl h)
field_ranked n m u v w z (inr (inr h)) = After (inl h)

level_ranked : (l m : Level) → (level_number l ≡ level_number m)
    ⊎ ((level_number l < level_number m) ⊎ (level_number m < level_number l)) → Ranked (Above l) (Above m)
level_ranked l m (inl h) = Same (ap Above (same_level l m h))
level_ranked l m (inr (inl h)) = Before h
level_ranked l m (inr (inr h)) = After h

pub ranked : (c d : Conflict) → Ranked c d
ranked (Variable n) (Variable m) = numbers_ranked Variable Variable n m (λ k. refl) (λ h. h) (λ h. h) (cases_order n m)
ranked (Field n u v) (Field m w z) = field_ranked n m u v w z (cases_order n m)
ranked (Seizing n) (Seizing m) = numbers_ranked Seizing Seizing n m (λ k. refl) (λ h. h) (λ h. h) (cases_order n m)
ranked (Above l) (Above m) = level_ranked l m (cases_order (level_number l) (level_number m))
ranked (Variable n) _ = Before tt
ranked _ (Variable m) = After tt
ranked (Field n u v) _ = Before tt
ranked _ (Field m w z) = After tt
ranked (Seizing n) _ = Before tt
ranked _ (Seizing m) = After tt

-- what neither precedes nor comes after
pub not_before : (b c d : Conflict) → (Precedes d b → ⊥) → (Precedes c d → ⊥) → Precedes c b → ⊥
not_before b c d later least before = at b c d later least before (ranked c d)
  where
    at : (b c d : Conflict) → (Precedes d b → ⊥) → (Precedes c d → ⊥) → Precedes c b → Ranked c d → ⊥
    at b c d later least before (Same e) = later (subst (λ x. Precedes x b) e before)
    at b c d later least before (Before h) = least h
    at b c d later least before (After h) = later (precedes_trans d c b h before)
