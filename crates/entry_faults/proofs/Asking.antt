-- Whether a value may be a number as asked.
use Rattle.std.proofs.Common.{◌≡◌, ◌⊎◌, inl, inr, ℕ, ◌+◌, ◌^◌, ◌<◌, Bool, true, false, not, nat_eq}
use Rattle.std.proofs.Common.{nat_lt, List, [], ◌∷◌, ◌||◌, Option, Some, None, refl, sym, ap, ◌∙◌}
use Rattle.std.proofs.Common.{subst, arith}
use Rattle.std.specs.Prelude.{◌↔◌}
use Rattle.std.specs.List.{Contains, list_any}
use Rattle.std.proofs.lemmas.Bool.{eqb-true, eqb-false, eq-eqb, ne_eqb, ltb-true, ltb-false, lt-ltb}
use Rattle.std.proofs.lemmas.Bool.{le-ltb, not-true, not_from_false}
use Rattle.std.proofs.Math.Nat.{pow-le-pow_right}
use Rattle.std.proofs.lemmas.Nat.{pow_below}
use Rattle.plex_num.proofs.Members.{first_or_later, none_in, first_is, later_is}
use Rattle.exchange_model.specs.declared.exchange.Exchange.{Exchange}
use Rattle.source_meaning.specs.Config.{receiver_of}
use Rattle.flow_points.specs.declared.fact.Value.{Value}
use Rattle.flow_points.specs.declared.fact.Value.TheVariants.{Arg, Const, Any}
use Rattle.flow_points.specs.Facts.{Facts, SourceGives}
use Rattle.flow_table.specs.Giving.{AreValues}
use Rattle.entry_summary.specs.Faults.{ValueMayBe}
use Rattle.entry_faults.specs.declared.question.Asked.{Asked}
use Rattle.entry_faults.specs.declared.question.Asked.TheVariants.{AtLeast, TooWide, Equal}
use Rattle.entry_faults.specs.declared.question.Asked.TheVariants.{OtherAnswer, NoReceiver}
use Rattle.entry_faults.specs.declared.question.Question.{Question}
use Rattle.entry_faults.specs.Asking.{Meets, MayMeet, MayAnswer, lacks_receiver, number_meets}
use Rattle.entry_faults.specs.Asking.{some_meets, value_meets}

-- Booleans

pub wide_is : (b : Bool) (n width : ℕ) → ((b ≡ true) ↔ (n < 2 ^ width)) → not b ≡ not (nat_lt n (2 ^ width))
wide_is true n width h = ap not (sym (lt-ltb n (2 ^ width) (h.0 refl)))
wide_is false n width h = ap not (below (nat_lt n (2 ^ width)) refl)
  where
    below : (t : Bool) → nat_lt n (2 ^ width) ≡ t → false ≡ nat_lt n (2 ^ width)
    below true is = h.1 (ltb-true n (2 ^ width) is) ∙ sym is
    below false is = sym is

pub other_is : (b : Bool) (n answer : ℕ) → b ≡ nat_eq n (answer + 1) → not b ≡ not (nat_eq n (answer + 1))
other_is b n answer is = ap not is

pub word_is : (n : ℕ) → n < 2 ^ 32 → true ≡ nat_lt n (2 ^ 32)
word_is n lt = sym (lt-ltb n (2 ^ 32) lt)

-- a number

lacks : (o : Option ℕ) → (lacks_receiver o ≡ true) ↔ (o ≡ None)
lacks None = (λ _. refl, λ _. refl)
lacks (Some b) = (λ e. absurd (let clash : false ≡ true = e in cc), λ e. absurd (let clash : Some b ≡ None = e in cc))

pub number_is : (x : Exchange) (asked : Asked) (n : ℕ) → (number_meets x asked n ≡ true) ↔ Meets x asked n
number_is x (AtLeast least) n = (λ e. ltb-false n least (not-true (nat_lt n least) e), λ le. not_from_false (nat_lt n least) (le-ltb n least le))
number_is x (TooWide width) n = (
  λ e. ltb-false n (2 ^ width) (not-true (nat_lt n (2 ^ width)) e),
  λ le. not_from_false
      (nat_lt n (2 ^ width)) (le-ltb n (2 ^ width) le),
)
number_is x (Equal number) n = (λ e. eqb-true n number e, λ is. eq-eqb n number is)
number_is x (OtherAnswer answer) n = (
  λ e. eqb-false n (answer + 1) (not-true (nat_eq n (answer + 1)) e),
  λ other.
      not_from_false (nat_eq n (answer + 1)) (ne_eqb n (answer + 1) other),
)
number_is x (NoReceiver signal) n = lacks (receiver_of x signal n)

-- some number of 32 bits

pub record Some32 (x : Exchange) (asked : Asked) : Type 0 where
  pub number : ℕ
  pub word : number < 2 ^ 32
  pub meets : Meets x asked number

pub some_is : (x : Exchange) (asked : Asked) → (some_meets asked ≡ true) ↔ Some32 x asked
some_is x (AtLeast least) = (
  λ e. record { number = least; word = ltb-true least (2 ^ 32) e; meets = omega arith },
  λ h.
      lt-ltb least (2 ^ 32) (let w = h.word in let m = h.meets in omega (arith, w, m)),
)
some_is x (TooWide width) = (
  λ e. record {
    number = 2 ^ width;
    word = pow_below width 32 (ltb-true width 32 e);
    meets = omega arith;
  },
  λ h. narrow (nat_lt width 32) refl h,
)
  where
    narrow : (t : Bool) → nat_lt width 32 ≡ t → Some32 x (TooWide width) → nat_lt width 32 ≡ true
    narrow true is h = is
    narrow false is h = absurd (let wide = pow-le-pow_right {n = 2} (omega arith) (ltb-false width 32 is) in let
        w = h.word in let m = h.meets in omega (arith, wide, w, m))
some_is x (Equal number) = (
  λ e. record { number = number; word = ltb-true number (2 ^ 32) e; meets = refl },
  λ h.
      lt-ltb number (2 ^ 32) (subst (λ n. n < 2 ^ 32) h.meets h.word),
)
some_is x (OtherAnswer answer) = (
  λ _. record {
    number = 0;
    word = omega arith;
    meets = λ e. absurd (let f : 0 ≡ answer + 1 = e in omega (arith, f));
  },
  λ _. refl,
)
some_is x (NoReceiver signal) = (λ _. record { number = 0; word = omega arith; meets = refl }, λ _. refl)

-- a value

pub record MayValue (x : Exchange) (asked : Asked) (v : Value) : Type 0 where
  pub number : ℕ
  pub may : ValueMayBe v number
  pub meets : Meets x asked number

pub value_is : (x : Exchange) (asked : Asked) (v : Value) → (value_meets x asked v ≡ true) ↔ MayValue x asked v
value_is x asked (Arg k) = (
  λ e. let s = (some_is x asked).0 e in record
      { number = s.number; may = s.word; meets = s.meets },
  λ h. (some_is x asked).1
      (record { number = h.number; word = h.may; meets = h.meets }),
)
value_is x asked (Const n) = (
  λ e. record { number = n; may = refl; meets = (number_is x asked n).0 e },
  λ h.
      (number_is x asked n).1 (subst (Meets x asked) h.may h.meets),
)
value_is x asked Any = (
  λ e. let s = (some_is x asked).0 e in record
      { number = s.number; may = s.word; meets = s.meets },
  λ h. (some_is x asked).1
      (record { number = h.number; word = h.may; meets = h.meets }),
)

-- values

pub any_there : {A : Type 0} (f : A → Bool) (xs : List A) → list_any f xs ≡ true → (a : A) × Contains xs a × (f a ≡ true)
any_there f [] e = absurd (let clash : false ≡ true = e in cc)
any_there f (x ∷ xs) e = by (f x) refl e (λ more. any_there f xs more)
  where
    by : (t : Bool) → f x ≡ t → (t || list_any f xs) ≡ true
        → (list_any f xs ≡ true → (a : _) × Contains xs a × (f a ≡ true)) → (a : _) × Contains (x ∷ xs) a × (f a ≡ true)
    by true is e more = (x, first_is x xs, is)
    by false is e more = (let h = more e in (h.0, later_is x h.0 xs h.1, h.2))

pub there_any : {A : Type 0} (f : A → Bool) (xs : List A) (a : A) → Contains xs a → f a ≡ true → list_any f xs ≡ true
there_any f [] a c is = absurd (none_in a c)
there_any f (x ∷ xs) a c is = by (f x) refl (first_or_later x a xs c) (λ later. there_any f xs a later is)
  where
    by : (t : Bool) → f x ≡ t → (x ≡ a) ⊎ Contains xs a → (Contains xs a → list_any f xs ≡ true) → (t || list_any f xs) ≡ true
    by true so h more = refl
    by false so (inl e) more = absurd (let clash : false ≡ true = sym so ∙ ap f e ∙ is in cc)
    by false so (inr later) more = more later

pub answered : (x : Exchange) (P : Facts) (e p : ℕ) (o : Option Question) (q : Question) (values list : List Value)
    (b : Bool) → o ≡ Some q → AreValues (SourceGives P e p q.source) values → list ≡ values
    → b ≡ list_any (value_meets x q.asked) list → (b ≡ true) ↔ MayAnswer x P e p o
answered x P e p o q values list b is are same any = subst (λ u. (b ≡ true) ↔ MayAnswer x P e p u) (sym is) (there, back)
  where
    there : b ≡ true → MayMeet x P e p q.source q.asked
    there so =
        let h = any_there (value_meets x q.asked) list (sym any ∙ so) in
        let v = (value_is x q.asked h.0).0 h.2 in
        record { number = v.number; may = record { value = h.0; comes = are.each h.0 (subst (λ l. Contains l h.0) same h.1); is = v.may }; meets = v.meets }

    back : MayMeet x P e p q.source q.asked → b ≡ true
    back m = any ∙ there_any (value_meets x q.asked) list m.may.value
        (subst (λ l. Contains l m.may.value) (sym same) (are.listed m.may.value m.may.comes))
        ((value_is x q.asked m.may.value).1 (record { number = m.number; may = m.may.is; meets = m.meets }))

pub not_asked : (x : Exchange) (P : Facts) (e p : ℕ) (o : Option Question) → o ≡ None → (false ≡ true) ↔ MayAnswer x P e p o
not_asked x P e p o is = subst (λ u. (false ≡ true) ↔ MayAnswer x P e p u) (sym is) (λ clash. (let e : false ≡ true = clash in cc), λ none. absurd none)
