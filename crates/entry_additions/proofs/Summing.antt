-- The code decides exactly whether a statement adds to a variable or a field.
use Rattle.std.proofs.Common.{◌≡◌, ℕ, ◌+◌, ◌≤◌, Bool, true, false, cond, not, nat_eq, ◌&&◌, ◌||◌}
use Rattle.std.proofs.Common.{List, [], ◌∷◌, ◌++◌, map, Option, Some, None, refl, sym, ap, ◌∙◌}
use Rattle.std.proofs.Common.{subst, arith}
use Rattle.std.specs.Prelude.{slice_get}
use Rattle.std.specs.List.{AllByRecursion, Contains, count_by, list_any}
use Rattle.std.proofs.lemmas.Bool.{and_from, and_parts, eq-eqb, eqb-true, false_from_ne_true}
use Rattle.std.proofs.lemmas.Bool.{true≢false}
use Rattle.std.proofs.lemmas.List.Sums.{sum_by-cons, sum_by-append}
use Rattle.plex_num.proofs.Members.{first_is}
use Rattle.exchange_model.specs.declared.exchange.Exchange.{Exchange}
use Rattle.exchange_model.specs.declared.expr.Expr.{Expr, out-Expr}
use Rattle.exchange_model.specs.declared.expr.Factor.{Factor, out-Factor, roll-Factor}
use Rattle.exchange_model.specs.declared.expr.Factor.{roll-out-Factor}
use Rattle.exchange_model.specs.declared.expr.Factor.TheOpen as layer
use Rattle.exchange_model.specs.declared.expr.Factor.TheVariants as factor
use Rattle.exchange_model.specs.declared.expr.FactorOp.{FactorOp}
use Rattle.exchange_model.specs.declared.expr.FactorOp.TheVariants.{Times, Divide, Modulo}
use Rattle.exchange_model.specs.declared.expr.Joined.{Joined}
use Rattle.exchange_model.specs.declared.expr.Term.{Term, out-Term}
use Rattle.exchange_model.specs.declared.stmt.StmtKind.TheOpen as stmt
use Rattle.exchange_model.specs.Cells.{Placed}
use Rattle.exchange_model.specs.Inside.{joined}
use Rattle.source_meaning.specs.Changes.{variable_width}
use Rattle.source_meaning.specs.Config.{files_of}
use Rattle.source_meaning.specs.Named.{Layer, Named, NamedField, NamedVariable, named_in_factor}
use Rattle.source_meaning.specs.Named.{named_in_joined, named_in_term}
use Rattle.source_meaning.proofs.Naming.{named_in_term-out, named-Field, named-Variable}
use Rattle.entry_summary.specs.Numbers.{field_number, variable_number}
use Rattle.additions_meaning.specs.Additions.{AddsTo, AddsToField, IsAdditionTo, IsNameTerm}
use Rattle.additions_meaning.specs.Additions.{NamesNone, adds as adding, adds_field, factor_of}
use Rattle.entry_additions.specs.declared.cells.CellKind.{CellKind}
use Rattle.entry_additions.specs.declared.cells.CellKind.TheVariants as kind
use Rattle.entry_additions.specs.Cells.{is_of_fields}
use Rattle.entry_additions.specs.Naming.{is_named, term_names}
use Rattle.entry_additions.specs.Sums.{adds, is_alone, is_own, is_sum, is_the_name, is_times}
use Rattle.entry_additions.specs.Sums.{width_in}
use Rattle.entry_additions.proofs.Named.{among_found, found_among}

-- a term that is only the name

times_is : (by : FactorOp) → is_times by ≡ true → by ≡ Times
times_is Times is = refl
times_is Divide is = cc
times_is Modulo is = cc

abbrev layer_of : Named → layer.Factor-F Factor Expr Joined Term
layer_of (NamedVariable v) = layer.Variable v
layer_of (NamedField file field pointer) = layer.Field file field pointer

out_of : (n : Named) → out-Factor (factor_of n) ≡ layer_of n
out_of (NamedVariable v) = factor.outs-Variable v
out_of (NamedField file field pointer) = factor.outs-Field file field pointer

layer_is : (n : Named) (l : layer.Factor-F Factor Expr Joined Term) → is_the_name n l ≡ true → l ≡ layer_of n
layer_is (NamedVariable v) (layer.Variable w) is = ap layer.Variable (eqb-true w v is)
layer_is (NamedVariable v) (layer.Field f g p) is = cc
layer_is (NamedField file field pointer) (layer.Variable w) is = cc
layer_is (NamedField file field pointer) (layer.Field f g p) is =
    let three = and_parts (nat_eq f file && nat_eq g field) (nat_eq p pointer) is in
    let two = and_parts (nat_eq f file) (nat_eq g field) three.0 in
    let file_is : f ≡ file = eqb-true f file two.0 in
    let field_is : g ≡ field = eqb-true g field two.1 in
    let pointer_is : p ≡ pointer = eqb-true p pointer three.1 in
    λ i. layer.Field (file_is i) (field_is i) (pointer_is i)
layer_is n _ is = cc

name_is : (n : Named) (f : Factor) → is_the_name n (out-Factor f) ≡ true → f ≡ factor_of n
name_is n f is = sym (roll-out-Factor f) ∙ ap roll-Factor (layer_is n (out-Factor f) is ∙ sym (out_of n)) ∙ roll-out-Factor (factor_of n)

name_here : (n : Named) → is_the_name n (layer_of n) ≡ true
name_here (NamedVariable v) = eq-eqb v v refl
name_here (NamedField file field pointer) =
    and_from (nat_eq file file && nat_eq field field) (nat_eq pointer pointer)
    (and_from (nat_eq file file) (nat_eq field field) (eq-eqb file file refl) (eq-eqb field field refl))
    (eq-eqb pointer pointer refl)

abbrev own_factors : Named → List Joined
own_factors n = record { by = Times; factor = factor_of n } ∷ []

alone_is : (n : Named) (js : List Joined) → is_alone n js ≡ true → js ≡ own_factors n
alone_is n [] is = cc
alone_is n (j ∷ []) is =
    let both = and_parts (is_times j.by) (is_the_name n (out-Factor j.factor)) is in
    let by = times_is j.by both.0 in
    let it = name_is n j.factor both.1 in
    λ i. record { by = by i; factor = it i } ∷ []
alone_is n (j ∷ k ∷ js) is = cc

is_alone_here : (n : Named) → is_alone n (own_factors n) ≡ true
is_alone_here n = ap (is_the_name n) (out_of n) ∙ name_here n

minus_is : (b : Bool) → not b ≡ true → b ≡ false
minus_is true is = cc
minus_is false is = refl

own_is : (n : Named) (t : Term) → is_own n t ≡ true → IsNameTerm n t
own_is n t is =
    let both = and_parts (not (out-Term t).minus) (is_alone n (out-Term t).factors) is in
    record { plus = minus_is (out-Term t).minus both.0; only = alone_is n (out-Term t).factors both.1 }

is_own_here : (n : Named) (t : Term) → IsNameTerm n t → is_own n t ≡ true
is_own_here n t h = and_from (not (out-Term t).minus) (is_alone n (out-Term t).factors) (ap not h.plus) (ap (is_alone n) h.only ∙ is_alone_here n)

-- it names the variable or the field

named_alone : (n : Named) → named_in_factor (factor_of n) ≡ n ∷ []
named_alone (NamedVariable v) = named-Variable v
named_alone (NamedField file field pointer) = named-Field file field pointer

named_itself : (n : Named) → is_named n n ≡ true
named_itself (NamedVariable v) = eq-eqb v v refl
named_itself (NamedField file field pointer) = and_from (nat_eq file file) (nat_eq field field) (eq-eqb file file refl) (eq-eqb field field refl)

own_names : (n : Named) (t : Term) → IsNameTerm n t → term_names n t ≡ true
own_names n t h =
    let named : named_in_term t ≡ n ∷ [] =
    named_in_term-out t ∙ ap (λ js. joined (map named_in_joined js)) h.only ∙ ap (λ ns. ns ++ []) (named_alone n) in
    among_found n (named_in_term t) n (subst (λ ns. Contains ns n) (sym named) (first_is n [])) (named_itself n)

none_named : (n : Named) (t : Term) → NamesNone n t → (m : Named) → Contains (named_in_term t) m → is_named n m ≡ true → ⊥
none_named (NamedVariable v) t none (NamedVariable w) c is = none (subst (λ u. Contains (named_in_term t) (NamedVariable u)) (eqb-true w v is) c)
none_named (NamedVariable v) t none (NamedField f g p) c is = cc
none_named (NamedField file field pointer) t none (NamedVariable w) c is = cc
none_named (NamedField file field pointer) t none (NamedField f g p) c is =
    let both = and_parts (nat_eq f file) (nat_eq g field) is in
    none p (subst (λ u. Contains (named_in_term t) (NamedField file u p)) (eqb-true g field both.1)
    (subst (λ u. Contains (named_in_term t) (NamedField u g p)) (eqb-true f file both.0) c))

not_named : (n : Named) (t : Term) → NamesNone n t → term_names n t ≡ false
not_named n t none = false_from_ne_true (term_names n t) (λ is. (let f = found_among n (named_in_term t) is in none_named n t none f.0 f.1 f.2))

names_not : (n : Named) (t : Term) → term_names n t ≡ false → NamesNone n t
names_not (NamedVariable v) t is = λ c. true≢false (sym (among_found (NamedVariable v) (named_in_term t) (NamedVariable v) c (eq-eqb v v refl)) ∙ is)
names_not (NamedField file field pointer) t is = λ other c.
    true≢false
    (sym
    (among_found (NamedField file field pointer) (named_in_term t) (NamedField file field other) c
    (and_from (nat_eq file file) (nat_eq field field) (eq-eqb file file refl) (eq-eqb field field refl)))
    ∙ is)

module _ (n : Named) where
  abbrev one : Term → ℕ
  one t = cond (term_names n t) 1 0

  abbrev count : List Term → ℕ
  count ts = count_by (term_names n) ts

  count_first : (t : Term) (ts : List Term) (b : Bool) → term_names n t ≡ b → count (t ∷ ts) ≡ cond b 1 0 + count ts
  count_first t ts b is = sum_by-cons one t ts ∙ ap (λ c. cond c 1 0 + count ts) is

  none_counted : (ts : List Term) → AllByRecursion (NamesNone n) ts → count ts ≡ 0
  none_counted [] none = refl
  none_counted (t ∷ ts) none = (let first = count_first t ts false (not_named n t none.0) in let rest = none_counted ts none.1 in omega (arith, first, rest))

  counted_none : (ts : List Term) → count ts ≡ 0 → AllByRecursion (NamesNone n) ts
  counted_none [] is = tt
  counted_none (t ∷ ts) is = by (term_names n t) refl (counted_none ts)
    where
      by : (b : Bool) → term_names n t ≡ b → (count ts ≡ 0 → AllByRecursion (NamesNone n) ts) → AllByRecursion (NamesNone n) (t ∷ ts)
      by true here rest = absurd (let first = count_first t ts true here in omega (arith, first, is))
      by false here rest = (names_not n t here, rest (let first = count_first t ts false here in omega (arith, first, is)))

  -- a term that is only the name is counted
  own_counted : (ts : List Term) → list_any (is_own n) ts ≡ true → 1 ≤ count ts
  own_counted [] is = cc
  own_counted (t ∷ ts) is = by (is_own n t) refl is (own_counted ts)
    where
      by : (b : Bool) → is_own n t ≡ b → (b || list_any (is_own n) ts) ≡ true → (list_any (is_own n) ts ≡ true → 1 ≤ count ts) → 1 ≤ count (t ∷ ts)
      by true here some rest = (let first = count_first t ts true (own_names n t (own_is n t here)) in omega (arith, first))
      by false here some rest = (let more = rest some in let first = sum_by-cons one t ts in omega (arith, more, first))

  -- a list of terms, split at the name
  record Parted (ts : List Term) : Type 0 where
    before : List Term
    own : Term
    after : List Term
    terms : ts ≡ before ++ own ∷ after
    alone : IsNameTerm n own
    front : AllByRecursion (NamesNone n) before
    back : AllByRecursion (NamesNone n) after

  parted : (ts : List Term) → count ts ≡ 1 → list_any (is_own n) ts ≡ true → Parted ts
  parted [] is some = cc
  parted (t ∷ ts) is some = by (term_names n t) refl (is_own n t) refl some (parted ts)
    where
      by : (b : Bool) → term_names n t ≡ b → (c : Bool) → is_own n t ≡ c → (c || list_any (is_own n) ts) ≡ true
          → (count ts ≡ 1 → list_any (is_own n) ts ≡ true → Parted ts) → Parted (t ∷ ts)
      by true named true own any rest = record {
        before = [];
        own = t;
        after = ts;
        terms = refl;
        alone = own_is n t own;
        front = tt;
        back = counted_none ts (let first = count_first t ts true named in omega (arith, first, is));
      }
      by true named false own any rest = absurd (let more = own_counted ts any in let first = count_first t ts true named in omega (arith, first, is, more))
      by false named true own any rest = absurd (true≢false (sym (own_names n t (own_is n t own)) ∙ named))
      by false named false own any rest =
          let r = rest (let first = count_first t ts false named in omega (arith, first, is)) any in
          record {
            before = t ∷ r.before;
            own = r.own;
            after = r.after;
            terms = ap (λ l. t ∷ l) r.terms;
            alone = r.alone;
            front = (names_not n t named, r.front);
            back = r.back;
          }

  any_behind : (ts rest : List Term) → list_any (is_own n) rest ≡ true → list_any (is_own n) (ts ++ rest) ≡ true
  any_behind [] rest is = is
  any_behind (t ∷ ts) rest is = by (is_own n t) (any_behind ts rest is)
    where
      by : (b : Bool) → list_any (is_own n) (ts ++ rest) ≡ true → (b || list_any (is_own n) (ts ++ rest)) ≡ true
      by true more = refl
      by false more = more

  -- an expression

  pub addition_is : (e : Expr) → is_sum n (out-Expr e).terms ≡ true → IsAdditionTo n e
  addition_is e is =
      let both = and_parts (nat_eq (count (out-Expr e).terms) 1) (list_any (is_own n) (out-Expr e).terms) is in
      let p = parted (out-Expr e).terms (eqb-true (count (out-Expr e).terms) 1 both.0) both.1 in
      record { before = p.before; own = p.own; after = p.after; terms = p.terms; alone = p.alone; front = p.front; back = p.back }

  pub is_addition : (e : Expr) → IsAdditionTo n e → is_sum n (out-Expr e).terms ≡ true
  is_addition e h =
      let behind : count (h.own ∷ h.after) ≡ 1 =
      (let first = count_first h.own h.after true (own_names n h.own h.alone) in let none = none_counted h.after h.back in omega (arith, first, none)) in
      let all : count (h.before ++ h.own ∷ h.after) ≡ 1 =
      (let parts = sum_by-append one h.before (h.own ∷ h.after) in let none = none_counted h.before h.front in omega (arith, parts, none, behind)) in
      let here : list_any (is_own n) (h.own ∷ h.after) ≡ true = ap (λ b. b || list_any (is_own n) h.after) (is_own_here n h.own h.alone) in
      subst (λ ts. is_sum n ts ≡ true) (sym h.terms)
      (and_from (nat_eq (count (h.before ++ h.own ∷ h.after)) 1) (list_any (is_own n) (h.before ++ h.own ∷ h.after))
      (eq-eqb (count (h.before ++ h.own ∷ h.after)) 1 all)
      (any_behind h.before (h.own ∷ h.after) here))

-- a statement

abbrev pub AddsOf : Exchange → ℕ → CellKind → ℕ → Layer → Type 0
AddsOf x b kind.Variable number l = AddsTo x b number l
AddsOf x b kind.Field number l = AddsToField x number l

module _ (x : Exchange) (b number : ℕ) where
  adds_at : (file field pointer : ℕ) (e : Expr) (o : Option Placed) → slice_get (files_of x) file ≡ o
      → field_number x file field ≡ number → width_in o field ≡ 32 → IsAdditionTo (NamedField file field pointer) e
      → AddsToField x number (stmt.SetField file field pointer e)
  adds_at file field pointer e None at is wide sum = absurd (omega (arith, wide))
  adds_at file field pointer e (Some placed) at is wide sum = adds_field file field pointer e placed (sym is) at sum wide

  pub adds_are : (k : CellKind) (l : Layer) → adds x b k number l ≡ true → AddsOf x b k number l
  adds_are kind.Variable (stmt.SetVariable v e) is =
      let three = and_parts (nat_eq (variable_number x b v) number && nat_eq (variable_width x b v) 32) (is_sum (NamedVariable v) (out-Expr e).terms) is in
      let two = and_parts (nat_eq (variable_number x b v) number) (nat_eq (variable_width x b v) 32) three.0 in
      adding v e (sym (eqb-true (variable_number x b v) number two.0)) (addition_is (NamedVariable v) e three.1) (eqb-true (variable_width x b v) 32 two.1)
  adds_are kind.Variable (stmt.SetField file field pointer e) is = cc
  adds_are kind.Field (stmt.SetVariable v e) is = cc
  adds_are kind.Field (stmt.SetField file field pointer e) is =
      let width = width_in (slice_get (files_of x) file) field in
      let three = and_parts (nat_eq (field_number x file field) number && nat_eq width 32) (is_sum (NamedField file field pointer) (out-Expr e).terms) is in
      let two = and_parts (nat_eq (field_number x file field) number) (nat_eq width 32) three.0 in
      adds_at file field pointer e (slice_get (files_of x) file) refl
      (eqb-true (field_number x file field) number two.0) (eqb-true width 32 two.1)
      (addition_is (NamedField file field pointer) e three.1)
  adds_are k _ is = cc

  pub are_adds : (k : CellKind) (l : Layer) → AddsOf x b k number l → adds x b k number l ≡ true
  are_adds kind.Variable _ (adding v e is sum wide) =
      and_from (nat_eq (variable_number x b v) number && nat_eq (variable_width x b v) 32) (is_sum (NamedVariable v) (out-Expr e).terms)
      (and_from (nat_eq (variable_number x b v) number) (nat_eq (variable_width x b v) 32)
      (eq-eqb (variable_number x b v) number (sym is)) (eq-eqb (variable_width x b v) 32 wide))
      (is_addition (NamedVariable v) e sum)
  are_adds kind.Field _ (adds_field file field pointer e placed is there sum wide) =
      let width = width_in (slice_get (files_of x) file) field in
      and_from (nat_eq (field_number x file field) number && nat_eq width 32) (is_sum (NamedField file field pointer) (out-Expr e).terms)
      (and_from (nat_eq (field_number x file field) number) (nat_eq width 32)
      (eq-eqb (field_number x file field) number (sym is))
      (eq-eqb width 32 (ap (λ o. width_in o field) there ∙ wide)))
      (is_addition (NamedField file field pointer) e sum)

-- the code's result for a statement that sets a field
pub field_said : (x : Exchange) (b : ℕ) (k : CellKind) (number : ℕ) (l : Layer) (file field pointer : ℕ) (e : Expr)
    (of said : Bool) (own width : ℕ) (terms : List Term)
    → l ≡ stmt.SetField file field pointer e → of ≡ is_of_fields k → own ≡ field_number x file field
    → width ≡ width_in (slice_get (files_of x) file) field → terms ≡ (out-Expr e).terms
    → said ≡ is_sum (NamedField file field pointer) terms → (((of && nat_eq own number) && nat_eq width 32) && said) ≡ adds x b k number l
field_said x b k number l file field pointer e of said own width terms is of_is own_is width_is terms_are said_is =
    (λ i. ((of_is i && nat_eq (own_is i) number) && nat_eq (width_is i) 32)
    && (said_is ∙ ap (is_sum (NamedField file field pointer)) terms_are) i) ∙ ap (adds x b k number) (sym is)
