-- The fields that an expression names, part by part.
use Rattle.std.proofs.Common.{◌≡◌, ℕ, ◌+◌, ◌<◌, ◌≤◌, List, [], ◌∷◌, ◌++◌, length, map, drop, get_or}
use Rattle.std.proofs.Common.{refl, sym, ap, ◌∙◌, append-nil, append_assoc}
use Rattle.std.proofs.Math.ListN.{drop_of_length-le}
use Rattle.plex_num.proofs.Lists.{opens}
use Rattle.exchange_model.specs.declared.expr.Factor.{Factor}
use Rattle.exchange_model.specs.declared.expr.Factor.TheVariants as factor
use Rattle.exchange_model.specs.Inside.{joined}
use Rattle.source_meaning.specs.Named.{Named, NamedVariable, NamedField, named_in, named_in_factor}
use Rattle.source_meaning.proofs.Naming.{named-Variable, named-Field, named-Bracket, named-Number}
use Rattle.source_meaning.proofs.Naming.{named-Temporary, named-Reference}
use Rattle.entry_faults.specs.declared.fields.Pointer.{Pointer}
use Rattle.entry_faults.specs.Fields.{pointer_to, pointers_named}

pub field_names : (f : Factor) (file field temp : ℕ) → f ≡ factor.Field file field temp → named_in_factor f ≡ NamedField file field temp ∷ []
field_names f file field temp is = ap named_in_factor is ∙ named-Field file field temp

pub bracket_names : (f : Factor) (e : _) → f ≡ factor.Bracket e → named_in_factor f ≡ named_in e
bracket_names f e is = ap named_in_factor is ∙ named-Bracket e

pointers_append : (a b : List Named) → pointers_named (a ++ b) ≡ pointers_named a ++ pointers_named b
pointers_append [] b = refl
pointers_append (NamedVariable v ∷ a) b = pointers_append a b
pointers_append (NamedField file field temp ∷ a) b = ap (λ l. pointer_to file temp ∷ l) (pointers_append a b)

pub fields_begin : {A : Type 0} (f : A → List Named) (xs given : List A) (n : List Named) (old : List Pointer)
    → n ≡ joined (map f xs) → given ≡ xs → old ++ pointers_named (joined (map f given)) ≡ old ++ pointers_named n
fields_begin f xs given n old is same = ap (λ l. old ++ pointers_named (joined (map f l))) same ∙ ap (λ l. old ++ pointers_named l) (sym is)

pub fields_more : {A : Type 0} (f : A → List Named) (xs : List A) (i : ℕ) (x : A) (now new all : List Pointer)
    → i < length xs → x ≡ get_or xs i x → new ≡ now ++ pointers_named (f x)
    → now ++ pointers_named (joined (map f (drop i xs))) ≡ all
    → new ++ pointers_named (joined (map f (drop (i + 1) xs))) ≡ all
fields_more f xs i x now new all lt is made h =
    let rest = joined (map f (drop (i + 1) xs)) in
    ap (λ l. l ++ pointers_named rest) made ∙ append_assoc now (pointers_named (f x)) (pointers_named rest)
    ∙ ap (λ l. now ++ l) (sym (pointers_append (f x) rest))
    ∙ ap (λ l. now ++ pointers_named (joined (map f l))) (sym (opens xs i x lt is)) ∙ h

pub fields_end : {A : Type 0} (f : A → List Named) (xs : List A) (i : ℕ) (now all : List Pointer) → length xs ≤ i
    → now ++ pointers_named (joined (map f (drop i xs))) ≡ all → now ≡ all
fields_end f xs i now all past h = sym (append-nil now) ∙ ap (λ l. now ++ pointers_named (joined (map f l))) (sym (drop_of_length-le xs past)) ∙ h

pub field_pushed : (f : Factor) (file field temp : ℕ) (old new : List Pointer) → f ≡ factor.Field file field temp
    → new ≡ old ++ pointer_to file temp ∷ [] → new ≡ old ++ pointers_named (named_in_factor f)
field_pushed f file field temp old new is made = made ∙ ap (λ l. old ++ pointers_named l) (sym (field_names f file field temp is))

pub bracket_pushed : (f : Factor) (e : _) (old new : List Pointer) → f ≡ factor.Bracket e
    → new ≡ old ++ pointers_named (named_in e) → new ≡ old ++ pointers_named (named_in_factor f)
bracket_pushed f e old new is made = made ∙ ap (λ l. old ++ pointers_named l) (sym (bracket_names f e is))

none_pushed : (f : Factor) (n : List Named) (old : List Pointer) → named_in_factor f ≡ n → pointers_named n ≡ []
    → old ≡ old ++ pointers_named (named_in_factor f)
none_pushed f n old is none = sym (append-nil old) ∙ ap (λ l. old ++ l) (sym none) ∙ ap (λ l. old ++ pointers_named l) (sym is)

pub number_pushed : (f : Factor) (n : ℕ) (old : List Pointer) → f ≡ factor.Number n → old ≡ old ++ pointers_named (named_in_factor f)
number_pushed f n old is = none_pushed f [] old (ap named_in_factor is ∙ named-Number n) refl

pub variable_pushed : (f : Factor) (v : ℕ) (old : List Pointer) → f ≡ factor.Variable v → old ≡ old ++ pointers_named (named_in_factor f)
variable_pushed f v old is = none_pushed f (NamedVariable v ∷ []) old (ap named_in_factor is ∙ named-Variable v) refl

pub temporary_pushed : (f : Factor) (t : ℕ) (old : List Pointer) → f ≡ factor.Temporary t → old ≡ old ++ pointers_named (named_in_factor f)
temporary_pushed f t old is = none_pushed f [] old (ap named_in_factor is ∙ named-Temporary t) refl

pub reference_pushed : (f : Factor) (b : ℕ) (old : List Pointer) → f ≡ factor.Reference b → old ≡ old ++ pointers_named (named_in_factor f)
reference_pushed f b old is = none_pushed f [] old (ap named_in_factor is ∙ named-Reference b) refl
