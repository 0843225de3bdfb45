-- Whether an expression names a variable, or a field of any record, follows from its parts.
use Rattle.std.proofs.Common.{◌≡◌, ℕ, Bool, true, false, ◌||◌, List, [], ◌∷◌, map, refl, sym, ap}
use Rattle.std.proofs.Common.{◌∙◌}
use Rattle.std.specs.List.{Contains, list_any}
use Rattle.std.proofs.lemmas.List.Folds.{list_any-append}
use Rattle.std.proofs.lemmas.Map.Keys.{any_passes_from_place}
use Rattle.plex_num.proofs.Members.{first_is, later_is}
use Rattle.exchange_model.specs.declared.expr.Expr.{Expr, out-Expr}
use Rattle.exchange_model.specs.declared.expr.Factor.{Factor}
use Rattle.exchange_model.specs.declared.expr.Factor.TheVariants as factor
use Rattle.exchange_model.specs.declared.expr.Term.{Term, out-Term}
use Rattle.exchange_model.specs.Inside.{joined}
use Rattle.source_meaning.specs.Named.{Named, named_in_joined, named_in_term}
use Rattle.source_meaning.proofs.Naming.{named_in-out, named_in_term-out, named-Bracket}
use Rattle.source_meaning.proofs.Naming.{named-Field, named-Number, named-Reference}
use Rattle.source_meaning.proofs.Naming.{named-Temporary, named-Variable}
use Rattle.conflict_rows.proofs.Alone.{stands_at}
use Rattle.entry_additions.specs.Naming.{expr_names, factor_names, is_field_of, is_named}
use Rattle.entry_additions.specs.Naming.{is_variable_of, joined_names, term_names}

any_joined : {A B : Type 0} (p : B → Bool) (g : A → List B) (xs : List A) → list_any p (joined (map g xs)) ≡ list_any (λ t. t) (map (λ x. list_any p (g x)) xs)
any_joined p g [] = refl
any_joined p g (x ∷ xs) = list_any-append p (g x) (joined (map g xs)) ∙ ap (λ b. list_any p (g x) || b) (any_joined p g xs)

pub term_out : (n : Named) (t : Term) → term_names n t ≡ list_any (λ b. b) (map (joined_names n) (out-Term t).factors)
term_out n t = ap (list_any (is_named n)) (named_in_term-out t) ∙ any_joined (is_named n) named_in_joined (out-Term t).factors

pub expr_out : (n : Named) (e : Expr) → expr_names n e ≡ list_any (λ b. b) (map (term_names n) (out-Expr e).terms)
expr_out n e = ap (list_any (is_named n)) (named_in-out e) ∙ any_joined (is_named n) named_in_term (out-Expr e).terms

-- a factor

or_none : (b : Bool) → b ≡ (b || false)
or_none true = refl
or_none false = refl

module _ (n : Named) (f : Factor) where
  abbrev names_of : List Named → Bool
  names_of ns = list_any (is_named n) ns

  pub of_variable : (w : ℕ) → f ≡ factor.Variable w → is_variable_of n w ≡ factor_names n f
  of_variable w is = or_none (is_variable_of n w) ∙ ap names_of (sym (named-Variable w)) ∙ ap (factor_names n) (sym is)

  pub of_bracket : (e : Expr) → f ≡ factor.Bracket e → expr_names n e ≡ factor_names n f
  of_bracket e is = ap names_of (sym (named-Bracket e)) ∙ ap (factor_names n) (sym is)

  pub of_number : (m : ℕ) → f ≡ factor.Number m → false ≡ factor_names n f
  of_number m is = ap names_of (sym (named-Number m)) ∙ ap (factor_names n) (sym is)

  pub of_temporary : (t : ℕ) → f ≡ factor.Temporary t → false ≡ factor_names n f
  of_temporary t is = ap names_of (sym (named-Temporary t)) ∙ ap (factor_names n) (sym is)

  pub of_field : (file field pointer : ℕ) → f ≡ factor.Field file field pointer → is_field_of n file field ≡ factor_names n f
  of_field file field pointer is = or_none (is_field_of n file field) ∙ ap names_of (sym (named-Field file field pointer)) ∙ ap (factor_names n) (sym is)

  pub of_reference : (b : ℕ) → f ≡ factor.Reference b → false ≡ factor_names n f
  of_reference b is = ap names_of (sym (named-Reference b)) ∙ ap (factor_names n) (sym is)

-- the same for a list of names

pub found_among : (n : Named) (ns : List Named) → list_any (is_named n) ns ≡ true → (m : Named) × Contains ns m × (is_named n m ≡ true)
found_among n [] is = cc
found_among n (m ∷ ns) is = by (is_named n m) refl is (found_among n ns)
  where
    by : (b : Bool) → is_named n m ≡ b → (b || list_any (is_named n) ns) ≡ true
        → (list_any (is_named n) ns ≡ true → (o : Named) × Contains ns o × (is_named n o ≡ true))
        → (o : Named) × Contains (m ∷ ns) o × (is_named n o ≡ true)
    by true here some rest = (m, first_is m ns, here)
    by false here some rest = (let r = rest some in (r.0, later_is m r.0 ns r.1, r.2))

pub among_found : (n : Named) (ns : List Named) (m : Named) → Contains ns m → is_named n m ≡ true → list_any (is_named n) ns ≡ true
among_found n ns m c is = (let at = stands_at ns m c in any_passes_from_place (is_named n) ns at.0 m at.1 is)
