-- What expressions name, layer by layer and one after the other.
use Rattle.std.proofs.Common.{◌≡◌, ℕ, ◌+◌, ◌<◌, ◌≤◌, List, [], ◌∷◌, ◌++◌, length, map, drop, get_or}
use Rattle.std.proofs.Common.{Bool, Option, refl, sym, ap, ◌∙◌, subst, append_assoc, append-nil}
use Rattle.std.proofs.Math.ListN.{drop_of_length-le}
use Rattle.std.proofs.lemmas.List.{map-append}
use Rattle.plex_num.proofs.Lists.{opens}
use Rattle.exchange_model.specs.declared.expr.Expr.{Expr, out-Expr}
use Rattle.exchange_model.specs.declared.expr.Factor.{Factor}
use Rattle.exchange_model.specs.declared.expr.Factor.TheVariants as factor
use Rattle.exchange_model.specs.declared.expr.Joined.{Joined}
use Rattle.exchange_model.specs.declared.expr.Relation.{Relation}
use Rattle.exchange_model.specs.declared.expr.Term.{Term, out-Term}
use Rattle.exchange_model.specs.declared.stmt.Stmt.{Stmt}
use Rattle.exchange_model.specs.declared.stmt.When.{When}
use Rattle.exchange_model.specs.declared.stmt.StmtKind.{StmtKind, StmtKind-F, out-StmtKind}
use Rattle.exchange_model.specs.declared.expr.Cond.{Cond}
use Rattle.exchange_model.specs.declared.expr.Rel.{Rel}
use Rattle.exchange_model.specs.declared.stmt.Receiver.{Receiver}
use Rattle.exchange_model.specs.declared.stmt.StmtKind.TheOpen as layer
use Rattle.exchange_model.specs.declared.stmt.StmtKind.TheVariants as kind
use Rattle.exchange_model.specs.Inside.{joined, relation_exprs}
use Rattle.exchange_model.proofs.Layers.{same_kind}
use Rattle.exchange_model.proofs.Lists.{joined_append}
use Rattle.source_meaning.specs.Named.{Layer, Named, NamedVariable, NamedField, named_in}
use Rattle.source_meaning.specs.Named.{named_in_term, named_in_factor, named_in_joined}
use Rattle.source_meaning.proofs.Naming.{named_in-out, named_in_term-out, named-Variable}
use Rattle.source_meaning.proofs.Naming.{named-Field, named-Bracket, named-Number, named-Temporary}
use Rattle.source_meaning.proofs.Naming.{named-Reference}
use Rattle.entry_accesses.specs.declared.operands.Operand.{Operand}
use Rattle.entry_accesses.specs.Operands.{HasNames, named, names_in, relation_names, layer_names}

-- one after the other

pub record NamesGo {A : Type 0} (f : A → List Named) (xs : List A) (i : ℕ) (old now : List Operand) : Type 0 where
  pub same : map named now ++ joined (map f (drop i xs)) ≡ map named old ++ joined (map f xs)

pub names_begin : {A : Type 0} (f : A → List Named) (xs : List A) (old : List Operand) → NamesGo f xs 0 old old
names_begin f xs old = record { same = refl }

pub names_more : {A : Type 0} (f : A → List Named) (xs : List A) (i : ℕ) (x : A) (old now new : List Operand)
    → i < length xs → x ≡ get_or xs i x → HasNames now new (f x) → NamesGo f xs i old now → NamesGo f xs (i + 1) old new
names_more f xs i x old now new lt is h g = record {
  same =
      ap (λ l. l ++ joined (map f (drop (i + 1) xs))) h.is
      ∙ append_assoc (map named now) (f x) (joined (map f (drop (i + 1) xs)))
      ∙ ap (λ l. map named now ++ joined (map f l)) (sym (opens xs i x lt is))
      ∙ g.same;
}

pub names_end : {A : Type 0} (f : A → List Named) (xs : List A) (i : ℕ) (old now : List Operand) → length xs ≤ i
    → NamesGo f xs i old now → HasNames old now (joined (map f xs))
names_end f xs i old now past g = record {
  is = sym (append-nil (map named now)) ∙ sym (ap (λ l. map named now ++ joined (map f l)) (drop_of_length-le xs past)) ∙ g.same;
}

names_as : (old new : List Operand) (ms ns : List Named) → ms ≡ ns → HasNames old new ms → HasNames old new ns
names_as old new ms ns same h = record { is = h.is ∙ ap (λ l. map named old ++ l) same }

pub one_name : (old new : List Operand) (o : Operand) → new ≡ old ++ o ∷ [] → HasNames old new (named o ∷ [])
one_name old new o made = record { is = ap (map named) made ∙ map-append named old (o ∷ []) }

pub no_names : (old : List Operand) → HasNames old old []
no_names old = record { is = sym (append-nil (map named old)) }

-- one expression, or two

pub alone_named : (e : Expr) (old new : List Operand) → HasNames old new (named_in e) → HasNames old new (names_in (e ∷ []))
alone_named e old new h = names_as old new (named_in e) (names_in (e ∷ [])) (sym (append-nil (named_in e))) h

pub both_named : (e f : Expr) (old mid new : List Operand) → HasNames old mid (named_in e)
    → HasNames mid new (named_in f) → HasNames old new (names_in (e ∷ f ∷ []))
both_named e f old mid new g h = record {
  is =
      h.is
      ∙ ap (λ l. l ++ named_in f) g.is
      ∙ append_assoc (map named old) (named_in e) (named_in f)
      ∙ ap (λ l. map named old ++ (named_in e ++ l)) (sym (append-nil (named_in f)));
}

-- conditions

pub names_append : (es fs : List Expr) → names_in (es ++ fs) ≡ names_in es ++ names_in fs
names_append es fs = ap joined (map-append named_in es fs) ∙ joined_append (map named_in es) (map named_in fs)

abbrev pub sides : Relation → List Named
sides r = names_in (r.left ∷ r.right ∷ [])

relations_are : (rs : List Relation) → joined (map sides rs) ≡ relation_names rs
relations_are [] = refl
relations_are (r ∷ rs) =
    ap (λ l. sides r ++ l) (relations_are rs) ∙ sym (names_append (r.left ∷ r.right ∷ []) (relation_exprs rs))

pub relations_end : (rs : List Relation) (i : ℕ) (old now : List Operand) → length rs ≤ i → NamesGo sides rs i old now → HasNames old now (relation_names rs)
relations_end rs i old now past g = names_as old now (joined (map sides rs)) (relation_names rs) (relations_are rs) (names_end sides rs i old now past g)

choices_are : (rss : List (List Relation)) → joined (map relation_names rss) ≡ names_in (joined (map relation_exprs rss))
choices_are [] = refl
choices_are (rs ∷ rss) =
    ap (λ l. relation_names rs ++ l) (choices_are rss) ∙ sym (names_append (relation_exprs rs) (joined (map relation_exprs rss)))

pub choices_end : (rss : List (List Relation)) (i : ℕ) (old now : List Operand) → length rss ≤ i
    → NamesGo relation_names rss i old now → HasNames old now (names_in (joined (map relation_exprs rss)))
choices_end rss i old now past g =
    names_as old now (joined (map relation_names rss)) (names_in (joined (map relation_exprs rss))) (choices_are rss)
    (names_end relation_names rss i old now past g)

pub choices_more : (rss : List (List Relation)) (i : ℕ) (rs given : List Relation) (old now new : List Operand)
    → i < length rss → rs ≡ get_or rss i rs → given ≡ rs → HasNames now new (relation_names given)
    → NamesGo relation_names rss i old now → NamesGo relation_names rss (i + 1) old new
choices_more rss i rs given old now new lt is same h g = names_more relation_names rss i rs old now new lt is
    (subst (λ l. HasNames now new (relation_names l)) same h) g

-- layers of expressions

pub expr_named : (e : Expr) (terms : List Term) (old new : List Operand) → terms ≡ (out-Expr e).terms
    → HasNames old new (joined (map named_in_term terms)) → HasNames old new (named_in e)
expr_named e terms old new same h =
    names_as old new (joined (map named_in_term terms)) (named_in e) (ap (λ l. joined (map named_in_term l)) same ∙ sym (named_in-out e)) h

pub term_named : (t : Term) (factors : List Joined) (old new : List Operand) → factors ≡ (out-Term t).factors
    → HasNames old new (joined (map named_in_joined factors)) → HasNames old new (named_in_term t)
term_named t factors old new same h =
    names_as old new (joined (map named_in_joined factors)) (named_in_term t) (ap (λ l. joined (map named_in_joined l)) same ∙ sym (named_in_term-out t)) h

pub variable_named : (f : Factor) (v : ℕ) → f ≡ factor.Variable v → NamedVariable v ∷ [] ≡ named_in_factor f
variable_named f v is = sym (ap named_in_factor is ∙ named-Variable v)

pub field_named : (f : Factor) (file field pointer : ℕ) → f ≡ factor.Field file field pointer → NamedField file field pointer ∷ [] ≡ named_in_factor f
field_named f file field pointer is = sym (ap named_in_factor is ∙ named-Field file field pointer)

pub bracket_named : (f : Factor) (e : Expr) → f ≡ factor.Bracket e → named_in e ≡ named_in_factor f
bracket_named f e is = sym (ap named_in_factor is ∙ named-Bracket e)

pub number_named : (f : Factor) (n : ℕ) → f ≡ factor.Number n → [] ≡ named_in_factor f
number_named f n is = sym (ap named_in_factor is ∙ named-Number n)

pub temporary_named : (f : Factor) (t : ℕ) → f ≡ factor.Temporary t → [] ≡ named_in_factor f
temporary_named f t is = sym (ap named_in_factor is ∙ named-Temporary t)

pub reference_named : (f : Factor) (b : ℕ) → f ≡ factor.Reference b → [] ≡ named_in_factor f
reference_named f b is = sym (ap named_in_factor is ∙ named-Reference b)

pub factor_as : (f : Factor) (names : List Named) (old new : List Operand) → names ≡ named_in_factor f
    → HasNames old new names → HasNames old new (named_in_factor f)
factor_as f names old new same h = names_as old new names (named_in_factor f) same h

-- a statement, by its layer
pub layer_as : (k : StmtKind) (l : Layer) (old new : List Operand) → out-StmtKind k ≡ l
    → HasNames old new (layer_names l) → HasNames old new (layer_names (out-StmtKind k))
layer_as k l old new is h = subst (λ (m : Layer). HasNames old new (layer_names m)) (sym is) h

-- a statement with no expression of its own

pub layer_names_none : (k : StmtKind) →
    ((t : ℕ) (e : Expr) → k ≡ kind.SetTemp t e → ⊥) →
    ((v : ℕ) (e : Expr) → k ≡ kind.SetVariable v e → ⊥) →
    ((f d p : ℕ) (e : Expr) → k ≡ kind.SetField f d p e → ⊥) →
    ((c : Cond) (l : ℕ) → k ≡ kind.IfGoto c l → ⊥) →
    ((c : Cond) (ys ns : List Stmt) → k ≡ kind.If c ys ns → ⊥) →
    ((e : Expr) (ws : List When) (os : List Stmt) → k ≡ kind.Case e ws os → ⊥) →
    ((t : ℕ) (e f : Expr) (body : List Stmt) → k ≡ kind.On t e f body → ⊥) →
    ((t f d : ℕ) (r : Rel) (e : Expr) (l : ℕ) → k ≡ kind.ForFirst t f d r e l → ⊥) →
    ((s : ℕ) (to : Option Receiver) (es : List Expr) (fresh : Bool) → k ≡ kind.Send s to es fresh → ⊥) →
    ((m : ℕ) (es : List Expr) → k ≡ kind.Return m es → ⊥) → layer_names (out-StmtKind k) ≡ []
layer_names_none k no_temp no_variable no_field no_jump no_if no_case no_on no_search no_send no_return = alone (out-StmtKind k) refl
  where
    alone : (l : StmtKind-F StmtKind Stmt When) → out-StmtKind k ≡ l → layer_names l ≡ []
    alone (layer.SetTemp t e) is = absurd (no_temp t e (same_kind k (kind.SetTemp t e) _ is (kind.outs-SetTemp t e)))
    alone (layer.SetVariable v e) is = absurd (no_variable v e (same_kind k (kind.SetVariable v e) _ is (kind.outs-SetVariable v e)))
    alone (layer.SetField f d p e) is = absurd (no_field f d p e (same_kind k (kind.SetField f d p e) _ is (kind.outs-SetField f d p e)))
    alone (layer.IfGoto c l) is = absurd (no_jump c l (same_kind k (kind.IfGoto c l) _ is (kind.outs-IfGoto c l)))
    alone (layer.If c ys ns) is = absurd (no_if c ys ns (same_kind k (kind.If c ys ns) _ is (kind.outs-If c ys ns)))
    alone (layer.Case e ws os) is = absurd (no_case e ws os (same_kind k (kind.Case e ws os) _ is (kind.outs-Case e ws os)))
    alone (layer.On t e f body) is = absurd (no_on t e f body (same_kind k (kind.On t e f body) _ is (kind.outs-On t e f body)))
    alone (layer.ForFirst t f d r e l) is = absurd (no_search t f d r e l (same_kind k (kind.ForFirst t f d r e l) _ is (kind.outs-ForFirst t f d r e l)))
    alone (layer.Send s to es fresh) is = absurd (no_send s to es fresh (same_kind k (kind.Send s to es fresh) _ is (kind.outs-Send s to es fresh)))
    alone (layer.Return m es) is = absurd (no_return m es (same_kind k (kind.Return m es) _ is (kind.outs-Return m es)))
    alone _ is = refl

pub layer_none : (k : StmtKind) (old : List Operand) → layer_names (out-StmtKind k) ≡ [] → HasNames old old (layer_names (out-StmtKind k))
layer_none k old none = names_as old old [] (layer_names (out-StmtKind k)) (sym none) (no_names old)
