-- Expressions are listed, one after the other.
use Rattle.std.proofs.Common.{◌≡◌, ℕ, ◌+◌, ◌<◌, ◌≤◌, List, [], ◌∷◌, ◌++◌, length, map, drop, get_or}
use Rattle.std.proofs.Common.{refl, sym, ap, ◌∙◌, subst, append-nil, append_assoc}
use Rattle.std.proofs.Math.ListN.{drop_of_length-le}
use Rattle.plex_num.proofs.Lists.{opens}
use Rattle.exchange_model.specs.declared.expr.Expr.{Expr}
use Rattle.exchange_model.specs.declared.expr.Relation.{Relation}
use Rattle.exchange_model.specs.Inside.{joined, relation_exprs}
use Rattle.entry_faults.specs.declared.exprs.ExprAt.{ExprAt}
use Rattle.entry_faults.specs.Exprs.{expr_seen, AddsExprs}

map_push : (xs : List ExprAt) (x : ExprAt) → map expr_seen (xs ++ x ∷ []) ≡ map expr_seen xs ++ expr_seen x ∷ []
map_push [] x = refl
map_push (y ∷ xs) x = ap (λ l. expr_seen y ∷ l) (map_push xs x)

pub adds_one : (old new : List ExprAt) (x : ExprAt) → new ≡ old ++ x ∷ [] → AddsExprs old new (expr_seen x ∷ [])
adds_one old new x made = record { is = ap (λ l. map expr_seen l) made ∙ map_push old x }

pub adds_none : (old : List ExprAt) → AddsExprs old old []
adds_none old = record { is = sym (append-nil (map expr_seen old)) }

pub adds_both : (old mid new : List ExprAt) (a b : List Expr) → AddsExprs old mid a → AddsExprs mid new b → AddsExprs old new (a ++ b)
adds_both old mid new a b g h = record { is = h.is ∙ ap (λ l. l ++ b) g.is ∙ append_assoc (map expr_seen old) a b }

pub adds_as : (old new : List ExprAt) (a b : List Expr) → a ≡ b → AddsExprs old new a → AddsExprs old new b
adds_as old new a b same h = subst (AddsExprs old new) same h

pub adds_all : (old new : List ExprAt) (a b : List Expr) → old ≡ [] → a ≡ b → AddsExprs old new a → map expr_seen new ≡ b
adds_all old new a b none same h = h.is ∙ ap (λ l. map expr_seen l ++ a) none ∙ same

-- of a list, those that are left are still to be added
pub record AddsGo {A : Type 0} (f : List A → List Expr) (xs : List A) (old : List ExprAt) (i : ℕ) (now : List ExprAt) : Type 0 where
  pub left : map expr_seen now ++ f (drop i xs) ≡ map expr_seen old ++ f xs

pub adds_begin : {A : Type 0} (f : List A → List Expr) (xs : List A) (old : List ExprAt) → AddsGo f xs old 0 old
adds_begin f xs old = record { left = refl }

pub adds_more : {A : Type 0} (f : List A → List Expr) (xs : List A) (i : ℕ) (x : A) (old now new : List ExprAt)
    (a : List Expr) → i < length xs → x ≡ get_or xs i x → ((rest : List A) → f (x ∷ rest) ≡ a ++ f rest)
    → AddsExprs now new a → AddsGo f xs old i now → AddsGo f xs old (i + 1) new
adds_more f xs i x old now new a lt is opened h g = record {
  left =
      ap (λ l. l ++ f (drop (i + 1) xs)) h.is ∙ append_assoc (map expr_seen now) a (f (drop (i + 1) xs))
      ∙ ap (λ l. map expr_seen now ++ l) (sym (opened (drop (i + 1) xs)) ∙ ap f (sym (opens xs i x lt is))) ∙ g.left;
}

pub adds_end : {A : Type 0} (f : List A → List Expr) (xs : List A) (i : ℕ) (old now : List ExprAt) → f [] ≡ []
    → length xs ≤ i → AddsGo f xs old i now → AddsExprs old now (f xs)
adds_end f xs i old now none past g = record {
  is = sym (append-nil (map expr_seen now)) ∙ ap (λ l. map expr_seen now ++ l) (sym none ∙ ap f (sym (drop_of_length-le xs past))) ∙ g.left;
}

abbrev pub values_listed : List Expr → List Expr
values_listed es = es

abbrev pub condition_listed : List (List Relation) → List Expr
condition_listed rs = joined (map relation_exprs rs)
