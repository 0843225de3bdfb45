-- The rows of the ENTERs of a body, from the front.
use Rattle.std.proofs.Common.{◌≡◌, ℕ, ◌+◌, ◌<◌, ◌≤◌, List, [], ◌∷◌, ◌++◌, length, drop, get_or}
use Rattle.std.proofs.Common.{Some, None, refl, sym, ap, ◌∙◌, append_assoc}
use Rattle.std.specs.List.{cons_option}
use Rattle.std.proofs.lemmas.List.{drop_more, drop_all, append-nil}
use Rattle.exchange_model.specs.declared.block.Enter.{Enter}
use Rattle.exchange_model.specs.declared.stmt.Stmt.{Stmt}
use Rattle.exchange_model.specs.declared.stmt.StmtKind.{out-StmtKind}
use Rattle.exchange_model.specs.Kept.{enters_from, row_at, entered}

module _ (body : List Stmt) where
  -- the rows so far, and those of the statements that are left, are all
  pub record Rowed (i place : ℕ) (list : List Enter) : Type 0 where
    pub at : place ≡ i
    pub all : list ++ enters_from i (drop i body) ≡ enters_from 0 body

  pub enters_begin : Rowed 0 0 []
  enters_begin = record { at = refl; all = refl }

  next_row : (i : ℕ) (s : Stmt) → i < length body → s ≡ get_or body i s
      → enters_from i (drop i body) ≡ cons_option (row_at (entered (out-StmtKind s.kind)) i)
      (enters_from (i + 1) (drop (i + 1) body))
  unfolding enters_from
  next_row i s inside is = rw (drop_more body i s inside, ← is) refl

  pub enters_none : (i place after : ℕ) (list : List Enter) (s : Stmt) → i < length body → s ≡ get_or body i s
      → None ≡ entered (out-StmtKind s.kind) → after ≡ place + 1 → Rowed i place list → Rowed (i + 1) after list
  enters_none i place after list s inside is none one r = record {
    at = one ∙ ap (λ p. p + 1) r.at;
    all = sym (ap (λ rows. list ++ rows) (next_row i s inside is
        ∙ ap (λ o. cons_option (row_at o i) (enters_from (i + 1) (drop (i + 1) body))) (sym none))) ∙ r.all;
  }

  pub enters_more : (i place after signal : ℕ) (list new : List Enter) (s : Stmt) → i < length body
      → s ≡ get_or body i s → Some signal ≡ entered (out-StmtKind s.kind)
      → new ≡ list ++ record { signal = signal; place = place } ∷ [] → after ≡ place + 1 → Rowed i place list
      → Rowed (i + 1) after new
  enters_more i place after signal list new s inside is some more one r =
      let this : Enter = record { signal = signal; place = i } in
      let rest = enters_from (i + 1) (drop (i + 1) body) in
      let next : enters_from i (drop i body) ≡ this ∷ rest = next_row i s inside is ∙ ap (λ o. cons_option (row_at o i) rest) (sym some) in
      let now : new ≡ list ++ this ∷ [] = more ∙ ap (λ p. list ++ record { signal = signal; place = p } ∷ []) r.at in
      record {
        at = one ∙ ap (λ p. p + 1) r.at;
        all = ap (λ l. l ++ rest) now ∙ append_assoc list (this ∷ []) rest ∙ ap (λ rows. list ++ rows) (sym next) ∙ r.all;
      }

  pub enters_end : (i place : ℕ) (list : List Enter) → length body ≤ i → Rowed i place list → list ≡ enters_from 0 body
  unfolding enters_from
  enters_end i place list past r =
      let none : enters_from i (drop i body) ≡ [] = rw (drop_all i body past) refl in
      sym (append-nil list) ∙ ap (λ rows. list ++ rows) (sym none) ∙ r.all

pub ruleset enters_rowed = (enters_begin, enters_none, enters_more, enters_end)
