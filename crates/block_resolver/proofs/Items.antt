-- Steps of the loops over the items of a block.
use Rattle.std.proofs.Common.{◌≡◌, ℕ, ◌+◌, ◌<◌, ◌≤◌, List, [], ◌++◌, length, drop, get_or, refl}
use Rattle.std.proofs.Common.{sym, ◌∙◌, ap}
use Rattle.std.proofs.lemmas.List.{drop_all, append-nil}
use Rattle.plex_num.proofs.Lists.{opens}
use Rattle.plex_ast.specs.declared.block.Item.{Item}
use Rattle.exchange_model.specs.declared.block.Label.{Label}
use Rattle.exchange_model.specs.declared.stmt.Stmt.{Stmt as MStmt}
use Rattle.resolved_block.specs.Names.{Env}
use Rattle.resolved_block.specs.Blocks.{items_made, kind_made, labels_from, kind_labels}

pub record ItemsLeft (env : Env) (xs : List Item) (i : ℕ) (made : List MStmt) (now first : ℕ) : Type 0 where
  pub items : made ++ (items_made env (drop i xs) now).0 ≡ (items_made env xs first).0
  pub next : (items_made env (drop i xs) now).1 ≡ (items_made env xs first).1

pub items_begin : (env : Env) (xs : List Item) (now : ℕ) → ItemsLeft env xs 0 [] now now
items_begin env xs now = record { items = refl; next = refl }

-- what is left, with the item at a place in front
pub record ItemsCut (env : Env) (xs : List Item) (i : ℕ) (x : Item) (made : List MStmt) (now first : ℕ) : Type 0 where
  pub items : made ++ (kind_made env x.line x.kind (items_made env (drop (i + 1) xs)) now).0 ≡ (items_made env xs first).0
  pub next : (kind_made env x.line x.kind (items_made env (drop (i + 1) xs)) now).1 ≡ (items_made env xs first).1

pub items_cut : (env : Env) (xs : List Item) (i : ℕ) (x : Item) (made : List MStmt) (now first : ℕ) → i < length xs
    → x ≡ get_or xs i x → ItemsLeft env xs i made now first → ItemsCut env xs i x made now first
unfolding items_made
items_cut env xs i x made now first inside is w =
    let cut = opens xs i x inside is in
    record {
      items = sym (ap (λ l. made ++ (items_made env l now).0) cut) ∙ w.items;
      next = sym (ap (λ l. (items_made env l now).1) cut) ∙ w.next;
    }

pub items_end : (env : Env) (xs : List Item) (i : ℕ) (made : List MStmt) (now first : ℕ) → length xs ≤ i
    → ItemsLeft env xs i made now first → made ≡ (items_made env xs first).0
unfolding items_made
items_end env xs i made now first past w = sym (append-nil made) ∙ sym (ap (λ l. made ++ (items_made env l now).0) (drop_all i xs past)) ∙ w.items

pub items_next : (env : Env) (xs : List Item) (i : ℕ) (made : List MStmt) (now first : ℕ) → length xs ≤ i
    → ItemsLeft env xs i made now first → now ≡ (items_made env xs first).1
unfolding items_made
items_next env xs i made now first past w = sym (ap (λ l. (items_made env l now).1) (drop_all i xs past)) ∙ w.next

-- labels

pub record Placed (xs : List Item) (i place : ℕ) (list : List Label) : Type 0 where
  pub same : list ++ labels_from (drop i xs) place ≡ labels_from xs 0

pub places_begin : (xs : List Item) → Placed xs 0 0 []
places_begin xs = record { same = refl }

pub places_cut : (xs : List Item) (i place : ℕ) (x : Item) (list : List Label) → i < length xs → x ≡ get_or xs i x
    → Placed xs i place list → list ++ kind_labels x.kind place (labels_from (drop (i + 1) xs)) ≡ labels_from xs 0
unfolding labels_from
places_cut xs i place x list inside is w = sym (ap (λ l. list ++ labels_from l place) (opens xs i x inside is)) ∙ w.same

pub places_end : (xs : List Item) (i place : ℕ) (list : List Label) → length xs ≤ i → Placed xs i place list → list ≡ labels_from xs 0
unfolding labels_from
places_end xs i place list past w = sym (append-nil list) ∙ sym (ap (λ l. list ++ labels_from l place) (drop_all i xs past)) ∙ w.same

pub ruleset items_added = (items_begin, items_end, items_next)

pub ruleset labels_placed = (places_begin, places_end)
